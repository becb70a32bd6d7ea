-- Numbers that tell most properties apart, in the order of the properties.
use Rattle.std.specs.Prelude.{◌≡◌, ℕ, ◌+◌, ◌*◌, ◌<◌, List, length, slice_index_or}
use Rattle.std.specs.Ordering.{nat_cmp, on, then_cmp}
use Rattle.std.specs.Cmp.Lexicographic.{slice_cmp}
use Rattle.std.specs.declared.cmp.Ordering.{Ordering}
use Rattle.std.specs.declared.cmp.Ordering.TheVariants.{Less, Equal, Greater}
use Rattle.carrier_model.specs.Keys.{Name, numbered, texted, Key, IsKey, id, named, set_of}
use Rattle.carrier_model.specs.Values.{Prop, kind_of, prop_cmp}
use Rattle.prop_values.specs.Arrivals.{pair_cmp}

-- names in one set: numbers by value, and then texts, which are not told apart
abbrev pub rank_in_set : Name → ℕ
rank_in_set (numbered set n) = 0x2_0000_0000 + n
rank_in_set (texted set units) = 0x3_0000_0000

-- a name by where its set stands to the one that was chosen
abbrev pub rank_beside : Ordering → Name → ℕ
rank_beside Less name = 0x1_0000_0000
rank_beside Equal name = rank_in_set name
rank_beside Greater name = 0x4_0000_0000

abbrev pub key_rank : List ℕ → Key → ℕ → ℕ
key_rank set (id n) kind = n * 0x10000 + kind
key_rank set (named name) kind = rank_beside (slice_cmp nat_cmp (set_of name) set) name

abbrev pub rank_of : List ℕ → Prop → ℕ
rank_of set p = key_rank set p.key (kind_of p.value)

-- the rank of a property beside a set, and what ranks rely on
pub record IsRank (set : List ℕ) (p : Prop) (rank : ℕ) : Type 0 where
  pub rank_is : rank ≡ rank_of set p
  pub key_fits : IsKey p.key
  pub kind_fits : kind_of p.value < 0x10000

-- where ranks differ, the properties are in the order of their ranks
abbrev pub AreRanked : {X : Type 0} → List X → (X → Prop) → (X → ℕ) → Type 0
AreRanked {X} xs prop rank = (i j : ℕ) (d e : X) → i < length xs → j < length xs → rank (slice_index_or xs i d) < rank (slice_index_or xs j e) → prop_cmp (prop (slice_index_or xs i d)) (prop (slice_index_or xs j e)) ≡ Less

-- by rank, and where these are the same as before
abbrev pub ranked_cmp : {X : Type 0} → (X → Prop) → (X → ℕ) → (X → ℕ) → X → X → Ordering
ranked_cmp prop rank place = then_cmp (on rank nat_cmp) (pair_cmp prop place)
