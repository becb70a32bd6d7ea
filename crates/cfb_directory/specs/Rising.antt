-- Names that rise.
use Rattle.std.specs.Prelude.{◌≡◌, ℕ, suc, ◌<◌, List, [], ◌∷◌, length, get_or, Option, None, Some, nat_eq, if◌then◌else◌}
use Rattle.std.specs.Cmp.Lexicographic.{slice_cmp, pointwise}
use Rattle.std.specs.Option.{option_map}
use Rattle.std.specs.Ordering.{nat_cmp, then_cmp, on}
use Rattle.std.specs.declared.cmp.Ordering.{Ordering}
use Rattle.std.specs.declared.cmp.Ordering.TheVariants.{Less}

-- shorter names come first, and names of one length by their units
abbrev pub key_cmp : List ℕ → List ℕ → Ordering
key_cmp = then_cmp (on length nat_cmp) (slice_cmp nat_cmp)

-- each name comes before every later one
abbrev pub Rise : List (List ℕ) → Type 0
Rise keys = (i j : ℕ) → i < j → j < length keys → key_cmp (get_or keys i []) (get_or keys j []) ≡ Less

-- the first place of a name
abbrev pub place_among : List (List ℕ) → List ℕ → Option ℕ
place_among [] q = None
place_among (k ∷ keys) q = if pointwise nat_eq q k then Some 0 else option_map (λ n. suc n) (place_among keys q)
