-- The order of ids and names by name.
use Rattle.std.specs.Prelude.{◌≡◌, ℕ, ◌<◌, ◌≤◌, true, false, List, [], length, get_or, min, Option, Some, None}
use Rattle.std.specs.Ordering.{nat_cmp, then_cmp, on, is_lt}
use Rattle.std.specs.declared.cmp.Ordering.{Ordering}
use Rattle.carrier_model.specs.Keys.{Name, numbered, name_cmp}
use Rattle.msg_model.specs.NameMap.{Pair}

-- by name, and those of one name by id
abbrev pub pair_cmp : Pair → Pair → Ordering
pair_cmp = then_cmp (on (λ p. p.1) name_cmp) (on (λ p. p.0) nat_cmp)

-- the pair at a place
abbrev pub pair_at : List Pair → ℕ → Pair
pair_at pairs place = get_or pairs place (0, numbered [] 0)

-- The names before a place are below a name, and those from it on are not.
pub record IsFrontOf (pairs : List Pair) (name : Name) (at : ℕ) : Type 0 where
  pub within : at ≤ length pairs
  pub below : (k : ℕ) → k < at → is_lt (name_cmp (pair_at pairs k).1 name) ≡ true
  pub above : (k : ℕ) → at ≤ k → k < length pairs → is_lt (name_cmp (pair_at pairs k).1 name) ≡ false

-- the lower of an id and one that was found before
abbrev pub lower_id : Option ℕ → ℕ → ℕ
lower_id None id = id
lower_id (Some found) id = min found id
