-- Maps of ids and names.
use Rattle.std.specs.Prelude.{◌≡◌, ℕ, ◌≤◌, List, length, map, Contains, Option, Some, None}
use Rattle.carrier_model.specs.Keys.{Name, name_cmp}
use Rattle.carrier_model.specs.Sorted.{IsStrictlySorted}
use Rattle.msg_model.specs.NameMap.{Pair, pairs_from}
use Rattle.msg_nameid.specs.declared.map.Entry.{Entry}
use Rattle.prop_names.specs.Meaning.{name_of}

-- an id and its name
abbrev pub pair_of : Entry → Pair
pair_of e = (e.id, name_of e.name)

-- the names of a map, in its order
abbrev pub names_in : List Pair → List Name
names_in pairs = map (λ p. p.1) pairs

-- The ids follow one another from 8000 on, in the order of the names, and there are no more than a file has room for.
pub record IsAssigned (pairs : List Pair) : Type 0 where
  pub ids : pairs ≡ pairs_from 0 (names_in pairs)
  pub sorted : IsStrictlySorted name_cmp (names_in pairs)
  pub few : length pairs ≤ 32000

-- the least id of a name, if it has one
abbrev pub IsLeastId : List Pair → Name → Option ℕ → Type 0
IsLeastId pairs name None = (n : ℕ) → Contains pairs (n, name) → ⊥
IsLeastId pairs name (Some id) = Contains pairs (id, name) × ((n : ℕ) → Contains pairs (n, name) → id ≤ n)
