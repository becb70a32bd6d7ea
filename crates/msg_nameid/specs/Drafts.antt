-- A map whose entries are still gathered.
use Rattle.std.specs.Prelude.{◌≡◌, ℕ, List, All, filter_map, map}
use Rattle.carrier_model.specs.Chains.{member}
use Rattle.carrier_model.specs.Keys.{IsName}
use Rattle.msg_model.specs.NameMap.{Pair, Given, pair_in}
use Rattle.msg_nameid.specs.declared.drafts.Draft.{Draft}
use Rattle.msg_nameid.specs.Maps.{pair_of, names_in}
use Rattle.msg_nameid.specs.Tables.{IsTable, slot_at, is_taken}

abbrev pub pairs_in : Draft → List Pair
pairs_in d = map pair_of d.entries.items

-- its slots lead to its names
pub record IsWhole (d : Draft) : Type 0 where
  pub table : IsTable d.slots (pairs_in d)
  pub names : All IsName (names_in (pairs_in d))

-- it has what entries gave
pub record IsDraftOf (d : Draft) (given : List Given) : Type 0 where
  pub pairs : pairs_in d ≡ filter_map pair_in given
  pub taken : (k : ℕ) → is_taken (slot_at d.slots k) ≡ member k (map (λ g. g.index) given)
