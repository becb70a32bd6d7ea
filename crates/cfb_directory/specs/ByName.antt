-- Siblings by their names.
use Rattle.std.specs.Prelude.{ℕ, List, map, slice_get, Option, None, Some}
use Rattle.carrier_model.specs.Files.{folded}
use Rattle.cfb_directory.specs.Named.{found}
use Rattle.cfb_directory.specs.Rising.{place_among}
use Rattle.cfb_directory.specs.Spelled.{names_in}
use Rattle.cfb_directory.specs.declared.named.Named.{Named}
use Rattle.cfb_directory.specs.declared.names.NameIndex.{NameIndex}

-- the element at a place
abbrev pub at_place : List ℕ → Option ℕ → Option ℕ
at_place ids None = None
at_place ids (Some k) = slice_get ids k

-- the one of some siblings that has a name in lower case
abbrev pub child_by : Option NameIndex → List (List ℕ) → List ℕ → List ℕ → Option ℕ
child_by None names ids q = at_place ids (place_among (map folded names) q)
child_by (Some index) names ids q = found index q

abbrev pub child_found : Named → List ℕ → List ℕ → Option ℕ
child_found n ids q = child_by n.index (names_in n.names) ids q
