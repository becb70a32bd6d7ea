-- The children of a storage by name.
use Rattle.std.specs.Prelude.{ℕ, List, [], ◌∷◌, Bool, true, not, ◌&&◌, Option, None, Some, is_some, nat_eq, if◌then◌else◌}
use Rattle.std.specs.BTreeMap.{get_by}
use Rattle.std.specs.Cmp.Lexicographic.{slice_cmp, pointwise}
use Rattle.std.specs.Ordering.{nat_cmp}
use Rattle.carrier_model.specs.Files.{name_of, folded}
use Rattle.carrier_model.specs.Links.{Directory}
use Rattle.cfb_directory.specs.declared.names.NameIndex.{NameIndex}

-- the child that an index has under a name in lower case
abbrev pub found : NameIndex → List ℕ → Option ℕ
found index q = get_by (λ k. slice_cmp nat_cmp q k.items) index.ids

-- the name of an entry, and the same in lower case
abbrev pub name_at : Directory → ℕ → List ℕ
name_at d id = name_of (d.entry id)

abbrev pub key_of : Directory → ℕ → List ℕ
key_of d id = folded (name_of (d.entry id))

-- the first of some entries that has this name, where a key is an entry's name in lower case
abbrev pub first_named : (ℕ → List ℕ) → List ℕ → List ℕ → Option ℕ
first_named key q [] = None
first_named key q (id ∷ ids) = if pointwise nat_eq q (key id) then Some id else first_named key q ids

-- whether no two of some entries have one name
abbrev pub are_apart : (ℕ → List ℕ) → List ℕ → Bool
are_apart key [] = true
are_apart key (id ∷ ids) = not (is_some (first_named key (key id) ids)) && are_apart key ids
