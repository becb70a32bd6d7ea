-- The children of each entry, by number.
use Rattle.std.specs.Prelude.{ℕ, List, [], ◌∷◌, get_or, map, Option, None, Some, nat_eq, if◌then◌else◌}
use Rattle.std.specs.declared.alloc.Global.{Global}
use Rattle.std.specs.declared.boxed.Box.{Box}
use Rattle.cfb_directory.specs.ByName.{child_found}
use Rattle.cfb_directory.specs.Spelled.{names_in}
use Rattle.cfb_directory.specs.declared.family.Family.{Family}
use Rattle.cfb_directory.specs.declared.family.Kin.{Kin}
use Rattle.cfb_directory.specs.declared.links.Member.{Member}

-- the numbers of children, what an index has under a name, and the names
abbrev pub kids_in : Option (Box Kin Global) → List ℕ
kids_in None = []
kids_in (Some kin) = kin.value.children.items

abbrev pub index_in : Option (Box Kin Global) → List ℕ → Option ℕ
index_in None q = None
index_in (Some kin) q = child_found kin.value.named kin.value.children.items q

abbrev pub spelled_in : Option (Box Kin Global) → List (List ℕ)
spelled_in None = []
spelled_in (Some kin) = names_in kin.value.named.names

-- the same of a family
abbrev pub kids_of : Family → List ℕ
kids_of f = kids_in f.kin

abbrev pub index_of : Family → List ℕ → Option ℕ
index_of f = index_in f.kin

abbrev pub names_of : Family → List (List ℕ)
names_of f = spelled_in f.kin

-- and of an entry
abbrev pub family_at : List Family → ℕ → List ℕ
family_at families p = get_or (map kids_of families) p []

abbrev pub index_at : List Family → ℕ → List ℕ → Option ℕ
index_at families p = get_or (map index_of families) p (λ _. None)

abbrev pub names_at : List Family → ℕ → List (List ℕ)
names_at families p = get_or (map names_of families) p []

-- the entries that are in this storage
abbrev pub children_in : ℕ → List Member → List ℕ
children_in p [] = []
children_in p (c ∷ cs) = if nat_eq c.parent p then c.id ∷ children_in p cs else children_in p cs
