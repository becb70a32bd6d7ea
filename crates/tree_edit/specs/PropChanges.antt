-- A property list with changes beside it, each of one key and kind.
use Rattle.std.specs.Prelude.{◌≡◌, List, [], ◌∷◌, Option, Some, None}
use Rattle.std.specs.List.{AllByRecursion}
use Rattle.std.specs.Option.{option_to_list}
use Rattle.std.specs.declared.cmp.Ordering.{Ordering}
use Rattle.std.specs.declared.cmp.Ordering.TheVariants.{Equal, Greater}
use Rattle.carrier_model.specs.Sorted.{with_element}
use Rattle.carrier_model.specs.Values.{Prop, kind_of, prop_cmp}
use Rattle.edit_model.specs.Edits.{without_pair}

-- the key and the kind that a change is of, of which the rest is not looked at; and the property that stands there then,
-- where one does
abbrev pub Change : Type 0
Change = Prop × Option Prop

-- the properties after a change: what had its key and kind is gone, and the new property is in its place
abbrev pub changed : Change → List Prop → List Prop
changed (pair, None) props = without_pair pair.key (kind_of pair.value) props
changed (pair, Some p) props = with_element prop_cmp (without_pair pair.key (kind_of pair.value) props) p

-- the same after some changes
abbrev pub with_changes : List Change → List Prop → List Prop
with_changes [] props = props
with_changes (c ∷ cs) props = changed c (with_changes cs props)

-- the property that a change puts in has the change's key and kind
abbrev pub IsChange : Change → Type 0
IsChange (pair, None) = Unit {0}
IsChange (pair, Some p) = prop_cmp p pair ≡ Equal

abbrev pub AreChanges : List Change → Type 0
AreChanges cs = AllByRecursion IsChange cs

-- what the first change puts in
abbrev pub first_put : List Change → List Prop
first_put [] = []
first_put (c ∷ cs) = option_to_list c.1

-- how the first change's key and kind stand to a property's, where none is above all
abbrev pub first_order : List Change → Prop → Ordering
first_order [] p = Greater
first_order (c ∷ cs) p = prop_cmp c.0 p
