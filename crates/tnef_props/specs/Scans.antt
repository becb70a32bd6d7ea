-- What was read of a list before it was looked at for doubles.
use Rattle.std.specs.Prelude.{◌≡◌, ℕ, [], ◌∷◌, ◌++◌, Bool, true, List, Some, None, slice_get, is_some}
use Rattle.std.specs.Option.{option_map}
use Rattle.carrier_model.specs.Reasons.{DUPLICATE_LIST_PROPERTY}
use Rattle.carrier_model.specs.Sorted.{with_elements}
use Rattle.tnef_model.specs.TnefLists.{Item, kept, passed, carried, PropList, prop_list}
use Rattle.carrier_model.specs.Values.{Prop, prop_cmp}
use Rattle.prop_values.specs.Arrivals.{AreMarksOf, Came, IsFirstDouble}
use Rattle.tnef_props.specs.declared.list.Draft.{Draft}
use Rattle.tnef_props.specs.declared.rest.Rest.{Rest}
use Rattle.tnef_props.specs.Meaning.{object_of}

abbrev pub IsEmpty : {C : Type 0} → Draft C → Type 0
IsEmpty d = (d.arrivals.props ≡ []) × AreMarksOf d.arrivals [] × (d.object ≡ None)

-- one item more; a property is marked with the offset of its tag, and an Object is the first
abbrev pub IsWith : {C : Type 0} → Item → ℕ → Draft C → Draft C → Type 0
IsWith (kept p) offset old new = (new.arrivals.props ≡ old.arrivals.props ++ p ∷ []) × ((offsets : List ℕ) → AreMarksOf old.arrivals offsets → AreMarksOf new.arrivals (offsets ++ offset ∷ [])) × (new.object ≡ old.object)
IsWith (passed t place) offset old new = (new.arrivals ≡ old.arrivals) × (new.object ≡ old.object)
IsWith (carried place content) offset old new = (new.arrivals ≡ old.arrivals) × (old.object ≡ None) × (option_map object_of new.object ≡ Some (place, content))

-- an Object, and there is one already
abbrev pub IsSecondObject : {C : Type 0} → Item → Draft C → Type 0
IsSecondObject (kept p) d = ⊥
IsSecondObject (passed t place) d = ⊥
IsSecondObject (carried place content) d = is_some d.object ≡ true

-- that the property with an offset is there twice is a fault of the list, at that offset
pub record IsDoubleFault (in_attachment : Bool) (from : Rest) (offsets : List ℕ) (k : ℕ) : Type 0 where
  pub offset : ℕ
  pub here : slice_get offsets k ≡ Some offset
  pub fault : (prop_list in_attachment).fails from.place from.bytes.now (DUPLICATE_LIST_PROPERTY, offset)

-- the first property that is there twice is a fault of the list, at its offset
abbrev pub FirstDoubleFails : Bool → Rest → List Prop → List ℕ → Type 0
FirstDoubleFails in_attachment from props offsets = (k : ℕ) → IsFirstDouble props k → IsDoubleFault in_attachment from offsets k

-- the same of properties that came, each marked with the offset of its tag
pub record DoublesFail (in_attachment : Bool) (from : Rest) (arrivals : Came) : Type 0 where
  pub offsets : List ℕ
  pub marks : AreMarksOf arrivals offsets
  pub fail : FirstDoubleFails in_attachment from arrivals.props offsets

-- the plain list, with what was passed over
abbrev pub draft_seen : {C : Type 0} → Draft C → List (Bool × ℕ × ℕ) → PropList
draft_seen d more = record { props = with_elements prop_cmp [] d.arrivals.props; object = option_map object_of d.object; passed = more }
