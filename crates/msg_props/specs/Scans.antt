-- What was read of a list before it was looked at for doubles.
use Rattle.std.specs.Prelude.{◌≡◌, ◌⊎◌, ℕ, [], ◌∷◌, ◌++◌, Bool, true, List, Some, None, slice_get, is_some, Result, Ok, Err, filter_map}
use Rattle.std.specs.List.{list_any}
use Rattle.std.specs.Ordering.{nat_cmp, is_eq}
use Rattle.carrier_model.specs.Lists.{first_of_list}
use Rattle.carrier_model.specs.Meanings.{Passed}
use Rattle.carrier_model.specs.Reasons.{DUPLICATE_PROPERTY}
use Rattle.carrier_model.specs.Trail.{Fault}
use Rattle.carrier_model.specs.Turns.{in_turn}
use Rattle.carrier_model.specs.Values.{Prop}
use Rattle.msg_model.specs.MsgProps.{Part, Item, kept, passed, embedding, next_item, prop_in, passed_in, embedding_in}
use Rattle.msg_model.specs.MsgValues.{Streams, PropEntry}
use Rattle.msg_model.specs.NameMap.{Pair}
use Rattle.msg_props.specs.declared.reading.Draft.{Draft}
use Rattle.prop_values.specs.Arrivals.{AreDifferent, AreMarksOf, Came, IsFirstDouble}

-- what entries give in turn
abbrev pub items_of : Part → List Pair → Streams → List PropEntry → Result (List Item) Fault
items_of part pairs streams entries = in_turn (next_item part pairs streams) [] entries

-- whether a tag is among tags
abbrev pub has_tag : List ℕ → ℕ → Bool
has_tag tags t = list_any (λ x. is_eq (nat_cmp t x)) tags

abbrev pub IsEmpty : Draft → Type 0
IsEmpty d = (d.arrivals.props ≡ []) × AreMarksOf d.arrivals [] × (d.embedded ≡ None) × (d.tags ≡ [])

-- the tags and one more
abbrev pub IsTagged : List ℕ → List ℕ → ℕ → Type 0
IsTagged old new tag = (t : ℕ) → has_tag new t ≡ true → (t ≡ tag) ⊎ (has_tag old t ≡ true)

-- One item more; a property is marked with the place of its entry, whose tag is new, and the entry of an embedded message
-- is the first.
abbrev pub IsWith : Item → PropEntry → Draft → Draft → Type 0
IsWith (kept p) e old new = (new.arrivals.props ≡ old.arrivals.props ++ p ∷ []) × ((marks : List ℕ) → AreMarksOf old.arrivals marks → AreMarksOf new.arrivals (marks ++ e.place ∷ [])) × (new.embedded ≡ old.embedded) × IsTagged old.tags new.tags e.tag
IsWith (passed tag place) e old new = (new.arrivals ≡ old.arrivals) × (new.embedded ≡ old.embedded) × (new.tags ≡ old.tags)
IsWith (embedding place) e old new = (new.arrivals ≡ old.arrivals) × (old.embedded ≡ None) × (new.embedded ≡ Some place) × (new.tags ≡ old.tags)

-- a property of a tag that is there already, or an embedded message where there is one
abbrev pub IsSecond : Item → PropEntry → Draft → Type 0
IsSecond (kept p) e d = has_tag d.tags e.tag ≡ true
IsSecond (passed tag place) e d = ⊥
IsSecond (embedding place) e d = is_some d.embedded ≡ true

-- that the property of a mark is there twice is the fault of the entries
pub record IsDoubleFault (read : Result (List Item) Fault) (marks : List ℕ) (k : ℕ) : Type 0 where
  pub place : ℕ
  pub here : slice_get marks k ≡ Some place
  pub fault : read ≡ Err (DUPLICATE_PROPERTY, place)

-- the first property that is there twice is the fault of the entries, at its own
abbrev pub FirstDoubleFails : Result (List Item) Fault → List Prop → List ℕ → Type 0
FirstDoubleFails read props marks = (k : ℕ) → IsFirstDouble props k → IsDoubleFault read marks k

-- the same of properties that came, each marked with the place of its entry
pub record DoublesFail (read : Result (List Item) Fault) (arrivals : Came) : Type 0 where
  pub marks : List ℕ
  pub are_marks : AreMarksOf arrivals marks
  pub fail : FirstDoubleFails read arrivals.props marks

-- the entries give items if no two of their properties are the same, and what these items are
pub record IsScanned (read : Result (List Item) Fault) (d : Draft) (old new : List Passed) : Type 0 where
  pub items : List Item
  pub turn : AreDifferent d.arrivals.props → read ≡ Ok items
  pub props : d.arrivals.props ≡ filter_map prop_in items
  pub embedded : d.embedded ≡ first_of_list (filter_map embedding_in items)
  pub passed : new ≡ old ++ filter_map passed_in items
