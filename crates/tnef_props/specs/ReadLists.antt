-- What a list that was read is.
use Rattle.std.specs.Prelude.{◌≡◌, ◌⊎◌, ℕ, ◌+◌, ◌≤◌, ◌++◌, Bool, true, false, List, [], length, drop, filter_map}
use Rattle.std.specs.Option.{option_map}
use Rattle.carrier_io.specs.Reads.{MeansOnly}
use Rattle.carrier_model.specs.Grammar.{Spans, Means, repeat}
use Rattle.tnef_model.specs.TnefLists.{Item, PropList, prop_list, any_item, word, passed_in}
use Rattle.prop_values.specs.declared.props.Part.{Part}
use Rattle.prop_values.specs.declared.props.Part.TheVariants.{Top, Embedded, Recipient, Attachment}
use Rattle.tnef_props.specs.declared.object.ReadList.{ReadList}
use Rattle.tnef_props.specs.Meaning.{object_of}

abbrev pub is_attachment : Part → Bool
is_attachment Top = false
is_attachment Embedded = false
is_attachment Recipient = false
is_attachment Attachment = true

-- the count at the head of a list is so many, or more
abbrev pub IsCounted : ℕ → List ℕ → ℕ → Type 0
IsCounted at bytes n = (count : ℕ) × Means word at bytes count × (n ≤ count)

-- What a refused list leaves among what was passed over. There are items at its front: they stand one behind another
-- behind its count, each an item by itself whatever stands before it, and they are no more than the count says; where
-- there is no count there are none. Behind what was passed over before stands what these items pass over, in their
-- order, and nothing else.
pub record PassedAtFront (in_attachment : Bool) (at : ℕ) (bytes : List ℕ) (old new : List (Bool × ℕ × ℕ)) : Type 0 where
  pub items : List Item
  pub stand : Means (repeat (length items) (λ before. any_item in_attachment) []) (at + 4) (drop 4 bytes) items
  pub counted : (items ≡ []) ⊎ IsCounted at bytes (length items)
  pub passed : new ≡ old ++ filter_map passed_in items

-- the plain list, with what was passed over
abbrev pub list_seen : {C : Type 0} → ReadList C → List (Bool × ℕ × ℕ) → PropList
list_seen x more = record { props = x.props; object = option_map object_of x.object; passed = more }

-- The bytes from a place up to the list's end are the list, they mean no other and have no fault, and what was
-- passed over was added.
pub record IsListOf {C : Type 0} (in_attachment : Bool) (bytes : List ℕ) (from at : ℕ) (old new : List (Bool × ℕ × ℕ)) (x : ReadList C) : Type 0 where
  pub more : List (Bool × ℕ × ℕ)
  pub spans : Spans (prop_list in_attachment) (at + from) (drop from bytes) (list_seen x more) (at + x.end) (drop x.end bytes)
  pub alone : MeansOnly (Means (prop_list in_attachment) (at + from) (drop from bytes)) ((prop_list in_attachment).fails (at + from) (drop from bytes)) (list_seen x more)
  pub passed : new ≡ old ++ more
