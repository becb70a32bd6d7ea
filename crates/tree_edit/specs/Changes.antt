-- What one edit does to the part of a message that it changes.
use Rattle.std.specs.Prelude.{◌≡◌, List, [], ◌∷◌, ◌++◌, Result, Ok, Err}
use Rattle.carrier_model.specs.Tree.{Message, Attached}
use Rattle.carrier_model.specs.Values.{Prop}
use Rattle.edit_model.specs.Edits.{Edit, set_prop, remove_prop, add_recipient, drop_recipient, drop_attachment, Why, with_prop, without_prop, with_recipients, with_attachments, dropped_at, at_spot}
use Rattle.edit_words.specs.Parts.{Part, properties, recipients, attachments}
use Rattle.tree_edit.specs.declared.ends.OnceEnd.{OnceEnd}
use Rattle.tree_edit.specs.declared.ends.OnceEnd.TheVariants.{Cannot, NoMemory}
use Rattle.tree_edit.specs.Meaning.{why_of}

-- what an edit does to the list that it changes; another list stays
abbrev pub on_props : Edit → List Prop → Result (List Prop) Why
on_props (set_prop place p) props = with_prop p props
on_props (remove_prop place key kind) props = without_prop key kind props
on_props (add_recipient path) props = Ok props
on_props (drop_recipient path k) props = Ok props
on_props (drop_attachment path k) props = Ok props

abbrev pub on_recipients : Edit → List (List Prop) → Result (List (List Prop)) Why
on_recipients (set_prop place p) list = Ok list
on_recipients (remove_prop place key kind) list = Ok list
on_recipients (add_recipient path) list = Ok (list ++ [] ∷ [])
on_recipients (drop_recipient path k) list = dropped_at k list
on_recipients (drop_attachment path k) list = Ok list

abbrev pub on_attachments : Edit → List Attached → Result (List Attached) Why
on_attachments (set_prop place p) list = Ok list
on_attachments (remove_prop place key kind) list = Ok list
on_attachments (add_recipient path) list = Ok list
on_attachments (drop_recipient path k) list = Ok list
on_attachments (drop_attachment path k) list = dropped_at k list

-- the same with a message of which the edit changes a part
abbrev pub on_part : Part → Edit → Message → Result Message Why
on_part (properties spot) e = at_spot (on_props e) spot
on_part recipients e = with_recipients (on_recipients e)
on_part attachments e = with_attachments (on_attachments e)

-- why there is no result; or there was no memory
abbrev pub IsCauseOf : {A : Type 0} → Result A Why → OnceEnd → Type 0
IsCauseOf result (Cannot why) = result ≡ Err (why_of why)
IsCauseOf result NoMemory = Unit {0}
