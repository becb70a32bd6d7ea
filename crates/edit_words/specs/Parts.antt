-- The message to which an edit leads, and what the edit changes in it.
use Rattle.std.specs.Prelude.{ℕ, List}
use Rattle.edit_model.specs.Edits.{Edit, set_prop, remove_prop, add_recipient, drop_recipient, drop_attachment, Spot}
use Rattle.edit_words.specs.declared.edits.Part as declared
use Rattle.edit_words.specs.declared.edits.Part.TheVariants as one
use Rattle.edit_words.specs.Meaning.{spot_of}

-- what an edit changes in its message
pub data Part : Type 0 where
  properties : (spot : Spot) → Part
  recipients : Part
  attachments : Part

abbrev pub part_meant : declared.Part → Part
part_meant (one.Props spot) = properties (spot_of spot)
part_meant one.Recipients = recipients
part_meant one.Attachments = attachments

-- the path to the message of an edit
abbrev pub path_of : Edit → List ℕ
path_of (set_prop place p) = place.path
path_of (remove_prop place key kind) = place.path
path_of (add_recipient path) = path
path_of (drop_recipient path k) = path
path_of (drop_attachment path k) = path

abbrev pub part_of : Edit → Part
part_of (set_prop place p) = properties place.spot
part_of (remove_prop place key kind) = properties place.spot
part_of (add_recipient path) = recipients
part_of (drop_recipient path k) = recipients
part_of (drop_attachment path k) = attachments
