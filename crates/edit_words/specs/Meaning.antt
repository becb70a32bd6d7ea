-- What edits mean, and the edits that stand in a list of words.
use Rattle.std.specs.Prelude.{◌≡◌, ℕ, List, [], ◌∷◌, map, take, drop, Option, Some, None, String, string_bytes}
use Rattle.std.specs.List.{AllByRecursion, filter_map}
use Rattle.std.specs.declared.alloc.Global.{Global}
use Rattle.edit_model.specs.Edits as plain
use Rattle.edit_model.specs.Edits.{itself, recipient, attachment, set_prop, remove_prop, add_recipient, drop_recipient, drop_attachment}
use Rattle.edit_model.specs.EditWords as words
use Rattle.edit_model.specs.EditWords.{words_behind}
use Rattle.prop_names.specs.Meaning.{key_of}
use Rattle.prop_values.specs.Kinds.{kind_number}
use Rattle.edit_words.specs.declared.edits.Edit.{Edit}
use Rattle.edit_words.specs.declared.edits.Edit.TheVariants as one
use Rattle.edit_words.specs.declared.edits.Place.{Place}
use Rattle.edit_words.specs.declared.edits.Spot.{Spot}
use Rattle.edit_words.specs.declared.edits.Spot.TheVariants as spots
use Rattle.edit_words.specs.Reading.{IsShort}

-- words, as bytes
abbrev pub texts : List (String Global) → List (List ℕ)
texts words = map string_bytes words

abbrev pub spot_of : Spot → plain.Spot
spot_of spots.Message = itself
spot_of (spots.Recipient k) = recipient k
spot_of (spots.Attachment k) = attachment k

abbrev pub place_of : Place → plain.Place
place_of p = record { path = p.path; spot = spot_of p.spot }

abbrev pub edit_of : Edit → plain.Edit
edit_of (one.SetProp place prop) = set_prop (place_of place) prop
edit_of (one.RemoveProp place key kind) = remove_prop (place_of place) (key_of key) (kind_number kind)
edit_of (one.AddRecipient path) = add_recipient path
edit_of (one.DropRecipient path k) = drop_recipient path k
edit_of (one.DropAttachment path k) = drop_attachment path k

-- the edit of a first word and as many of the others as stand behind it
abbrev pub said_by : List (List ℕ) → Option plain.Edit
said_by [] = None
said_by (verb ∷ others) = words.edit_of verb (take (words_behind verb) others)

-- the edit that begins at a word
abbrev pub said_at : List (List ℕ) → ℕ → Option plain.Edit
said_at list at = said_by (drop at list)

-- the edits that begin at these words
abbrev pub said : List (List ℕ) → List ℕ → List plain.Edit
said list starts = filter_map (said_at list) starts

-- an edit begins at each of these words, and no word is longer than a word may be
pub record SayEdits (list : List (List ℕ)) (starts : List ℕ) : Type 0 where
  pub each : map Some (said list starts) ≡ map (said_at list) starts
  pub short : AllByRecursion IsShort list
