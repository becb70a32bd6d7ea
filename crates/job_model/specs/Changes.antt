-- What is changed in a message before its .msg file is written, and what stands against it; and what stands against a
-- JSON text as a message.
use Rattle.std.specs.Prelude.{ℕ, List, Option, Some, None, Result, Ok, Err}
use Rattle.carrier_model.specs.Tree.{Message}
use Rattle.edit_model.specs.Edits.{EditFault, edited_tree}
use Rattle.edit_model.specs.EditTexts.{edit_text}
use Rattle.job_model.specs.Commands.{Change, to_unicode, edited}
use Rattle.json_model.specs.Faults.{JsonFault, json_fault_text}
use Rattle.text8_model.specs.Unicode.{converted, first_unmapped}
use Rattle.text8_model.specs.Unmapped.{Unmapped, unmapped_text}

-- A text that its page doesn't map, an edit that can't be done, or JSON that means no tree.
pub data Snag : Type 0 where
  unmapped : (at : Unmapped) → Snag
  undone : (at : EditFault) → Snag
  no_tree : (at : JsonFault) → Snag

-- the tree where all of its texts are mapped
abbrev pub unless_unmapped : Option Unmapped → Message → Result Message Snag
unless_unmapped None t = Ok t
unless_unmapped (Some at) t = Err (unmapped at)

abbrev pub unless_undone : Result Message EditFault → Result Message Snag
unless_undone (Ok t) = Ok t
unless_undone (Err at) = Err (undone at)

-- what becomes of a message, or the first thing that stands against it
abbrev pub changed : Change → Message → Result Message Snag
changed to_unicode t = unless_unmapped (first_unmapped t) (converted t)
changed (edited edits) t = unless_undone (edited_tree edits t)

-- what the report says of it, and the program's exit code
abbrev pub snag_text : Snag → List ℕ
snag_text (unmapped at) = unmapped_text at
snag_text (undone at) = edit_text at
snag_text (no_tree at) = json_fault_text at

abbrev pub snag_code : Snag → ℕ
snag_code (unmapped at) = 7
snag_code (undone at) = 9
snag_code (no_tree at) = 8
