-- The words of a command.
use Rattle.std.specs.Prelude.{ℕ, ◌==◌, ◌&&◌, ◌||◌, not, Bool, true, if◌then◌else◌, List, [], ◌∷◌, length, nat_le, Option, Some, None, codes, bytes_eq}
use Rattle.std.specs.List.{list_all}
use Rattle.std.specs.Option.{option_map}
use Rattle.edit_model.specs.Edits.{Edit}
use Rattle.edit_model.specs.EditWords.{edits_of, is_digit, number_behind}
use Rattle.text_model.specs.SampleTrees.{GREATEST_SAMPLE}

-- what is made of an input, written to the output
pub data Job : Type 0 where
  to_msg : Job
  to_msg4 : Job
  to_tnef : Job
  wrap : Job
  unwrap : Job

-- what is changed in a message, before its .msg file is written
pub data Change : Type 0 where
  to_unicode : Change
  edited : (edits : List Edit) → Change

pub data Command : Type 0 where
  show : Command
  check : Command
  translate : (job : Job) → Command
  change : (what : Change) → Command
  to_json : Command
  from_json : Command
  sample : (number : ℕ) → Command

-- ---- numbers

-- no zero stands before other digits
abbrev pub has_no_leading_zero : List ℕ → Bool
has_no_leading_zero [] = true
has_no_leading_zero (c ∷ more) = not (c == 0x30) || (length more == 0)

-- one to four digits
abbrev pub is_number : List ℕ → Bool
is_number word = (nat_le 1 (length word) && nat_le (length word) 4) && (list_all is_digit word && has_no_leading_zero word)

-- ---- words

-- the commands of one word
abbrev pub words_of_one : List (List ℕ × Command)
words_of_one =
    (codes "show", show)
    ∷ (codes "check", check)
    ∷ (codes "to-msg", translate to_msg)
    ∷ (codes "to-msg4", translate to_msg4)
    ∷ (codes "to-tnef", translate to_tnef)
    ∷ (codes "wrap", translate wrap)
    ∷ (codes "unwrap", translate unwrap)
    ∷ (codes "to-unicode", change to_unicode)
    ∷ (codes "to-json", to_json)
    ∷ (codes "from-json", from_json)
    ∷ []

abbrev pub command_among : List (List ℕ × Command) → List ℕ → Option Command
command_among [] word = None
command_among (row ∷ rows) word = if bytes_eq row.0 word then Some row.1 else command_among rows word

abbrev pub sample_of : List ℕ → Option Command
sample_of word =
    if is_number word && nat_le (number_behind 0 word) GREATEST_SAMPLE then Some (sample (number_behind 0 word)) else None

-- the edits that the words behind `edit` are
abbrev pub edit_of : List (List ℕ) → Option Command
edit_of words = option_map (λ edits. change (edited edits)) (edits_of words)

-- the command of a word with these behind it, but for edits
abbrev pub other_of : List ℕ → List (List ℕ) → Option Command
other_of word [] = command_among words_of_one word
other_of word (number ∷ []) = if bytes_eq word (codes "sample") then sample_of number else None
other_of word (number ∷ more ∷ others) = None

-- the command of a list of words, or none
abbrev pub command_of : List (List ℕ) → Option Command
command_of [] = None
command_of (word ∷ words) = if bytes_eq word (codes "edit") then edit_of words else other_of word words
