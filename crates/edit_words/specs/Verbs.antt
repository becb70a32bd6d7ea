-- The first words of edits.
use Rattle.std.specs.Prelude.{◌≡◌, List, ℕ, Option, Some, None, codes, bytes_eq, false}
use Rattle.edit_model.specs.Edits.{Edit, drop_recipient, drop_attachment}
use Rattle.edit_words.specs.declared.verbs.Verb.{Verb}
use Rattle.edit_words.specs.declared.verbs.Verb.TheVariants as verbs

abbrev pub word_of : Verb → List ℕ
word_of verbs.Set = codes "set"
word_of verbs.Remove = codes "remove"
word_of verbs.AddRecipient = codes "add-recipient"
word_of verbs.DropRecipient = codes "drop-recipient"
word_of verbs.DropAttachment = codes "drop-attachment"

-- a word that is none of these
pub record IsNoVerb (word : List ℕ) : Type 0 where
  pub set : bytes_eq word (codes "set") ≡ false
  pub remove : bytes_eq word (codes "remove") ≡ false
  pub add_recipient : bytes_eq word (codes "add-recipient") ≡ false
  pub drop_recipient : bytes_eq word (codes "drop-recipient") ≡ false
  pub drop_attachment : bytes_eq word (codes "drop-attachment") ≡ false

-- a word's verb, where it has one
abbrev pub IsVerbOf : List ℕ → Option Verb → Type 0
IsVerbOf word (Some verb) = word ≡ word_of verb
IsVerbOf word None = IsNoVerb word

-- what is dropped, by the path to its message and its number
abbrev pub recipient_dropped : List ℕ × ℕ → Edit
recipient_dropped p = drop_recipient p.0 p.1

abbrev pub attachment_dropped : List ℕ × ℕ → Edit
attachment_dropped p = drop_attachment p.0 p.1
