use Rattle.std.proofs.Common.{rules}
use Rattle.edit_words.proofs.VerbWords.{too_few, too_many}
use Rattle.edit_words.proofs.scripts.read_edit.Goals as goal
use Rattle.edit_words.proofs.scripts.read_edit.Goals.{in_default-via-in-Set+then-words-lt4, in_default-via-in-Set+else-words-lt4+else-this-lt5, in_default-via-in-Remove+then-this-lt3, in_default-via-in-Remove+else-this-lt3+else-this-lt4, in_default-via-in-AddRecipient+then-this-lt1, in_default-via-in-AddRecipient+else-this-lt1+else-this-lt2, in_default-via-in-DropRecipient+then-this-lt2-2, in_default-via-in-DropRecipient+else-this-lt2-2+else-this-lt3-2, in_default-via-in-DropAttachment+then-this-lt2-3, in_default-via-in-DropAttachment+else-this-lt2-3+else-this-lt3-3}

pub returns-in_default : goal.returns-in_default
returns-in_default c = elim c.in_default.branch [
  | in_default-via-in-Set+then-words-lt4 w ↦ too_few c.args.verb c.args.words.now 4 (search rules) (search rules)
  | in_default-via-in-Set+else-words-lt4+else-this-lt5 w ↦ too_many c.args.verb c.args.words.now 4 (search rules) (search rules)
  | in_default-via-in-Remove+then-this-lt3 w ↦ too_few c.args.verb c.args.words.now 3 (search rules) (search rules)
  | in_default-via-in-Remove+else-this-lt3+else-this-lt4 w ↦ too_many c.args.verb c.args.words.now 3 (search rules) (search rules)
  | in_default-via-in-AddRecipient+then-this-lt1 w ↦ too_few c.args.verb c.args.words.now 1 (search rules) (search rules)
  | in_default-via-in-AddRecipient+else-this-lt1+else-this-lt2 w ↦ too_many c.args.verb c.args.words.now 1 (search rules) (search rules)
  | in_default-via-in-DropRecipient+then-this-lt2-2 w ↦ too_few c.args.verb c.args.words.now 2 (search rules) (search rules)
  | in_default-via-in-DropRecipient+else-this-lt2-2+else-this-lt3-2 w ↦ too_many c.args.verb c.args.words.now 2 (search rules) (search rules)
  | in_default-via-in-DropAttachment+then-this-lt2-3 w ↦ too_few c.args.verb c.args.words.now 2 (search rules) (search rules)
  | in_default-via-in-DropAttachment+else-this-lt2-3+else-this-lt3-3 w ↦ too_many c.args.verb c.args.words.now 2 (search rules) (search rules)
]
