use Rattle.std.proofs.Common.{◌≡◌, drop}
use Rattle.edit_model.specs.EditWords.{are_short}
use Rattle.edit_words.specs.Meaning.{texts}
use Rattle.edit_words.proofs.scripts.are_short.Given as goal

abbrev pub invariant-loop-word : goal.invariant-loop-word
invariant-loop-word l = are_short (texts (drop l.word-index l.words)) ≡ are_short (texts l.words)
