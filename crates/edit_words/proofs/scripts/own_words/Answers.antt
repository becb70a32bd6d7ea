use Rattle.std.proofs.Common.{◌∙◌, ◌+◌, ap, take, drop}
use Rattle.std.specs.Prelude.{string_bytes}
use Rattle.edit_words.specs.Meaning.{texts}
use Rattle.edit_words.proofs.EditSteps.{own_words}
use Rattle.edit_words.proofs.scripts.own_words.Goals as goal

pub returns : goal.returns
returns c = own_words string_bytes c.args.words.now c.args.at c.min.result c.words_behind.result c.min.ensures ∙ ap (λ n. take n (drop (c.args.at + 1) (texts c.args.words.now))) c.words_behind.ensures.value
