use Rattle.std.proofs.Common.{None}
use Rattle.std.proofs.lemmas.Str.Pattern.{strip_prefix_char}
use Rattle.edit_words.proofs.StepWords.{no_step}
use Rattle.edit_words.proofs.places.read_step.Goals as goal

pub returns-in-None : goal.returns-in-None
returns-in-None c = no_step c.args.letter c.args.step.now (strip_prefix_char c.args.letter c.args.step.now None c.in-None.ensures.cases c.requires)
