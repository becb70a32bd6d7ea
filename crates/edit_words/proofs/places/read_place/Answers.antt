use Rattle.std.proofs.Common.{◌∙◌, sym}
use Rattle.edit_words.proofs.StepWords.{stuck_word}
use Rattle.edit_words.proofs.places.read_place.Goals as goal

pub returns-then-is_some : goal.returns-then-is_some
returns-then-is_some c =
    sym (stuck_word c.loop-left.path c.in-Some.steps.now c.cut-in-Some.result.0.now c.cut-in-Some.result.1 c.cut-in-Some.ensures.split c.if-is_some.ensures c.in-None.ensures) ∙ rw c.in-Some.is at c.loop-left.invariant
