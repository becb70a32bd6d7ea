use Rattle.std.proofs.Common.{sym, ◌∙◌}
use Rattle.mime_envelope.proofs.Characters.{all_either, bad_skip, bad_pass, bad_here, bad_none}
use Rattle.mime_envelope.proofs.reading.test_characters.Goals as goal
use Rattle.mime_envelope.proofs.reading.test_characters.Goals.{else-not-is_skipped-via-then-not-is_skipped+else-not-is_character, else-not-is_skipped-via-else-not-is_skipped}

pub returns-then-is_text : goal.returns-then-is_text
returns-then-is_text c = all_either c.args.at c.args.body.now (sym c.is_text.ensures ∙ c.if-is_text.true)

pub returns-then-not-is_character : goal.returns-then-not-is_character
returns-then-not-is_character c = bad_here c.args.at c.loop-i.i c.args.body.now _ c.loop-i-test.true c.loop-i.invariant (sym c.is_skipped.ensures ∙ c.if-not-is_skipped.true) (sym c.is_character.ensures ∙ c.if-not-is_character.true)

pub loop-i-preserved : goal.loop-i-preserved
loop-i-preserved c = elim c.else-not-is_skipped.branch [
  | else-not-is_skipped-via-then-not-is_skipped+else-not-is_character w ↦ bad_pass c.args.at c.loop-i.i c.args.body.now _ c.loop-i-test.true c.loop-i.invariant (sym c.is_skipped.ensures ∙ w.if-not-is_skipped.true) (sym w.is_character.ensures ∙ w.if-not-is_character.false)
  | else-not-is_skipped-via-else-not-is_skipped w ↦ bad_skip c.args.at c.loop-i.i c.args.body.now _ c.loop-i-test.true c.loop-i.invariant (sym c.is_skipped.ensures ∙ w.if-not-is_skipped.false)
]

pub returns : goal.returns
returns c = bad_none c.args.at c.loop-i.i c.args.body.now _ c.loop-i-test.false c.loop-i.invariant
