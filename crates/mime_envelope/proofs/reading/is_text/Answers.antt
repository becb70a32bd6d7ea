use Rattle.std.proofs.Common.{sym, ap, ◌∙◌, ◌||◌, ◌&&◌}
use Rattle.std.proofs.lemmas.List.{take_all}
use Rattle.std.proofs.lemmas.List.Folds.{list_all_more}
use Rattle.std.specs.List.{list_all}
use Rattle.mail_model.specs.Envelope.{is_skipped, is_character}
use Rattle.mime_envelope.proofs.reading.is_text.Goals as goal

pub loop-byte-preserved : goal.loop-byte-preserved
loop-byte-preserved c = (λ i. c.loop-byte.invariant i && (c.is_skipped.ensures i || c.is_character.ensures i)) ∙ sym (list_all_more (λ b. is_skipped b || is_character b) c.args.body.now c.loop-byte.byte-index 0 c.loop-byte-test.true)

pub returns : goal.returns
returns c = c.loop-byte.invariant ∙ ap (list_all (λ b. is_skipped b || is_character b)) (take_all c.loop-byte.byte-index c.args.body.now c.loop-byte-test.false)
