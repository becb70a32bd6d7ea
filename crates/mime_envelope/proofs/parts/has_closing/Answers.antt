use Rattle.std.proofs.Common.{sym, ◌∙◌}
use Rattle.mail_model.proofs.Entities.{any_closing-none, any_closing-later}
use Rattle.mime_envelope.proofs.Coded.{none_left}
use Rattle.mime_envelope.proofs.Cuts.{passed_next, passed_closing}
use Rattle.mime_envelope.proofs.parts.has_closing.Goals as goal

pub loop-rest-init : goal.loop-rest-init
loop-rest-init c = passed_closing _ _ _ (passed_next c.args.marks.now.boundary.items c.args.bytes.now c.next_mark-rest.result.now c.next_mark-rest.ensures.value)

pub loop-rest-preserved : goal.loop-rest-preserved
loop-rest-preserved c =
    c.loop-rest.invariant
    ∙ any_closing-later c.args.marks.now.boundary.items c.loop-rest.rest.now c.split_line.result.0.now c.split_line.result.1.now c.split_line.ensures.lines c.if-closes.ensures
    ∙ passed_closing _ _ _ (passed_next c.args.marks.now.boundary.items c.split_line.result.1.now c.next_mark-rest-in-loop-rest.result.now c.next_mark-rest-in-loop-rest.ensures.value)

pub returns : goal.returns
returns c = sym (c.loop-rest.invariant ∙ any_closing-none c.args.marks.now.boundary.items c.loop-rest.rest.now (none_left _ _ c.is_empty.ensures c.loop-rest-test.false))
