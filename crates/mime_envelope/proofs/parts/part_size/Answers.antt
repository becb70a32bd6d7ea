use Rattle.std.proofs.Common.{arith}
use Rattle.mail_model.proofs.Entities.{part_from-closing, part_from-delimiter}
use Rattle.mime_envelope.proofs.Coded.{none_left}
use Rattle.mime_envelope.proofs.Cuts.{passed_next, passed_line, passed_then, passed_within, part_end, part_whole, parts_end, parts_whole}
use Rattle.mime_envelope.proofs.parts.part_size.Goals as goal

pub loop-rest-init : goal.loop-rest-init
loop-rest-init c = passed_next c.args.marks.now.boundary.items c.args.bytes.now c.next_mark-rest.result.now c.next_mark-rest.ensures.value

pub loop-rest-preserved : goal.loop-rest-preserved
loop-rest-preserved c =
    let b = c.args.marks.now.boundary.items in
    let rest = c.loop-rest.rest.now in
    let line = c.split_line.result.0.now in
    let after = c.split_line.result.1.now in
    passed_then b c.args.bytes.now after c.next_mark-rest-in-loop-rest.result.now
    (passed_then b c.args.bytes.now rest after c.loop-rest.invariant (passed_line b rest line after c.split_line.ensures.lines c.if-closes.ensures c.if-delimits.ensures))
    (passed_next b after c.next_mark-rest-in-loop-rest.result.now c.next_mark-rest-in-loop-rest.ensures.value)

pub overflow_sub-result : goal.overflow_sub-result
overflow_sub-result c = omega (arith, passed_within c.args.marks.now.boundary.items c.args.bytes.now c.loop-rest.rest.now c.loop-rest.invariant)

pub overflow_sub-result-then-delimits : goal.overflow_sub-result-then-delimits
overflow_sub-result-then-delimits c = omega (arith, passed_within c.args.marks.now.boundary.items c.args.bytes.now c.loop-rest.rest.now c.loop-rest.invariant)

pub returns-then-closes-clause-value : goal.returns-then-closes-clause-value
returns-then-closes-clause-value c = part_end c.args.marks.now.boundary.items c.args.bytes.now c.loop-rest.rest.now c.loop-rest.invariant (part_from-closing c.args.marks.now.boundary.items c.loop-rest.rest.now c.split_line.result.0.now c.split_line.result.1.now c.split_line.ensures.lines c.if-closes.ensures)

pub returns-then-closes-clause-others : goal.returns-then-closes-clause-others
returns-then-closes-clause-others c = parts_end c.args.marks.now.boundary.items c.args.bytes.now c.loop-rest.rest.now c.loop-rest.invariant

pub returns-then-delimits-clause-value : goal.returns-then-delimits-clause-value
returns-then-delimits-clause-value c = part_end c.args.marks.now.boundary.items c.args.bytes.now c.loop-rest.rest.now c.loop-rest.invariant (part_from-delimiter c.args.marks.now.boundary.items c.loop-rest.rest.now c.split_line.result.0.now c.split_line.result.1.now c.split_line.ensures.lines c.if-closes.ensures c.if-delimits.ensures)

pub returns-then-delimits-clause-others : goal.returns-then-delimits-clause-others
returns-then-delimits-clause-others c = parts_end c.args.marks.now.boundary.items c.args.bytes.now c.loop-rest.rest.now c.loop-rest.invariant

pub returns-clause-value : goal.returns-clause-value
returns-clause-value c = part_whole c.args.marks.now.boundary.items c.args.bytes.now c.loop-rest.rest.now c.loop-rest.invariant (none_left _ _ c.is_empty.ensures c.loop-rest-test.false)

pub returns-clause-others : goal.returns-clause-others
returns-clause-others c = parts_whole c.args.marks.now.boundary.items c.args.bytes.now c.loop-rest.rest.now c.loop-rest.invariant (none_left _ _ c.is_empty.ensures c.loop-rest-test.false)
