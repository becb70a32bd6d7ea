use Rattle.std.proofs.Common.{◌∙◌, arith}
use Rattle.mail_model.proofs.Entities.{body_of-none, body_of-empty, body_of-refused, body_of-next}
use Rattle.mime_envelope.proofs.Coded.{none_left}
use Rattle.mime_envelope.proofs.header.body_of.Goals as goal

pub returns-then-is_empty-clause-value : goal.returns-then-is_empty-clause-value
returns-then-is_empty-clause-value c = c.loop-rest.invariant.same ∙ body_of-empty c.loop-rest.is_first c.loop-rest.place c.loop-rest.rest.now c.split_line.result.0.now c.split_line.result.1.now c.split_line.ensures.lines c.if-is_empty.ensures

pub returns-then-is_refused-clause-value : goal.returns-then-is_refused-clause-value
returns-then-is_refused-clause-value c = c.loop-rest.invariant.same ∙ body_of-refused c.loop-rest.is_first c.loop-rest.place c.loop-rest.rest.now c.split_line.result.0.now c.split_line.result.1.now c.split_line.ensures.lines c.if-is_empty.ensures c.if-is_refused.ensures

pub loop-rest-preserved : goal.loop-rest-preserved
loop-rest-preserved c = record {
  same = c.loop-rest.invariant.same ∙ body_of-next c.loop-rest.is_first c.loop-rest.place c.loop-rest.rest.now c.split_line.result.0.now c.split_line.result.1.now c.split_line.ensures.lines c.if-is_empty.ensures c.if-is_refused.ensures;
  within = omega arith;
}

pub returns-clause-value : goal.returns-clause-value
returns-clause-value c = c.loop-rest.invariant.same ∙ body_of-none c.loop-rest.is_first c.loop-rest.place c.loop-rest.rest.now (none_left _ _ c.is_empty.ensures c.loop-rest-test.false)
