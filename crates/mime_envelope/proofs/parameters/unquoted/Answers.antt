use Rattle.std.proofs.Common.{ap, ◌∙◌}
use Rattle.mime_envelope.proofs.Quoted.{unq_escaped, unq_other, unq_backslash, unq_quote, unq_end_escaped, unq_end_plain}
use Rattle.mime_envelope.proofs.parameters.unquoted.Goals as goal
use Rattle.mime_envelope.proofs.parameters.unquoted.Goals.{then-is_escaped+in_ok-push, else-is_escaped+else-c-eq34+then-c-eq92, else-is_escaped+else-c-eq34+else-c-eq92+in_ok-push-2, then-is_escaped-2+in_ok-push-3, else-is_escaped-2}

pub returns-then-c-eq34 : goal.returns-then-c-eq34
returns-then-c-eq34 c = unq_quote _ _ _ _ _ c.loop-c-test.true c.loop-c.invariant c.if-is_escaped.false c.if-c-eq34.true

pub loop-c-preserved : goal.loop-c-preserved
loop-c-preserved c = elim c.if-is_escaped.branch [
  | then-is_escaped+in_ok-push w ↦ unq_escaped _ _ _ _ _ _ _ c.loop-c-test.true c.loop-c.invariant w.if-is_escaped.true w.is_escaped-is (ap (λ v. v.items) w.value-is ∙ w.in_ok-push.ensures.items)
  | else-is_escaped+else-c-eq34+then-c-eq92 w ↦ unq_backslash _ _ _ _ _ _ _ c.loop-c-test.true c.loop-c.invariant w.if-is_escaped.false w.is_escaped-is w.if-c-eq92.true (ap (λ v. v.items) w.value-is)
  | else-is_escaped+else-c-eq34+else-c-eq92+in_ok-push-2 w ↦ unq_other _ _ _ _ _ _ _ c.loop-c-test.true c.loop-c.invariant w.if-is_escaped.false (w.is_escaped-is ∙ w.if-is_escaped.false) w.if-c-eq34.false w.if-c-eq92.false (ap (λ v. v.items) w.value-is ∙ w.in_ok-push-2.ensures.items)
]

pub returns : goal.returns
returns c = elim c.if-is_escaped-2.branch [
  | then-is_escaped-2+in_ok-push-3 w ↦ unq_end_escaped _ _ _ _ _ _ c.loop-c-test.false c.loop-c.invariant w.if-is_escaped-2.true (ap (λ v. v.items) w.value-is ∙ w.in_ok-push-3.ensures.items)
  | else-is_escaped-2 w ↦ unq_end_plain _ _ _ _ _ _ c.loop-c-test.false c.loop-c.invariant w.if-is_escaped-2.false (ap (λ v. v.items) w.value-is)
]
