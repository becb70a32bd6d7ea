use Rattle.std.proofs.Common.{◌∙◌, arith}
use Rattle.mime_envelope.proofs.Quoted.{size_escaped, size_other, size_backslash, size_quote, size_end}
use Rattle.mime_envelope.proofs.parameters.quoted_size.Goals as goal
use Rattle.mime_envelope.proofs.parameters.quoted_size.Goals.{then-is_escaped, else-is_escaped+else-c-eq34+then-c-eq92, else-is_escaped+else-c-eq34+else-c-eq92}

pub returns-then-c-eq34-clause-value : goal.returns-then-c-eq34-clause-value
returns-then-c-eq34-clause-value c = size_quote _ _ _ _ c.loop-i-test.true c.loop-i.invariant c.if-is_escaped.false c.if-c-eq34.true

pub loop-i-preserved : goal.loop-i-preserved
loop-i-preserved c = elim c.if-is_escaped.branch [
  | then-is_escaped w ↦ size_escaped _ _ _ _ _ c.loop-i-test.true c.loop-i.invariant w.if-is_escaped.true w.is_escaped-is
  | else-is_escaped+else-c-eq34+then-c-eq92 w ↦ size_backslash _ _ _ _ _ c.loop-i-test.true c.loop-i.invariant w.if-is_escaped.false w.is_escaped-is w.if-c-eq92.true
  | else-is_escaped+else-c-eq34+else-c-eq92 w ↦ size_other _ _ _ _ _ c.loop-i-test.true c.loop-i.invariant w.if-is_escaped.false (w.is_escaped-is ∙ w.if-is_escaped.false) w.if-c-eq34.false w.if-c-eq92.false
]

pub returns-clause-value : goal.returns-clause-value
returns-clause-value c = size_end _ _ _ _ (omega (arith, c.loop-i.auto.i-end)) c.loop-i.invariant
