use Rattle.tnef_props.proofs.ListForms.{Filled}
use Rattle.tnef_props.proofs.list.scan.Given as goal

abbrev pub invariant-loop-k : goal.invariant-loop-k
invariant-loop-k g l = Filled l.in_attachment l.fn.from l.count l._k l.draft l.fn.passed l.passed l.rest
