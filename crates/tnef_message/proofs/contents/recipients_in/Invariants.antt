use Rattle.tnef_message.proofs.Tables.{Rows}
use Rattle.tnef_message.proofs.contents.recipients_in.Given as goal

abbrev pub invariant-loop-k : goal.invariant-loop-k
invariant-loop-k l = Rows l.at l.bytes l.count l._k l.recipients l.fn.passed l.passed l.from
