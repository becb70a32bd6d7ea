use Rattle.std.proofs.Common.{arith, sym, ◌∙◌}
use Rattle.carrier_model.proofs.MarkLaws.{unmarked-set}
use Rattle.cfb_directory.proofs.walk.visit_entry.Goals as goal

pub returns-clause-fewer : goal.returns-clause-fewer
returns-clause-fewer c = rw c.mark.ensures (unmarked-set c.args.marks.now c.args.link.target (omega arith) (sym c.has.ensures ∙ c.if-has.false))
