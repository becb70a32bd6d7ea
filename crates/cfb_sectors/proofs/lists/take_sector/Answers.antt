use Rattle.std.proofs.Common.{false, arith, sym, ◌∙◌}
use Rattle.carrier_model.proofs.MarkLaws.{unmarked-set}
use Rattle.cfb_sectors.proofs.lists.take_sector.Goals as goal

pub returns-clause-bounded : goal.returns-clause-bounded
returns-clause-bounded c =
    rw c.mark.ensures (omega (arith, unmarked-set c.args.marks.now c.long-sector.result (omega arith) (sym c.has.ensures ∙ c.if-has.false)))
