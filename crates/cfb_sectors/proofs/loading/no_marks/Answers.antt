use Rattle.carrier_model.proofs.MarkLaws.{unmarked-replicate}
use Rattle.cfb_sectors.proofs.loading.no_marks.Goals as goal

pub returns-clause-unmarked : goal.returns-clause-unmarked
returns-clause-unmarked c = rw c.in_ok-new.ensures (unmarked-replicate c.args.count)
