use Rattle.cfb_writer.proofs.Going.{as_bytes}
use Rattle.cfb_writer.proofs.plan.Plan.append.Goals as goal

pub returns : goal.returns
returns g c = as_bytes c.self.view_is c.append_file.ensures
