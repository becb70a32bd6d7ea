use Rattle.cfb_writer.proofs.Going.{as_bytes}
use Rattle.cfb_writer.proofs.directory.append_fields.Goals as goal

pub returns : goal.returns
returns g c = as_bytes c.entry_bytes.ensures c.append.ensures
