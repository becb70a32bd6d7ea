use Rattle.std.proofs.Common.{sym}
use Rattle.json_values.proofs.Views.{elements_seen}
use Rattle.json_values.proofs.parts.as_items.Goals as goal

pub returns-in-Array : goal.returns-in-Array
returns-in-Array c = elements_seen c.in-Array.items c.args.value.now (sym c.in-Array.is)
