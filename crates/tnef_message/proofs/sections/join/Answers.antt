use Rattle.tnef_message.proofs.Joins.{stays_beside}
use Rattle.tnef_message.proofs.sections.join.Goals as goal

pub returns : goal.returns
returns c = rw (← stays_beside c.args.embeds c.args.section.list c.args.section.derived.items, ← c.in_ok-kept.ensures) c.with_all.ensures
