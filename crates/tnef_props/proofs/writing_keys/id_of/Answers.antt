use Rattle.tnef_props.proofs.WrittenKeys.{id_is}
use Rattle.tnef_props.proofs.writing_keys.id_of.Goals as goal

pub returns : goal.returns
returns c = id_is _ _ c.in-Some.place c.position.ensures.sorted c.in-Some.ensures.found
