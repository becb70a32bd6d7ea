use Rattle.tree_samples.proofs.Made.{data_is}
use Rattle.tree_samples.proofs.parts.with_data.Goals as goal

pub invariant_of-push : goal.invariant_of-push
invariant_of-push c = data_is c.args.number c.in_ok-bytes.bytes.items c.requires c.in_ok-bytes.ensures
