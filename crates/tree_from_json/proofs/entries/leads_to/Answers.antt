use Rattle.tree_from_json.proofs.Paths.{leads_whole}
use Rattle.tree_from_json.proofs.entries.leads_to.Goals as goal

pub loop-k-init : goal.loop-k-init
loop-k-init c = leads_whole c.args.one.now c.args.other.now
