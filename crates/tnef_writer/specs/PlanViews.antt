-- The tree that a plan is for.
use Rattle.carrier_io.specs.declared.blob.Blob.{Ghosts}
use Rattle.carrier_model.specs.Tree.{Message}
use Rattle.msg_tree.specs.Whole.{plain_of}
use Rattle.tnef_writer.specs.declared.plan.TnefPlan.{TnefPlan}

abbrev pub tree_in : {B : Type 0} {blob : Ghosts B} → TnefPlan B blob → Message
tree_in plan = plain_of plan.tree.now
