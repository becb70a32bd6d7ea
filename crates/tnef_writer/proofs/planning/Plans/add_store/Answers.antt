use Rattle.tnef_writer.proofs.AddedPlans.{adds_store}
use Rattle.msg_tree.specs.StoreMeaning.{store_of}
use Rattle.tnef_writer.proofs.planning.Plans.add_store.Goals as goal

pub returns-in_ok-push-in-Ok-clause-added : goal.returns-in_ok-push-in-Ok-clause-added
returns-in_ok-push-in-Ok-clause-added g c = λ names. adds_store names (store_of g.B.Blob.bytes c.args.store.now) _ c.in-Ok.plan _ _ c.in_ok-push-in-Ok.ensures.items c.in-Ok.ensures.ok
