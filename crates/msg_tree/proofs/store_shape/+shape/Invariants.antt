use Rattle.std.proofs.Common.{ℕ, ◌+◌, ◌*◌, ◌<◌}
use Rattle.carrier_model.specs.FileTrees.{storage_depth}
use Rattle.msg_tree.specs.Shapes.{ItemFits}
use Rattle.msg_tree.specs.StoreMeaning.{store_of, member_of}
use Rattle.msg_tree.proofs.StoreSteps.{member_depth}
use Rattle.msg_tree.proofs.store_shape.+shape.Given as goal

abbrev pub decreases-fits_within : goal.decreases-fits_within
decreases-fits_within g l = 3 * storage_depth (store_of g.B.Blob.bytes l.store.now).members + 2

abbrev pub decreases-item_fits : goal.decreases-item_fits
decreases-item_fits g l = 3 * storage_depth (store_of g.B.Blob.bytes l.store.now).members + 1

abbrev pub decreases-member_fits : goal.decreases-member_fits
decreases-member_fits g l = 3 * member_depth (member_of g.B.Blob.bytes l.member.now)

abbrev pub invariant-fits_within-loop-k : goal.invariant-fits_within-loop-k
invariant-fits_within-loop-k g l = (j : ℕ) → j < l.k → ItemFits l.storages (store_of g.B.Blob.bytes l.store).members j
