use Rattle.std.proofs.Common.{◌+◌, ◌%◌, [], refl}
use Rattle.tree_samples.proofs.Made.{one_more}
use Rattle.tree_samples.proofs.parts.data.Goals as goal

pub loop-place-preserved : goal.loop-place-preserved
loop-place-preserved c = one_more [] (λ j. (c.args.number + j) % 251) c.loop-place.place c.loop-place.bytes.items c.push.new.self.items ((c.args.number + c.loop-place.place) % 251) c.loop-place.invariant refl c.in_ok-push.ensures.items
