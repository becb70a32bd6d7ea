use Rattle.std.proofs.Common.{arith}
use Rattle.prop_values.proofs.Arranged.{ranked_all}
use Rattle.prop_values.proofs.arranging.inverse_of.Goals as goal

pub returns : goal.returns
returns c = ranked_all c.args.places.now.items c.loop-k.ranks.items c.loop-k.k c.requires (omega (arith, c.loop-k-test.false)) c.loop-k.invariant
