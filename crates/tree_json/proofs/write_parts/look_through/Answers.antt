use Rattle.std.proofs.Common.{◌≡◌, ◌∙◌, ap, subst, arith}
use Rattle.carrier_io.specs.Pieces.{joined}
use Rattle.json_model.specs.ByteTrees.{AreBytes}
use Rattle.tree_json.proofs.Wholes.{bytes_more}
use Rattle.tree_json.proofs.write_parts.look_through.Goals as goal

pub loop-k-preserved : goal.loop-k-preserved
loop-k-preserved g c = bytes_more (g.B.Blob.part c.args.blob.now) c.loop-k.k _ c.loop-k.invariant c.piece.ensures c.look_at.ensures

pub returns : goal.returns
returns g c =
    let x = c.args.blob.now in
    let last : c.loop-k.k ≡ g.B.Blob.count x = omega (arith, c.loop-k-test.false, c.loop-k.auto.k-end, c.pieces-k-end.ensures) in
    subst AreBytes (ap (joined (g.B.Blob.part x)) last ∙ g.met.B.Blob.joins x) c.loop-k.invariant
