use Rattle.std.proofs.Common.{◌≡◌, ◌∙◌, ap, add-one, arith}
use Rattle.carrier_io.specs.Pieces.{joined}
use Rattle.json_writer.proofs.Decoding.{fits_more, fits_all}
use Rattle.json_writer.proofs.checking.decode_pieces.Goals as goal

pub loop-k-preserved : goal.loop-k-preserved
loop-k-preserved g c =
    let part = g.B.Blob.part c.args.text.now in
    fits_more (part c.loop-k.k) _ (ap (joined part) (add-one c.loop-k.k)) c.loop-k.invariant (rw c.piece.ensures at c.decode_piece.ensures)

pub returns : goal.returns
returns g c =
    let x = c.args.text.now in
    let last : c.loop-k.k ≡ g.B.Blob.count x = omega (arith, c.loop-k-test.false, c.loop-k.auto.k-end, c.pieces-k-end.ensures) in
    fits_all (ap (joined (g.B.Blob.part x)) last ∙ g.met.B.Blob.joins x) c.loop-k.invariant
