use Rattle.carrier_io.proofs.Summed.{pieces_stop}
use Rattle.carrier_io.proofs.summing.append_blob.Goals as goal

pub returns-in_err-sum : goal.returns-in_err-sum
returns-in_err-sum g c = pieces_stop (g.B.Blob.part c.args.blob.now) c.loop-k.k (g.B.Blob.count c.args.blob.now) (g.B.Blob.bytes c.args.blob.now) (rw c.pieces-k-end.ensures at c.loop-k-test.true) (g.met.B.Blob.joins c.args.blob.now) c.from_residual.ensures.0 c.loop-k.invariant (rw c.piece.ensures at c.in_err-sum.ensures)
