use Rattle.carrier_io.specs.Pieces.{joined}
use Rattle.json_writer.proofs.Decoding.{Fits}
use Rattle.json_writer.proofs.checking.decode_pieces.Given as goal

abbrev pub invariant-loop-k : goal.invariant-loop-k
invariant-loop-k g l = Fits l.initial.decoder l.decoder (joined (g.B.Blob.part l.text) l.k)
