use Rattle.std.proofs.Common.{◌∙◌, sym, ap, add-one}
use Rattle.carrier_io.specs.Pieces.{joined}
use Rattle.json_writer.proofs.Counted.{stops}
use Rattle.json_writer.proofs.Decoding.{taken_more, taken_parts}
use Rattle.json_writer.proofs.Lists.{joined_parts}
use Rattle.json_writer.proofs.texts.append_pieces.Goals as goal

pub returns-in_err-append_piece : goal.returns-in_err-append_piece
returns-in_err-append_piece g c =
    let x = c.args.text.now in
    let part = g.B.Blob.part x in
    let h = joined_parts part c.loop-k.k (g.B.Blob.count x) (rw c.pieces-k-end.ensures at c.loop-k-test.true) in
    let p = taken_parts (part c.loop-k.k) h.0 (g.B.Blob.bytes x) (sym (g.met.B.Blob.joins x) ∙ h.1) c.loop-k.invariant in
    stops _ p.0 p.1 c.from_residual.ensures.0 c.loop-k.invariant.so_far (rw c.piece.ensures at c.in_err-append_piece.ensures.text)

pub loop-k-preserved : goal.loop-k-preserved
loop-k-preserved g c =
    let part = g.B.Blob.part c.args.text.now in
    taken_more (part c.loop-k.k) _ (ap (joined part) (add-one c.loop-k.k)) c.loop-k.invariant
    (rw c.piece.ensures at c.in_ok-append_piece.ensures.text) (rw c.piece.ensures at c.in_ok-append_piece.ensures.next)
