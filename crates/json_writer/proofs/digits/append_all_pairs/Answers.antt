use Rattle.std.proofs.Common.{◌∙◌, sym, ap, add-one}
use Rattle.carrier_io.specs.Pieces.{joined}
use Rattle.json_model.specs.Digits.{hex}
use Rattle.json_writer.proofs.Counted.{stops, one_more, so_far_as}
use Rattle.json_writer.proofs.HexStrings.{hex-append, hex_three}
use Rattle.json_writer.proofs.Lists.{joined_parts}
use Rattle.json_writer.proofs.digits.append_all_pairs.Goals as goal

pub returns-in_err-append_pairs : goal.returns-in_err-append_pairs
returns-in_err-append_pairs g c =
    let x = c.args.blob.now in
    let part = g.B.Blob.part x in
    let h = joined_parts part c.loop-k.k (g.B.Blob.count x) (rw c.pieces-k-end.ensures at c.loop-k-test.true) in
    stops _ _ (ap hex (sym (g.met.B.Blob.joins x) ∙ h.1) ∙ hex_three _ _ h.0) c.from_residual.ensures.0 c.loop-k.invariant (rw c.piece.ensures at c.in_err-append_pairs.ensures)

pub loop-k-preserved : goal.loop-k-preserved
loop-k-preserved g c =
    let part = g.B.Blob.part c.args.blob.now in
    so_far_as _ (sym (ap hex (ap (joined part) (add-one c.loop-k.k)) ∙ hex-append _ _)) (one_more c.loop-k.invariant (rw c.piece.ensures at c.in_ok-append_pairs.ensures))
