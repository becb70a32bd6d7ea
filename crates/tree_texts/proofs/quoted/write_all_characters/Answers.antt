use Rattle.std.proofs.Common.{ap}
use Rattle.std.specs.List.{flat_map}
use Rattle.text_model.specs.ValueTexts.{character_text}
use Rattle.tree_texts.proofs.Partly.{partly_as, partly_more, partly_start, partly_stops}
use Rattle.tree_texts.proofs.Pieces.{next_piece_text, whole_blob}
use Rattle.tree_texts.proofs.quoted.write_all_characters.Goals as goal

pub loop-k-init : goal.loop-k-init
loop-k-init g c =
    let x = c.args.text.now in
    partly_as _ (ap (flat_map character_text) (whole_blob (g.B.Blob.part x) (g.B.Blob.count x) (g.B.Blob.bytes x) (g.met.B.Blob.joins x))) (partly_start _ _ _)

pub returns-in_err-write_characters : goal.returns-in_err-write_characters
returns-in_err-write_characters g c =
    let x = c.args.text.now in
    partly_stops _ _ (next_piece_text character_text (g.B.Blob.part x) c.loop-k.k (g.B.Blob.count x) (rw c.pieces-k-end.ensures at c.loop-k-test.true)) c.from_residual.ensures.0 c.loop-k.invariant (rw c.piece.ensures at c.in_err-write_characters.ensures)

pub loop-k-preserved : goal.loop-k-preserved
loop-k-preserved g c =
    let x = c.args.text.now in
    partly_more _ _ (next_piece_text character_text (g.B.Blob.part x) c.loop-k.k (g.B.Blob.count x) (rw c.pieces-k-end.ensures at c.loop-k-test.true)) c.loop-k.invariant (rw c.piece.ensures at c.in_ok-write_characters.ensures)
