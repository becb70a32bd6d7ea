use Rattle.std.proofs.Common.{◌-◌, ◌+◌, None, ap, sym, ◌∙◌}
use Rattle.tree_texts.proofs.Partly.{partly_as, partly_ends, partly_more, partly_start, partly_stops}
use Rattle.tree_texts.proofs.Pieces.{next_piece_units, no_half, no_piece, pieces_from, text_behind, whole_blob}
use Rattle.tree_texts.proofs.quoted.write_units.Goals as goal

pub loop-k-init : goal.loop-k-init
loop-k-init g c =
    let x = c.args.text.now in
    partly_as _ (ap (text_behind None) (whole_blob (g.B.Blob.part x) (g.B.Blob.count x) (g.B.Blob.bytes x) (g.met.B.Blob.joins x))) (partly_start _ _ _)

pub returns-in_err-write_halves : goal.returns-in_err-write_halves
returns-in_err-write_halves g c =
    let x = c.args.text.now in
    partly_stops _ _ (next_piece_units c.loop-k.low (g.B.Blob.part x) c.loop-k.k (g.B.Blob.count x) (rw c.pieces-k-end.ensures at c.loop-k-test.true)) c.from_residual.ensures.0 c.loop-k.invariant (rw c.piece.ensures at c.in_err-write_halves.ensures.written)

pub loop-k-preserved : goal.loop-k-preserved
loop-k-preserved g c =
    let x = c.args.text.now in
    let behind = pieces_from (g.B.Blob.part x) (c.loop-k.k + 1) (g.B.Blob.count x - (c.loop-k.k + 1)) in
    let low = rw c.piece.ensures at c.in_ok-write_halves.ensures.low in
    partly_as _ (ap (λ l. text_behind l behind) (sym low)) (partly_more _ _ (next_piece_units c.loop-k.low (g.B.Blob.part x) c.loop-k.k (g.B.Blob.count x) (rw c.pieces-k-end.ensures at c.loop-k-test.true)) c.loop-k.invariant (rw c.piece.ensures at c.in_ok-write_halves.ensures.written))

pub returns : goal.returns
returns g c =
    let x = c.args.text.now in
    partly_ends (ap (text_behind c.loop-k.low) (no_piece (g.B.Blob.part x) c.loop-k.k (g.B.Blob.count x) (rw c.pieces-k-end.ensures at c.loop-k-test.false)) ∙ no_half c.loop-k.low) c.loop-k.invariant
