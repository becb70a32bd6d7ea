use Rattle.std.proofs.Common.{◌≡◌, ◌-◌, min, length, take, ap, arith, refl}
use Rattle.std.specs.List.{flat_map}
use Rattle.carrier_model.specs.KeyTexts.{hex_digits, lower}
use Rattle.tree_texts.proofs.Partly.{partly_as, partly_more, partly_start, partly_stops}
use Rattle.tree_texts.proofs.Pieces.{next_piece_front, whole_blob}
use Rattle.tree_texts.proofs.quoted.write_first.Goals as goal

pub loop-k-init : goal.loop-k-init
loop-k-init g c =
    let x = c.args.blob.now in
    partly_as _ (ap (λ z. flat_map (hex_digits lower 2) (take c.args.most z)) (whole_blob (g.B.Blob.part x) (g.B.Blob.count x) (g.B.Blob.bytes x) (g.met.B.Blob.joins x))) (partly_start _ _ _)

pub returns-in_err-write_digits : goal.returns-in_err-write_digits
returns-in_err-write_digits g c =
    let x = c.args.blob.now in
    let left = c.loop-k.left in
    let count = c.min-count.result in
    let few : count ≡ min (length (g.B.Blob.part x c.loop-k.k)) left = omega (arith, c.min-count.ensures, ap length c.piece-piece.ensures) in
    let next = next_piece_front (hex_digits lower 2) (g.B.Blob.part x) c.loop-k.k (g.B.Blob.count x) count left (left - count) (rw c.pieces-k-end.ensures at c.loop-k-test.true) few refl in
    partly_stops _ _ next c.from_residual.ensures.0 c.loop-k.invariant (rw c.piece-piece.ensures at c.in_err-write_digits.ensures)

pub loop-k-preserved : goal.loop-k-preserved
loop-k-preserved g c =
    let x = c.args.blob.now in
    let left = c.loop-k.left in
    let count = c.min-count.result in
    let few : count ≡ min (length (g.B.Blob.part x c.loop-k.k)) left = omega (arith, c.min-count.ensures, ap length c.piece-piece.ensures) in
    let next = next_piece_front (hex_digits lower 2) (g.B.Blob.part x) c.loop-k.k (g.B.Blob.count x) count left (left - count) (rw c.pieces-k-end.ensures at c.loop-k-test.true) few refl in
    partly_more _ _ next c.loop-k.invariant (rw c.piece-piece.ensures at c.in_ok-write_digits.ensures)
