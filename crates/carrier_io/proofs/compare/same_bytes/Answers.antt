use Rattle.std.proofs.Common.{rules, ◌≡◌, ◌<◌, ◌-◌, ◌++◌, ◌∙◌, ap, sym, refl, arith, length, length-append}
use Rattle.carrier_io.proofs.Rest.{left_from, left_first, left_all, left_more, left_none, left_is, left_piece, left_read, left_differs, left_empty, nothing_in}
use Rattle.carrier_io.proofs.compare.same_bytes.Goals as goal

pub loop-left_ahead-init : goal.loop-left_ahead-init
loop-left_ahead-init g c =
    let one = c.args.one.now in
    let other = c.args.other.now in
    let part = g.B.Blob.part one in
    let part_two = g.C.Blob.part other in
    let a = sym (g.met.B.Blob.joins one) ∙ left_all part (g.B.Blob.count one) in
    let b = sym (g.met.C.Blob.joins other) ∙ left_all part_two (g.C.Blob.count other) in
    let n = c.pieces-left_ahead.ensures in
    let k = c.pieces-right_ahead.ensures in
    let start = left_first (g.B.Blob.bytes one) (g.C.Blob.bytes other) (omega (arith, c.len.ensures, c.len-2.ensures, c.if-len.false)) in
    (left_is _ _ _ _ _ _ (a ∙ ap (left_from part (g.B.Blob.count one)) (sym n)) (b ∙ ap (left_from part_two (g.C.Blob.count other)) (sym k)) start, omega (arith, n), omega (arith, k))

pub loop-left_ahead-smaller-then-is_empty : goal.loop-left_ahead-smaller-then-is_empty
loop-left_ahead-smaller-then-is_empty g c =
    let some : 0 < c.loop-left_ahead.left_ahead = search rules in
    let more = left_more (g.B.Blob.part c.args.one.now) (g.B.Blob.count c.args.one.now) c.loop-left_ahead.left_ahead some c.loop-left_ahead.invariant.1 in
    let piece = c.piece-left.ensures ∙ ap (λ n. g.B.Blob.part c.args.one.now (n - c.loop-left_ahead.left_ahead)) c.pieces.ensures in
    let now = length-append c.piece-left.result.now (left_from (g.B.Blob.part c.args.one.now) (g.B.Blob.count c.args.one.now) (c.loop-left_ahead.left_ahead - 1)) in
    let then = length-append c.loop-left_ahead.left.now (left_from (g.B.Blob.part c.args.one.now) (g.B.Blob.count c.args.one.now) c.loop-left_ahead.left_ahead) in
    let both = ap length (more ∙ ap (λ l. l ++ left_from (g.B.Blob.part c.args.one.now) (g.B.Blob.count c.args.one.now) (c.loop-left_ahead.left_ahead - 1)) (sym piece)) in
    omega (arith, some, both, now, then)

pub loop-left_ahead-preserved-then-is_empty : goal.loop-left_ahead-preserved-then-is_empty
loop-left_ahead-preserved-then-is_empty g c =
    let some : 0 < c.loop-left_ahead.left_ahead = search rules in
    let none : length c.loop-left_ahead.left.now ≡ 0 = search rules in
    let empty = nothing_in c.loop-left_ahead.left.now none in
    let more = left_more (g.B.Blob.part c.args.one.now) (g.B.Blob.count c.args.one.now) c.loop-left_ahead.left_ahead some c.loop-left_ahead.invariant.1 in
    let piece = c.piece-left.ensures ∙ ap (λ n. g.B.Blob.part c.args.one.now (n - c.loop-left_ahead.left_ahead)) c.pieces.ensures in
    let next = ap (λ l. l ++ left_from (g.B.Blob.part c.args.one.now) (g.B.Blob.count c.args.one.now) c.loop-left_ahead.left_ahead) empty ∙ (more ∙ ap (λ l. l ++ left_from (g.B.Blob.part c.args.one.now) (g.B.Blob.count c.args.one.now) (c.loop-left_ahead.left_ahead - 1)) (sym piece)) in
    (left_is _ _ _ _ _ _ next refl c.loop-left_ahead.invariant.0, omega (arith, c.loop-left_ahead.invariant.1), c.loop-left_ahead.invariant.2)

pub piece-right-requires : goal.piece-right-requires
piece-right-requires g c =
    let some : 0 < length c.loop-left_ahead.left.now = search rules in
    let none : length c.loop-left_ahead.right.now ≡ 0 = search rules in
    let more = left_piece _ _ c.loop-left_ahead.left.now _ c.loop-left_ahead.right.now (g.C.Blob.part c.args.other.now) (g.C.Blob.count c.args.other.now) c.loop-left_ahead.right_ahead some none c.loop-left_ahead.invariant.0 in
    omega (arith, more, c.loop-left_ahead.invariant.2, c.pieces-then-is_empty-2.ensures)

pub overflow_sub-right_ahead : goal.overflow_sub-right_ahead
overflow_sub-right_ahead g c =
    let some : 0 < length c.loop-left_ahead.left.now = search rules in
    let none : length c.loop-left_ahead.right.now ≡ 0 = search rules in
    let more = left_piece _ _ c.loop-left_ahead.left.now _ c.loop-left_ahead.right.now (g.C.Blob.part c.args.other.now) (g.C.Blob.count c.args.other.now) c.loop-left_ahead.right_ahead some none c.loop-left_ahead.invariant.0 in
    omega (arith, more)

pub loop-left_ahead-smaller-then-is_empty-2 : goal.loop-left_ahead-smaller-then-is_empty-2
loop-left_ahead-smaller-then-is_empty-2 g c =
    let some : 0 < length c.loop-left_ahead.left.now = search rules in
    let none : length c.loop-left_ahead.right.now ≡ 0 = search rules in
    let more = left_piece _ _ c.loop-left_ahead.left.now _ c.loop-left_ahead.right.now (g.C.Blob.part c.args.other.now) (g.C.Blob.count c.args.other.now) c.loop-left_ahead.right_ahead some none c.loop-left_ahead.invariant.0 in
    omega (arith, more)

pub loop-left_ahead-preserved-then-is_empty-2 : goal.loop-left_ahead-preserved-then-is_empty-2
loop-left_ahead-preserved-then-is_empty-2 g c =
    let some : 0 < length c.loop-left_ahead.left.now = search rules in
    let none : length c.loop-left_ahead.right.now ≡ 0 = search rules in
    let empty = nothing_in c.loop-left_ahead.right.now none in
    let ahead = left_piece _ _ c.loop-left_ahead.left.now _ c.loop-left_ahead.right.now (g.C.Blob.part c.args.other.now) (g.C.Blob.count c.args.other.now) c.loop-left_ahead.right_ahead some none c.loop-left_ahead.invariant.0 in
    let more = left_more (g.C.Blob.part c.args.other.now) (g.C.Blob.count c.args.other.now) c.loop-left_ahead.right_ahead ahead c.loop-left_ahead.invariant.2 in
    let piece = c.piece-right.ensures ∙ ap (λ n. g.C.Blob.part c.args.other.now (n - c.loop-left_ahead.right_ahead)) c.pieces-then-is_empty-2.ensures in
    let next = ap (λ l. l ++ left_from (g.C.Blob.part c.args.other.now) (g.C.Blob.count c.args.other.now) c.loop-left_ahead.right_ahead) empty ∙ (more ∙ ap (λ l. l ++ left_from (g.C.Blob.part c.args.other.now) (g.C.Blob.count c.args.other.now) (c.loop-left_ahead.right_ahead - 1)) (sym piece)) in
    (left_is _ _ _ _ _ _ refl next c.loop-left_ahead.invariant.0, c.loop-left_ahead.invariant.1, omega (arith, c.loop-left_ahead.invariant.2))

pub returns-then-ne : goal.returns-then-ne
returns-then-ne g c =
    let differ : c.split_at.result.0.now ≡ c.split_at-else-is_empty-2.result.0.now → ⊥ = search rules in
    let left = left_from (g.B.Blob.part c.args.one.now) (g.B.Blob.count c.args.one.now) c.loop-left_ahead.left_ahead in
    let right = left_from (g.C.Blob.part c.args.other.now) (g.C.Blob.count c.args.other.now) c.loop-left_ahead.right_ahead in
    let cut = left_is _ _ _ _ _ _ (ap (λ l. l ++ left) c.split_at.ensures.by_index.0) (ap (λ l. l ++ right) c.split_at-else-is_empty-2.ensures.by_index.0) c.loop-left_ahead.invariant.0 in
    let long = c.split_at.ensures.front_len ∙ sym c.split_at-else-is_empty-2.ensures.front_len in
    (search rules, (λ s. absurd (left_differs _ _ _ _ left _ _ right long differ cut s)))

pub loop-left_ahead-preserved : goal.loop-left_ahead-preserved
loop-left_ahead-preserved g c =
    let equal : c.split_at.result.0.now ≡ c.split_at-else-is_empty-2.result.0.now = search rules in
    let left = left_from (g.B.Blob.part c.args.one.now) (g.B.Blob.count c.args.one.now) c.loop-left_ahead.left_ahead in
    let right = left_from (g.C.Blob.part c.args.other.now) (g.C.Blob.count c.args.other.now) c.loop-left_ahead.right_ahead in
    let cut = left_is _ _ _ _ _ _ (ap (λ l. l ++ left) c.split_at.ensures.by_index.0) (ap (λ l. l ++ right) c.split_at-else-is_empty-2.ensures.by_index.0) c.loop-left_ahead.invariant.0 in
    (left_read _ _ _ _ left _ _ right equal cut, c.loop-left_ahead.invariant.1, c.loop-left_ahead.invariant.2)

pub returns : goal.returns
returns g c =
    let none : length c.loop-left_ahead.left.now ≡ 0 = search rules in
    let left = left_none (g.B.Blob.part c.args.one.now) (g.B.Blob.count c.args.one.now) c.loop-left_ahead.left_ahead (omega (arith, c.if-left_ahead-gt0.false)) in
    ((λ _. left_empty _ _ c.loop-left_ahead.left.now _ _ none left c.loop-left_ahead.invariant.0), search rules)
