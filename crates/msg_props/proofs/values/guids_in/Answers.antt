use Rattle.std.proofs.Common.{◌≡◌, ◌*◌, ◌+◌, ◌≤◌, ℕ, List, [], ◌∷◌, ◌++◌, length, map, sym, ap, ◌∙◌, arith}
use Rattle.std.specs.List.{range_with_len}
use Rattle.cfb_sectors.specs.Seen.{bytes_of}
use Rattle.msg_props.proofs.PieceForms.{piece, upto_more, pushed, piece_length}
use Rattle.msg_props.proofs.values.guids_in.Goals as goal

pub loop-k-preserved : goal.loop-k-preserved
loop-k-preserved c =
    let x = bytes_of c.args.view.now in
    let inside : 16 * c.loop-k.k + 16 ≤ length x = omega (arith, c.loop-k-test.true, c.loop-k.auto.k-end, c.len-count.ensures) in
    record {
      list = c.in_ok-push.ensures.ok ∙ (ap (λ (z : List (List ℕ)). z ++ c.copy_range.new.into ∷ []) c.loop-k.invariant.list ∙ ap (λ (z : List ℕ). map (piece 16 x) (range_with_len 0 c.loop-k.k) ++ z ∷ []) c.copy_range.ensures ∙ sym (upto_more (piece 16 x) c.loop-k.k));
      fit = pushed (λ (g : List ℕ). length g ≡ 16) c.loop-k.list c.push.new.self c.copy_range.new.into c.loop-k.invariant.fit (ap length c.copy_range.ensures ∙ piece_length 16 c.loop-k.k x inside) c.in_ok-push.ensures.ok;
    }
