use Rattle.std.proofs.Common.{◌≡◌, ◌<◌, ℕ, List, length, sym, arith}
use Rattle.carrier_model.specs.Totals.{capped}
use Rattle.tnef_props.specs.Written.{text_field}
use Rattle.tnef_props.proofs.Lengths.{flat_map_longer}
use Rattle.tnef_props.proofs.WrittenValues.{all_at}
use Rattle.tnef_props.proofs.sizes.texts_size.Goals as goal

pub text_size-requires-clause-short : goal.text_size-requires-clause-short
text_size-requires-clause-short g c = omega (arith, c.len.ensures, all_at (λ (x : List ℕ). length x < 0x4000_0000) c.args.list.now _ _ c.requires.short c.get.ensures)

pub loop-k-preserved : goal.loop-k-preserved
loop-k-preserved g c =
    let x = g.B.Blob.bytes c.get.result.now in
    let one : c.text_size.result ≡ length (text_field c.args.null x) = c.text_size.ensures.size x (sym c.len.ensures) in
    let cut : c.text_size.result ≡ capped (length (text_field c.args.null x)) = omega (arith, one, c.text_size.ensures.few) in
    flat_map_longer (text_field c.args.null) c.args.list.now c.loop-k.k x c.loop-k.size c.text_size.result _ c.get.ensures c.loop-k.invariant cut (omega (arith, c.saturating_add-size.ensures))
