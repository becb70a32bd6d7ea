use Rattle.std.proofs.Common.{◌++◌, refl, ◌∙◌, arith}
use Rattle.std.specs.Prelude.{replicate}
use Rattle.tnef_model.specs.TnefCanonical.{zero_padded}
use Rattle.carrier_io.proofs.Summed.{sums_both, sums_first, sums_second}
use Rattle.tnef_props.proofs.WrittenValues.{text_size}
use Rattle.tnef_props.proofs.writing_values.append_tagged_text.Goals as goal

pub returns-in_err-head : goal.returns-in_err-head
returns-in_err-head g c =
    let size = c.le32-size.ensures ∙ text_size (g.B.Blob.bytes c.args.text.now) c.args.null _ (omega (arith, c.len.ensures)) in
    sums_first (zero_padded (g.B.Blob.bytes c.args.text.now ++ replicate c.args.null 0)) c.from_residual.ensures.0
    (rw (c.le16-kind.ensures, c.le16-id.ensures, size) at c.in_err-head.ensures)

pub returns-in_err-bytes : goal.returns-in_err-bytes
returns-in_err-bytes g c =
    let size = c.le32-size.ensures ∙ text_size (g.B.Blob.bytes c.args.text.now) c.args.null _ (omega (arith, c.len.ensures)) in
    sums_second c.from_residual-in_err-bytes.ensures.0
    (rw (c.le16-kind.ensures, c.le16-id.ensures, size) at c.in_ok-head.ensures) c.in_err-bytes.ensures

pub returns : goal.returns
returns g c =
    let size = c.le32-size.ensures ∙ text_size (g.B.Blob.bytes c.args.text.now) c.args.null _ (omega (arith, c.len.ensures)) in
    sums_both _ refl
    (rw (c.le16-kind.ensures, c.le16-id.ensures, size) at c.in_ok-head.ensures) c.in_ok-bytes.ensures
