use Rattle.std.proofs.Common.{ℕ, ◌++◌, length, refl, arith}
use Rattle.std.specs.Prelude.{replicate}
use Rattle.carrier_model.specs.Bytes.{pad4}
use Rattle.carrier_io.proofs.Summed.{sums_both, sums_first, sums_second}
use Rattle.tnef_props.proofs.WrittenValues.{padded_open, padded_parts}
use Rattle.tnef_props.proofs.writing_values.append_padded.Goals as goal

pub returns-in_err-bytes : goal.returns-in_err-bytes
returns-in_err-bytes g c =
    let x = g.B.Blob.bytes c.args.text.now in
    let nulls = replicate {A = ℕ} c.args.null 0 in
    rw (padded_open x c.args.null) (sums_first (nulls ++ replicate (pad4 (length (x ++ nulls))) 0) c.from_residual.ensures.0 c.in_err-bytes.ensures)

pub returns-in_err-zeros : goal.returns-in_err-zeros
returns-in_err-zeros g c =
    rw (padded_parts (g.B.Blob.bytes c.args.text.now) c.args.null _ _ (omega (arith, c.len.ensures)) c.pad4.ensures.multiple c.pad4.ensures.least)
    (sums_second c.from_residual-in_err-zeros.ensures.0 c.in_ok-bytes.ensures c.in_err-zeros.ensures)

pub returns : goal.returns
returns g c =
    rw (padded_parts (g.B.Blob.bytes c.args.text.now) c.args.null _ _ (omega (arith, c.len.ensures)) c.pad4.ensures.multiple c.pad4.ensures.least)
    (sums_both _ refl c.in_ok-bytes.ensures c.in_ok-zeros.ensures)
