use Rattle.std.proofs.Common.{refl}
use Rattle.tnef_model.specs.TnefCanonical.{value_bytes}
use Rattle.prop_values.specs.Meaning.{value_of}
use Rattle.carrier_io.proofs.Summed.{sums_both, sums_first, sums_second}
use Rattle.tnef_props.proofs.writing_values.append_unnamed.Goals as goal

pub returns-in-Bytes : goal.returns-in-Bytes
returns-in-Bytes g c = rw c.in-Bytes.is (rw (c.number-in-Bytes.ensures, c.null_size.ensures) at c.append_tagged_text.ensures)

pub returns-in_err-tag-in_default : goal.returns-in_err-tag-in_default
returns-in_err-tag-in_default g c =
    let w = rw (c.number-in_default.ensures, c.kind.ensures) at c.in_err-tag-in_default.ensures in
    sums_first (value_bytes (value_of g.B.Blob.bytes c.args.value.now)) c.from_residual.ensures.0 w

pub returns-in_err-rest-in_default : goal.returns-in_err-rest-in_default
returns-in_err-rest-in_default g c =
    let w = rw (c.number-in_default.ensures, c.kind.ensures) at c.in_ok-tag-in_default.ensures in
    sums_second c.from_residual-in_err-rest-in_default.ensures.0 w c.in_err-rest-in_default.ensures

pub returns-in_ok-rest-in_default : goal.returns-in_ok-rest-in_default
returns-in_ok-rest-in_default g c =
    let w = rw (c.number-in_default.ensures, c.kind.ensures) at c.in_ok-tag-in_default.ensures in
    sums_both _ refl w c.in_ok-rest-in_default.ensures
