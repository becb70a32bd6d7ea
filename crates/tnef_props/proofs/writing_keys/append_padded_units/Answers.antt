use Rattle.std.proofs.Common.{◌++◌, length, refl, arith}
use Rattle.std.specs.Prelude.{replicate}
use Rattle.carrier_model.specs.Bytes.{unit_bytes, pad4}
use Rattle.carrier_io.proofs.Summed.{sums_both, sums_first, sums_second}
use Rattle.tnef_props.proofs.WrittenKeys.{units_padded, units_open}
use Rattle.tnef_props.proofs.writing_keys.append_padded_units.Goals as goal

pub returns-in_err-text : goal.returns-in_err-text
returns-in_err-text g c =
    let units = c.args.units.now in
    rw (units_open units) (sums_first (replicate 2 0 ++ replicate (pad4 (length (unit_bytes units ++ replicate 2 0))) 0) c.from_residual.ensures.0 c.in_err-text.ensures)

pub returns-in_err-zeros : goal.returns-in_err-zeros
returns-in_err-zeros g c =
    rw (units_padded c.args.units.now _ _ (omega (arith, c.len.ensures)) c.pad4.ensures.multiple c.pad4.ensures.least)
    (sums_second c.from_residual-in_err-zeros.ensures.0 c.in_ok-text.ensures c.in_err-zeros.ensures)

pub returns : goal.returns
returns g c =
    rw (units_padded c.args.units.now _ _ (omega (arith, c.len.ensures)) c.pad4.ensures.multiple c.pad4.ensures.least)
    (sums_both _ refl c.in_ok-text.ensures c.in_ok-zeros.ensures)
