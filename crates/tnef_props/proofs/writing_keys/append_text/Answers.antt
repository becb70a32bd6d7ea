use Rattle.std.proofs.Common.{◌++◌, [], ◌∷◌, refl, ◌∙◌, arith}
use Rattle.tnef_model.specs.TnefCanonical.{zero_padded}
use Rattle.carrier_model.specs.Bytes.{unit_bytes}
use Rattle.carrier_io.proofs.Summed.{sums_both, sums_first, sums_second}
use Rattle.tnef_props.proofs.WrittenKeys.{units_size}
use Rattle.tnef_props.proofs.writing_keys.append_text.Goals as goal

pub returns-in_err-head : goal.returns-in_err-head
returns-in_err-head g c =
    let units = c.args.units.now in
    sums_first (zero_padded (unit_bytes (units ++ 0 ∷ []))) c.from_residual.ensures.0
    (rw (c.le32-size.ensures ∙ units_size units _ (omega (arith, c.len.ensures))) at c.in_err-head.ensures)

pub returns-in_err-text : goal.returns-in_err-text
returns-in_err-text g c =
    sums_second c.from_residual-in_err-text.ensures.0
    (rw (c.le32-size.ensures ∙ units_size c.args.units.now _ (omega (arith, c.len.ensures))) at c.in_ok-head.ensures) c.in_err-text.ensures

pub returns : goal.returns
returns g c =
    sums_both _ refl
    (rw (c.le32-size.ensures ∙ units_size c.args.units.now _ (omega (arith, c.len.ensures))) at c.in_ok-head.ensures) c.in_ok-text.ensures
