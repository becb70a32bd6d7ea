use Rattle.std.proofs.Common.{refl}
use Rattle.tnef_model.specs.TnefCanonical.{value_bytes}
use Rattle.prop_values.specs.Meaning.{value_of}
use Rattle.carrier_io.proofs.Summed.{sums_both, sums_first, sums_second}
use Rattle.tnef_props.proofs.ranges.append_keyed.Goals as goal

pub returns-in_err-key : goal.returns-in_err-key
returns-in_err-key g c =
    let w = rw (c.number.ensures, c.kind.ensures) at c.in_err-key.ensures in
    rw (← c.prop.view_is) (sums_first (value_bytes (value_of g.B.Blob.bytes c.prop.inside.value)) c.from_residual.ensures.0 w)

pub returns-in_err-value : goal.returns-in_err-value
returns-in_err-value g c =
    let w = rw (c.number.ensures, c.kind.ensures) at c.in_ok-key.ensures in
    rw (← c.prop.view_is) (sums_second c.from_residual-in_err-value.ensures.0 w c.in_err-value.ensures)

pub returns : goal.returns
returns g c =
    let w = rw (c.number.ensures, c.kind.ensures) at c.in_ok-key.ensures in
    rw (← c.prop.view_is) (sums_both _ refl w c.in_ok-value.ensures)
