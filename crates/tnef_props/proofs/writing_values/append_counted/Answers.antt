use Rattle.std.proofs.Common.{refl}
use Rattle.prop_values.specs.Meaning.{value_of}
use Rattle.tnef_props.specs.Written.{content_field}
use Rattle.carrier_io.proofs.Summed.{sums_both, sums_first, sums_second}
use Rattle.tnef_props.proofs.WrittenValues.{value_parts}
use Rattle.tnef_props.proofs.writing_values.append_counted.Goals as goal

pub returns-in_err-count : goal.returns-in_err-count
returns-in_err-count g c =
    let v = value_of g.B.Blob.bytes c.args.value.now in
    rw (value_parts v) (sums_first (content_field v) c.from_residual.ensures.0 c.in_err-count.ensures)

pub returns-in_err-content : goal.returns-in_err-content
returns-in_err-content g c = rw (value_parts (value_of g.B.Blob.bytes c.args.value.now)) (sums_second c.from_residual-in_err-content.ensures.0 c.in_ok-count.ensures c.in_err-content.ensures)

pub returns : goal.returns
returns g c = rw (value_parts (value_of g.B.Blob.bytes c.args.value.now)) (sums_both _ refl c.in_ok-count.ensures c.in_ok-content.ensures)
