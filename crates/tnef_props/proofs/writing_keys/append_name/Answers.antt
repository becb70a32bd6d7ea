use Rattle.std.proofs.Common.{refl}
use Rattle.prop_names.specs.Meaning.{name_of}
use Rattle.tnef_props.specs.Named.{label_field}
use Rattle.carrier_io.proofs.Summed.{sums_both, sums_first, sums_second}
use Rattle.tnef_props.proofs.WrittenKeys.{name_parts}
use Rattle.tnef_props.proofs.writing_keys.append_name.Goals as goal

pub returns-in_err-set : goal.returns-in_err-set
returns-in_err-set g c = rw (name_parts (name_of c.args.name.now)) (sums_first (label_field (name_of c.args.name.now)) c.from_residual.ensures.0 (rw c.set.ensures at c.in_err-set.ensures))

pub returns-in_err-label : goal.returns-in_err-label
returns-in_err-label g c = rw (name_parts (name_of c.args.name.now)) (sums_second c.from_residual-in_err-label.ensures.0 (rw c.set.ensures at c.in_ok-set.ensures) c.in_err-label.ensures)

pub returns : goal.returns
returns g c = rw (name_parts (name_of c.args.name.now)) (sums_both _ refl (rw c.set.ensures at c.in_ok-set.ensures) c.in_ok-label.ensures)
