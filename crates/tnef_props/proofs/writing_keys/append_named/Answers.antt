use Rattle.std.proofs.Common.{refl}
use Rattle.tnef_model.specs.TnefCanonical.{name_bytes}
use Rattle.prop_names.specs.Meaning.{name_of}
use Rattle.carrier_io.proofs.Summed.{sums_both, sums_first, sums_second}
use Rattle.tnef_props.proofs.writing_keys.append_named.Goals as goal

pub returns-in_err-tag : goal.returns-in_err-tag
returns-in_err-tag g c = sums_first (name_bytes (name_of c.args.name.now)) c.from_residual.ensures.0 (rw c.id_of.ensures at c.in_err-tag.ensures)

pub returns-in_err-rest : goal.returns-in_err-rest
returns-in_err-rest g c = sums_second c.from_residual-in_err-rest.ensures.0 (rw c.id_of.ensures at c.in_ok-tag.ensures) c.in_err-rest.ensures

pub returns : goal.returns
returns g c = sums_both _ refl (rw c.id_of.ensures at c.in_ok-tag.ensures) c.in_ok-rest.ensures
