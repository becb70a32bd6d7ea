use Rattle.std.proofs.Common.{None, refl, arith}
use Rattle.tnef_model.specs.LegacyAttributes.{MESSAGE_PROPS}
use Rattle.tnef_model.specs.TnefCanonical.{list_bytes}
use Rattle.tnef_writer.proofs.StreamParts.{own_length, attribute_length}
use Rattle.tnef_writer.proofs.write_sizes.own_size.Goals as goal

pub returns : goal.returns
returns g c = λ names.
    let props = c.args.props.now in
    omega (arith, own_length names props c.args.recipients.now, attribute_length 1 MESSAGE_PROPS (list_bytes names props None), c.list_size.ensures names None refl, c.recipients_size.ensures names, c.saturating_add.ensures, c.saturating_add-2.ensures)
