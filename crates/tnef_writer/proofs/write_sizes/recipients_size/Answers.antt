use Rattle.std.proofs.Common.{◌<◌, length, ap, arith}
use Rattle.tnef_model.specs.LegacyAttributes.{RECIPIENTS}
use Rattle.tnef_writer.specs.Written.{table_bytes}
use Rattle.tnef_writer.proofs.StreamParts.{attribute_length, some_recipients}
use Rattle.tnef_writer.proofs.write_sizes.recipients_size.Goals as goal

pub returns : goal.returns
returns g c = λ names.
    let rs = c.args.recipients.now in
    let some : 0 < length rs = omega (arith, c.len.ensures, c.if-len-eq0.false) in
    omega (arith, c.table_size.ensures names, ap length (some_recipients names rs some), attribute_length 1 RECIPIENTS (table_bytes names rs), c.saturating_add.ensures)
