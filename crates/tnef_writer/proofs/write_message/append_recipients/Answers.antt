use Rattle.std.proofs.Common.{◌<◌, length, ap, arith}
use Rattle.tnef_model.specs.LegacyAttributes.{RECIPIENTS}
use Rattle.tnef_writer.specs.Written.{table_bytes}
use Rattle.carrier_io.proofs.Summed.{sums_nothing}
use Rattle.tnef_writer.proofs.StreamParts.{attribute_length, no_recipients, some_recipients}
use Rattle.tnef_writer.proofs.write_message.append_recipients.Goals as goal

pub append_filled-requires-clause-fits : goal.append_filled-requires-clause-fits
append_filled-requires-clause-fits g c =
    let rs = c.args.recipients.now in
    let some : 0 < length rs = omega (arith, c.len.ensures, c.if-len-eq0.false) in
    omega (arith, c.requires.fits, ap length (some_recipients c.args.names.now rs some), attribute_length 1 RECIPIENTS (table_bytes c.args.names.now rs))

pub returns-then-len-eq0 : goal.returns-then-len-eq0
returns-then-len-eq0 g c = rw (no_recipients c.args.names.now c.args.recipients.now (omega (arith, c.len.ensures, c.if-len-eq0.true))) (sums_nothing _ _)

pub returns : goal.returns
returns g c =
    let rs = c.args.recipients.now in
    let some : 0 < length rs = omega (arith, c.len.ensures, c.if-len-eq0.false) in
    rw (some_recipients c.args.names.now rs some) c.append_filled.ensures
