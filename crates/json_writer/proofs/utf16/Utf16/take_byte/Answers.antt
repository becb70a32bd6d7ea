use Rattle.std.proofs.Common.{◌≡◌, ◌+◌, ◌*◌, arith}
use Rattle.json_writer.proofs.Decoding.{fits_next}
use Rattle.json_writer.proofs.utf16.Utf16.take_byte.Goals as goal

pub returns-in-Some-clause-fits : goal.returns-in-Some-clause-fits
returns-in-Some-clause-fits c more =
    let unit : c.from_le_bytes.result ≡ c.in-Some.low + 256 * c.args.byte = omega (arith, c.from_le_bytes.ensures) in
    fits_next c.args.self.now c.take_unit.new.self c.in-Some.low c.args.byte c.from_le_bytes.result more c.in-Some.is unit c.take_unit.ensures.high c.take_unit.ensures.fits c.take_unit.ensures.low
