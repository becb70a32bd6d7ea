use Rattle.std.proofs.Common.{arith}
use Rattle.mail_model.proofs.EnvelopeText.{length-envelope_of}
use Rattle.mime_envelope.proofs.writing.envelope_size.Goals as goal

pub returns : goal.returns
returns c = λ bytes is. let size = length-envelope_of bytes in omega (arith, c.div_ceil-characters.ensures, c.div_ceil.ensures)
