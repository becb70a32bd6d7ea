use Rattle.carrier_io.proofs.Known.{andthen, failing}
use Rattle.mail_model.specs.EnvelopeText.{version_line, type_line, encoding_line, disposition_line, envelope_head, body_lines, envelope_of}
use Rattle.mime_envelope.proofs.writing.write_envelope.Goals as goal

pub returns-in_err-write_pieces : goal.returns-in_err-write_pieces
unfolding envelope_of envelope_head version_line type_line encoding_line disposition_line
returns-in_err-write_pieces g c = failing (body_lines c.args.bytes.now) c.from_residual.ensures.0 c.in_err-write_pieces.ensures

pub returns : goal.returns
unfolding envelope_of envelope_head version_line type_line encoding_line disposition_line
returns g c = andthen c.in_ok-write_pieces.ensures c.write_body.ensures
