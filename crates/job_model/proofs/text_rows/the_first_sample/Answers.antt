use Rattle.job_model.proofs.text_rows.the_first_sample.Goals as goal
use Rattle.std.specs.Prelude.{refl}
use Rattle.std.specs.Fmt.{digits}
use Rattle.mail_model.specs.Base64.{alphabet, base64_text}
use Rattle.mail_model.specs.EnvelopeText.{version_line, type_line, encoding_line, disposition_line, envelope_head, text_lines, body_lines, envelope_of}

pub returns : goal.returns
unfolding digits alphabet base64_text version_line type_line encoding_line disposition_line envelope_head text_lines body_lines envelope_of
returns c = refl
