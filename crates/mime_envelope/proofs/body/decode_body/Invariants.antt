use Rattle.std.proofs.Common.{◌≡◌, ◌++◌, length}
use Rattle.carrier_model.specs.Bytes.{AllBytes}
use Rattle.mail_model.specs.Base64.{base64_text}
use Rattle.mail_model.specs.Envelope as envelope
use Rattle.mime_envelope.proofs.body.decode_body.Given as goal

abbrev pub invariant-loop-rest : goal.invariant-loop-rest
invariant-loop-rest l = record {
  text : base64_text l.payload.items ++ envelope.characters l.rest ≡ envelope.characters l.body;
  bytes : AllBytes l.payload.items;
}

abbrev pub decreases-loop-rest : goal.decreases-loop-rest
decreases-loop-rest l = length l.rest
