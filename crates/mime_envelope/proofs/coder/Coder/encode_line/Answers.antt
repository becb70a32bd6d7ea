use Rattle.std.proofs.Common.{◌∙◌}
use Rattle.base64.proofs.EngineFacts.{encoded_prefix}
use Rattle.mime_envelope.proofs.Coded.{encode_of-is}
use Rattle.mime_envelope.proofs.coder.Coder.encode_line.Goals as goal

pub returns-clause-text : goal.returns-clause-text
returns-clause-text c =
    encoded_prefix _ _ _ _ _ _ _ c.encode_slice.auto.output c.encode_slice.ensures.fits c.encode_slice.ensures.too_small c.in-Ok.is c.in-Ok.ensures.written
    ∙ encode_of-is c.args.self.now.engine c.args.line.now c.args.self.now.standard
