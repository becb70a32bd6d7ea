use Rattle.mime_envelope.proofs.Canonical.{carries_its_bytes, carries_no_other}
use Rattle.mime_envelope.proofs.laws.envelopes_are_exact.Goals as goal

pub returns-clause-carried : goal.returns-clause-carried
returns-clause-carried c = carries_its_bytes

pub returns-clause-only : goal.returns-clause-only
returns-clause-only c = carries_no_other c.new-coder.result.engine c.new-coder.result.standard
