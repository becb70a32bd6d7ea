use Rattle.std.proofs.Common.{◌≡◌, length}
use Rattle.std.specs.List.{list_any}
use Rattle.mail_model.specs.Lines.{lines}
use Rattle.mail_model.specs.Entities.{is_closing}
use Rattle.mime_envelope.proofs.parts.has_closing.Given as goal

abbrev pub invariant-loop-rest : goal.invariant-loop-rest
invariant-loop-rest l = list_any (is_closing l.marks.boundary.items) (lines l.bytes) ≡ list_any (is_closing l.marks.boundary.items) (lines l.rest)

abbrev pub decreases-loop-rest : goal.decreases-loop-rest
decreases-loop-rest l = length l.rest
