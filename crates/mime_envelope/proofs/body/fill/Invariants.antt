use Rattle.std.proofs.Common.{◌≡◌, ◌+◌, ◌≤◌, ◌++◌, length}
use Rattle.mail_model.specs.Envelope as envelope
use Rattle.mime_envelope.proofs.body.fill.Given as goal

abbrev pub invariant-loop-piece : goal.invariant-loop-piece
invariant-loop-piece l = record {
  few : length l.piece.items ≤ 4096;
  text : l.piece.items ++ envelope.characters l.rest ≡ envelope.characters l.body;
  within : length l.piece.items + length l.rest ≤ length l.body;
}

abbrev pub decreases-loop-piece : goal.decreases-loop-piece
decreases-loop-piece l = length l.rest
