use Rattle.std.proofs.Common.{◌≡◌, ◌+◌, drop}
use Rattle.std.specs.List.{prefix_len}
use Rattle.mime_envelope.specs.Parts.{is_kept}
use Rattle.mime_envelope.proofs.body.count_kept.Given as goal

abbrev pub invariant-loop-i : goal.invariant-loop-i
invariant-loop-i l = prefix_len is_kept l.rest ≡ l.i + prefix_len is_kept (drop l.i l.rest)
