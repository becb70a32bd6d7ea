use Rattle.std.proofs.Common.{◌≡◌, take}
use Rattle.std.specs.List.{list_all}
use Rattle.mime_envelope.specs.Parts.{is_kept}
use Rattle.mime_envelope.proofs.body.are_kept.Given as goal

abbrev pub invariant-loop-byte : goal.invariant-loop-byte
invariant-loop-byte l = l.kept ≡ list_all is_kept (take l.byte-index l.bytes)
