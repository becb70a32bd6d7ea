use Rattle.std.proofs.Common.{◌≡◌, ◌+◌, ◌*◌, length}
use Rattle.mail_model.specs.Lines.{lines}
use Rattle.mime_envelope.specs.Parts.{first_in}
use Rattle.mime_envelope.proofs.search.+searching.Given as goal

abbrev pub decreases-search : goal.decreases-search
decreases-search l = 3 * l.more

abbrev pub decreases-search_part : goal.decreases-search_part
decreases-search_part l = 3 * l.more + 1

abbrev pub decreases-search_parts : goal.decreases-search_parts
decreases-search_parts l = 3 * l.more + 2

abbrev pub invariant-search_parts-loop-rest : goal.invariant-search_parts-loop-rest
invariant-search_parts-loop-rest l = record {
  same : first_in l.more l.marks.boundary.items l.at (lines l.bytes) ≡ first_in l.more l.marks.boundary.items l.place (lines l.rest);
  within : l.place + length l.rest ≡ l.at + length l.bytes;
}

abbrev pub decreases-search_parts-loop-rest : goal.decreases-search_parts-loop-rest
decreases-search_parts-loop-rest l = length l.rest
