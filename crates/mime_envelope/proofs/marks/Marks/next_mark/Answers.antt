use Rattle.std.proofs.Common.{ap, drop, ◌∙◌}
use Rattle.mime_envelope.specs.Parts.{delimiter_front}
use Rattle.mime_envelope.proofs.Fronts.{found_line, missing_line}
use Rattle.mime_envelope.proofs.marks.Marks.next_mark.Goals as goal

pub returns-in-Some-clause-value : goal.returns-in-Some-clause-value
returns-in-Some-clause-value c = found_line (delimiter_front c.args.self.now.boundary.items) c.args.self.now.finder c.split_at.result.1.now c.args.lines.now c.in-Some.at c.args.self.now.finds (c.split_at.ensures.back ∙ ap (drop 1) c.needle.ensures) c.if-starts_with.ensures.value c.in-Some.ensures

pub returns-in-None-clause-value : goal.returns-in-None-clause-value
returns-in-None-clause-value c = missing_line (delimiter_front c.args.self.now.boundary.items) c.args.self.now.finder c.split_at.result.1.now c.args.lines.now c.args.self.now.finds (c.split_at.ensures.back ∙ ap (drop 1) c.needle.ensures) c.if-starts_with.ensures.value c.in-None.ensures
