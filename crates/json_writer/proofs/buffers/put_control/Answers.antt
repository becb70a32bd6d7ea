use Rattle.std.proofs.Common.{ℕ, List, ◌∙◌, ◌++◌, ap, take}
use Rattle.json_writer.proofs.Escapes.{control_text}
use Rattle.json_writer.proofs.buffers.put_control.Goals as goal

pub returns-clause-text : goal.returns-clause-text
returns-clause-text c = c.put.ensures.text ∙ ap (λ (z : List ℕ). take c.args.used c.args.buffer.now ++ z) (control_text c.args.byte c.lower_digits2.result c.requires.small c.requires.long c.lower_digits2.ensures)
