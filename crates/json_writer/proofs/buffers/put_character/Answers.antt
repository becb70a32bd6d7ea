use Rattle.std.proofs.Common.{ℕ, List, ◌∙◌, ◌++◌, ap, sym, take}
use Rattle.json_writer.proofs.Escapes.{ascii_text}
use Rattle.json_writer.proofs.buffers.put_character.Goals as goal

pub returns-then-is_ascii-clause-text : goal.returns-then-is_ascii-clause-text
returns-then-is_ascii-clause-text c = c.put_byte.ensures.text ∙ ap (λ (z : List ℕ). take c.args.used c.args.buffer.now ++ z) (ascii_text c.args.character (sym c.is_ascii.ensures ∙ c.if-is_ascii.true))
