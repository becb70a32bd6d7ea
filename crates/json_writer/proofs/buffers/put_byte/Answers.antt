use Rattle.std.proofs.Common.{ℕ, List, ◌∙◌, ◌++◌, ◌≤◌, ap, sym, take, arith}
use Rattle.json_writer.proofs.Escapes.{letter_text, plain_text}
use Rattle.json_writer.proofs.buffers.put_byte.Goals as goal

pub returns-in-Some-clause-text : goal.returns-in-Some-clause-text
returns-in-Some-clause-text c = c.put.ensures.text ∙ ap (λ (z : List ℕ). take c.args.used c.args.buffer.now ++ z) (letter_text c.args.byte c.in-Some.letter c.in-Some.ensures.letter c.in-Some.ensures.some)

pub returns-in-None-2-clause-text : goal.returns-in-None-2-clause-text
returns-in-None-2-clause-text c =
    let large : 32 ≤ c.args.byte = omega (arith, c.if-byte-lt32.false) in
    c.put-in-None-2.ensures.text ∙ ap (λ (z : List ℕ). take c.args.used c.args.buffer.now ++ z) (plain_text c.args.byte large (sym c.in-None-2.ensures.letter))
