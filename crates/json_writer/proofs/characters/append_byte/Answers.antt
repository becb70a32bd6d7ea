use Rattle.std.proofs.Common.{◌≤◌, sym, arith}
use Rattle.json_writer.proofs.Counted.{counts_as}
use Rattle.json_writer.proofs.Escapes.{letter_text, plain_text}
use Rattle.json_writer.proofs.characters.append_byte.Goals as goal

pub returns-in-Some : goal.returns-in-Some
returns-in-Some g c = counts_as _ (letter_text c.args.byte c.in-Some.letter c.in-Some.ensures.letter c.in-Some.ensures.some) c.append.ensures

pub returns-in-None-2 : goal.returns-in-None-2
returns-in-None-2 g c =
    let large : 32 ≤ c.args.byte = omega (arith, c.if-byte-lt32.false) in
    counts_as _ (plain_text c.args.byte large (sym c.in-None-2.ensures.letter)) c.append-in-None-2.ensures
