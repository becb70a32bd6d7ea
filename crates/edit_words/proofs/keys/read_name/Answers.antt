use Rattle.std.proofs.Common.{sym, arith}
use Rattle.std.proofs.lemmas.List.{length-take-le, take_rest}
use Rattle.edit_words.proofs.KeyWords.{name_found, name_lost, name_unslashed}
use Rattle.edit_words.proofs.keys.read_name.Goals as goal

pub slice_bounds-guid_of_digits-end : goal.slice_bounds-guid_of_digits-end
slice_bounds-guid_of_digits-end c = sym (length-take-le 32 c.args.word.now (omega (arith, c.requires)))

pub returns-in_default-number_of_eight : goal.returns-in_default-number_of_eight
returns-in_default-number_of_eight c = name_lost c.args.word.now c.in-Some.set.0 c.in-Some.ensures (rw (take_rest c.args.word.now 33) at c.in_default-number_of_eight.ensures)

pub returns-then-word-eq47 : goal.returns-then-word-eq47
returns-then-word-eq47 c = name_found c.args.word.now c.in-Some.set.0 c.in-Some-number_of_eight.number c.in-Some.ensures (rw (take_rest c.args.word.now 33) at c.in-Some-number_of_eight.ensures) c.if-word-eq47.true

pub returns-else-word-eq47 : goal.returns-else-word-eq47
returns-else-word-eq47 c = name_unslashed c.args.word.now c.in-Some.set.0 c.in-Some-number_of_eight.number c.in-Some.ensures (rw (take_rest c.args.word.now 33) at c.in-Some-number_of_eight.ensures) c.if-word-eq47.false
