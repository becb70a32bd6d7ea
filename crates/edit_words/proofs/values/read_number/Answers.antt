use Rattle.prop_values.specs.Kinds.{kind_number}
use Rattle.edit_words.proofs.Numerals.{value_read}
use Rattle.edit_words.proofs.values.read_number.Goals as goal

pub returns-then-bits-most : goal.returns-then-bits-most
returns-then-bits-most c = value_read (kind_number c.args.kind) c.args.most c.in-Some.bits c.args.word.now c.requires c.in-Some.ensures c.if-bits-most.true
