use Rattle.std.proofs.Common.{arith}
use Rattle.prop_names.proofs.PairsOfDigits.{four_are}
use Rattle.prop_names.proofs.hex_digits.number_of_four.Goals as goal

pub returns-clause-number : goal.returns-clause-number
returns-clause-number c =
    four_are c.args.text.now _ _ _ _ (omega (arith, c.if-text-ne4.false))
    (rw c.from-first.ensures c.in_ok-digit_of.ensures.value) (rw c.from-second.ensures c.in_ok-digit_of-2.ensures.value)
    (rw c.from-third.ensures c.in_ok-digit_of-3.ensures.value) (rw c.from-fourth.ensures c.in_ok-digit_of-4.ensures.value)
