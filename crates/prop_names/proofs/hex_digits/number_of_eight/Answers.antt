use Rattle.std.proofs.Common.{◌∙◌, sym, arith}
use Rattle.std.proofs.lemmas.List.{take_rest}
use Rattle.prop_names.proofs.PairsOfDigits.{eight_are, no_back}
use Rattle.prop_names.proofs.hex_digits.number_of_eight.Goals as goal

pub returns-in_err-low : goal.returns-in_err-low
returns-in_err-low c = c.from_residual-in_err-low.ensures ∙ no_back c.args.text.now (omega (arith, c.if-text-ne8.false)) (sym c.in_err-low.was ∙ rw (take_rest c.args.text.now 4) at c.number_of_four-2.ensures.number)

pub returns : goal.returns
returns c = eight_are c.args.text.now c.in_ok-high.high c.in_ok-low.low (omega (arith, c.if-text-ne8.false)) c.in_ok-high.ensures.number (rw (take_rest c.args.text.now 4) at c.in_ok-low.ensures.number)
