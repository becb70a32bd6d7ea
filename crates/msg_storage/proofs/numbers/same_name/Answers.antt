use Rattle.std.proofs.Common.{◌≡◌, ◌∙◌, Some, ap, get_or, sym, arith}
use Rattle.std.specs.Prelude.{slice_get}
use Rattle.std.specs.Char.{to_ascii_lowercase}
use Rattle.std.proofs.lemmas.Option.{slice_get-get_or}
use Rattle.msg_storage.proofs.Digits.{folded_all, other_unit}
use Rattle.msg_storage.proofs.numbers.same_name.Goals as goal

pub returns-then-lower : goal.returns-then-lower
returns-then-lower c =
    let k = c.loop-k.k in
    let a = c.args.units.now in
    let b = c.args.text.now in
    let there : slice_get a k ≡ Some (get_or a k 0) = slice_get-get_or a k 0 (omega (arith, c.loop-k-test.true)) in
    let also : slice_get b k ≡ Some (get_or b k 0) = slice_get-get_or b k 0 (omega (arith, c.loop-k-test.true, c.if-units-text.false)) in
    sym (other_unit a b k (get_or a k 0) (get_or b k 0) there also (λ e. c.if-lower.true (c.lower.ensures ∙ (e ∙ sym (c.lower-in-loop-k.ensures ∙ ap to_ascii_lowercase c.from.ensures)))))

pub returns : goal.returns
returns c = sym (folded_all c.args.units.now c.args.text.now c.loop-k.k c.loop-k.invariant (omega (arith, c.loop-k-test.false)) (omega (arith, c.loop-k-test.false, c.if-units-text.false)))
