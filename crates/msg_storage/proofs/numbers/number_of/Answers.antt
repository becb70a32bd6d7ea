use Rattle.std.proofs.Common.{◌≡◌, ◌∙◌, Some, get_or, sym, arith}
use Rattle.std.specs.Prelude.{slice_get}
use Rattle.std.proofs.lemmas.Option.{slice_get-get_or}
use Rattle.msg_storage.proofs.Digits.{digit_low, digit_room, digit_stops}
use Rattle.msg_storage.proofs.numbers.number_of.Goals as goal

pub overflow_mul-number : goal.overflow_mul-number
overflow_mul-number c =
    let room = digit_room c.args.digits.now c.loop-unit.unit-index c.loop-unit.number c.loop-unit.invariant (omega (arith, c.loop-unit-test.true, c.requires)) in
    omega (arith, room)

pub overflow_add-number : goal.overflow_add-number
overflow_add-number c =
    let room = digit_room c.args.digits.now c.loop-unit.unit-index c.loop-unit.number c.loop-unit.invariant (omega (arith, c.loop-unit-test.true, c.requires)) in
    let low = digit_low (get_or c.args.digits.now c.loop-unit.unit-index 0) c.in_ok-number.field-0 c.in_ok-number.ensures in
    omega (arith, room, low)

pub returns-in_err-number : goal.returns-in_err-number
returns-in_err-number c =
    let u = get_or c.args.digits.now c.loop-unit.unit-index 0 in
    let at : slice_get c.args.digits.now c.loop-unit.unit-index ≡ Some u = slice_get-get_or c.args.digits.now c.loop-unit.unit-index 0 c.loop-unit-test.true in
    c.from_residual.ensures ∙ sym (digit_stops c.args.digits.now c.loop-unit.unit-index c.loop-unit.number c.loop-unit.invariant u at c.in_err-number.ensures)
