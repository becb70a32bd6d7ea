use Rattle.msg_storage.proofs.Digits.{DigitsRead}
use Rattle.msg_storage.proofs.numbers.number_of.Given as goal

abbrev pub invariant-loop-unit : goal.invariant-loop-unit
invariant-loop-unit l = DigitsRead l.digits l.unit-index l.number
