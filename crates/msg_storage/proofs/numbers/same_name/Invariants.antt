use Rattle.std.proofs.Common.{◌≡◌, take}
use Rattle.carrier_model.specs.Files.{folded}
use Rattle.msg_storage.proofs.numbers.same_name.Given as goal

abbrev pub invariant-loop-k : goal.invariant-loop-k
invariant-loop-k l = folded (take l.k l.units) ≡ folded (take l.k l.text)
