use Rattle.std.proofs.Common.{◌≡◌, ◌*◌, take}
use Rattle.json_model.specs.Digits.{hex}
use Rattle.json_writer.proofs.digits.append_few.Given as goal

abbrev pub invariant-loop-k : goal.invariant-loop-k
invariant-loop-k g l = take (2 * l.k) l.digits ≡ hex (take l.k l.bytes)
