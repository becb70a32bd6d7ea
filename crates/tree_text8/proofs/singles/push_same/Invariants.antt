use Rattle.std.proofs.Common.{◌≡◌, ◌++◌, take}
use Rattle.carrier_model.specs.Bytes.{unit_bytes}
use Rattle.tree_text8.proofs.singles.push_same.Given as goal

abbrev pub invariant-loop-byte : goal.invariant-loop-byte
invariant-loop-byte l = l.wide.items ≡ l.fn.wide.items ++ unit_bytes (take l.byte-index l.run)
