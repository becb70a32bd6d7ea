use Rattle.std.proofs.Common.{◌≡◌, map}
use Rattle.std.specs.Char.{to_ascii_lowercase}
use Rattle.std.specs.Cmp.Lexicographic.{slice_cmp}
use Rattle.std.specs.Ordering.{nat_cmp}
use Rattle.cfb_directory.proofs.RisingLaws.{key_from}
use Rattle.cfb_directory.proofs.rising.key_order.Given as goal

abbrev pub invariant-loop-k : goal.invariant-loop-k
invariant-loop-k l = slice_cmp nat_cmp (map to_ascii_lowercase l.name) l.key ≡ key_from l.name l.key l.k
