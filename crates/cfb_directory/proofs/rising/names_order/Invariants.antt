use Rattle.std.proofs.Common.{◌≡◌, map}
use Rattle.std.specs.Char.{to_ascii_lowercase}
use Rattle.std.specs.Cmp.Lexicographic.{slice_cmp}
use Rattle.std.specs.Ordering.{nat_cmp}
use Rattle.cfb_directory.proofs.RisingLaws.{names_from}
use Rattle.cfb_directory.proofs.rising.names_order.Given as goal

abbrev pub invariant-loop-k : goal.invariant-loop-k
invariant-loop-k l = slice_cmp nat_cmp (map to_ascii_lowercase l.one) (map to_ascii_lowercase l.other) ≡ names_from l.one l.other l.k
