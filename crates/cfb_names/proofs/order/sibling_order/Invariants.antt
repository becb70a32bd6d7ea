use Rattle.std.proofs.Common.{◌≡◌, drop, map}
use Rattle.std.specs.Char.{to_ascii_uppercase}
use Rattle.std.specs.Cmp.Lexicographic.{slice_cmp}
use Rattle.std.specs.Ordering.{nat_cmp}
use Rattle.cfb_names.proofs.order.sibling_order.Given as goal

abbrev pub invariant-loop-k : goal.invariant-loop-k
invariant-loop-k l =
    slice_cmp nat_cmp (map to_ascii_uppercase l.one) (map to_ascii_uppercase l.other)
    ≡ slice_cmp nat_cmp (map to_ascii_uppercase (drop l.k l.one)) (map to_ascii_uppercase (drop l.k l.other))
