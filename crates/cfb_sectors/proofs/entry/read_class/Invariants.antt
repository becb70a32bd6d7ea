use Rattle.std.proofs.Common.{◌≡◌, take, drop, length, ◌-◌}
use Rattle.cfb_sectors.proofs.entry.read_class.Given as goal

abbrev pub invariant-loop-i : goal.invariant-loop-i
invariant-loop-i l = record {
  count : length l.class ≡ 16;
  so_far : take l.i l.class ≡ take l.i (drop l.at l.bytes);
}
