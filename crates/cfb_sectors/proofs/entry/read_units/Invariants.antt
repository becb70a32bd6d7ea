use Rattle.std.proofs.Common.{◌≡◌, ◌+◌, ◌*◌, take, map, length, ◌-◌}
use Rattle.std.specs.List.{range_with_len}
use Rattle.carrier_model.specs.Sectors.{u16_of}
use Rattle.cfb_sectors.proofs.entry.read_units.Given as goal

abbrev pub invariant-loop-i : goal.invariant-loop-i
invariant-loop-i l = record {
  count : length l.units ≡ 32;
  so_far : take l.i l.units ≡ map (λ k. u16_of l.bytes (l.at + 2 * k)) (range_with_len 0 l.i);
}
