use Rattle.std.proofs.Common.{◌≡◌, ◌*◌, take, map, vec_len, ◌-◌}
use Rattle.cfb_sectors.proofs.streams.offsets_of.Given as goal

abbrev pub invariant-loop-sector : goal.invariant-loop-sector
invariant-loop-sector l = record {
  count : vec_len l.starts ≡ l.sector-index;
  starts : l.starts.items ≡ map (λ m. 64 * m) (take l.sector-index l.chain);
}
