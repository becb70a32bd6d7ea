use Rattle.std.proofs.Common.{◌≡◌, take, map, vec_len, ◌-◌}
use Rattle.carrier_model.specs.Sectors.{sector_start}
use Rattle.cfb_sectors.proofs.streams.sector_starts.Given as goal

abbrev pub invariant-loop-sector : goal.invariant-loop-sector
invariant-loop-sector l = record {
  count : vec_len l.starts ≡ l.sector-index;
  starts : l.starts.items ≡ map (sector_start l.size) (take l.sector-index l.chain);
}
