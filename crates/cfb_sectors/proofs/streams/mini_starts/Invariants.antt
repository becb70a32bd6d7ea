use Rattle.std.proofs.Common.{◌≡◌, take, map, vec_len, ◌-◌}
use Rattle.carrier_model.specs.Streams.{place_in, starts_of}
use Rattle.cfb_sectors.proofs.streams.mini_starts.Given as goal

abbrev pub invariant-loop-offset : goal.invariant-loop-offset
invariant-loop-offset l = record {
  count : vec_len l.starts ≡ l.offset-index;
  starts : l.starts.items ≡ map (place_in l.size (starts_of l.size l.stream)) (take l.offset-index l.offsets);
}
