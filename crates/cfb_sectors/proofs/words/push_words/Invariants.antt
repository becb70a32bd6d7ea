use Rattle.std.proofs.Common.{◌-◌, ◌≡◌, ◌+◌, ◌*◌, ◌++◌, map, vec_len}
use Rattle.std.specs.List.{range_with_len}
use Rattle.carrier_model.specs.Sectors.{sector_start, u32_of}
use Rattle.cfb_sectors.proofs.words.push_words.Given as goal

abbrev pub invariant-loop-i : goal.invariant-loop-i
invariant-loop-i l = record {
  count : vec_len l.words ≡ vec_len l.initial.words + l.i;
  words : l.words.items ≡ l.initial.words.items ++ map (λ i. u32_of l.bytes (sector_start l.size l.sector + 4 * i)) (range_with_len 0 l.i);
}
