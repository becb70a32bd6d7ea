use Rattle.std.proofs.Common.{◌-◌, ◌≡◌, ◌*◌, ◌/◌, take, vec_len}
use Rattle.carrier_model.specs.Sectors.{table_words}
use Rattle.cfb_sectors.proofs.words.read_words.Given as goal

abbrev pub invariant-loop-sector : goal.invariant-loop-sector
invariant-loop-sector l = record {
  count : vec_len l.words ≡ l.size / 4 * l.sector-index;
  words : l.words.items ≡ table_words l.size l.bytes (take l.sector-index l.sectors);
}
