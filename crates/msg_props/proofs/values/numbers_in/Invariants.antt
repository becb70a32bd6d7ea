use Rattle.std.proofs.Common.{◌≡◌, ◌<◌, ◌*◌, ◌^◌, All, map}
use Rattle.std.specs.List.{range_with_len}
use Rattle.carrier_model.specs.Bytes.{le_number}
use Rattle.cfb_sectors.specs.Seen.{bytes_of}
use Rattle.msg_props.proofs.PieceForms.{piece}
use Rattle.msg_props.proofs.values.numbers_in.Given as goal

abbrev pub invariant-loop-k : goal.invariant-loop-k
invariant-loop-k l = record {
  list : l.list ≡ map le_number (map (piece l.width (bytes_of l.view)) (range_with_len 0 l.k));
  fit : All (λ n. n < 2 ^ (8 * l.width)) l.list;
}
