use Rattle.std.proofs.Common.{◌≡◌, All, length, map}
use Rattle.std.specs.List.{range_with_len}
use Rattle.cfb_sectors.specs.Seen.{bytes_of}
use Rattle.msg_props.proofs.PieceForms.{piece}
use Rattle.msg_props.proofs.values.guids_in.Given as goal

abbrev pub invariant-loop-k : goal.invariant-loop-k
invariant-loop-k l = record {
  list : l.list ≡ map (piece 16 (bytes_of l.view)) (range_with_len 0 l.k);
  fit : All (λ g. length g ≡ 16) l.list;
}
