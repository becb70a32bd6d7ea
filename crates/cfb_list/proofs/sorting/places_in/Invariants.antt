use Rattle.std.proofs.Common.{◌≡◌, map, take}
use Rattle.std.specs.Prelude.{All, flat_map}
use Rattle.cfb_list.specs.Contents.{file_children}
use Rattle.cfb_list.specs.Places.{IsThere, child_at}
use Rattle.cfb_list.proofs.sorting.places_in.Given as goal

abbrev pub invariant-loop-k : goal.invariant-loop-k
invariant-loop-k g l = record {
  there : All (IsThere g.B.Blob.bytes l.files) l.places.items;
  all : map (child_at g.B.Blob.bytes l.files) l.places.items ≡ flat_map (file_children g.B.Blob.bytes) (take l.k l.files);
}
