use Rattle.std.proofs.Common.{◌≡◌, ◌++◌, map}
use Rattle.cfb_list.specs.Contents.{storages_of}
use Rattle.cfb_list.specs.Places.{AreThere, sorted_storages}
use Rattle.cfb_list.specs.Sorting.{siblings_in_order}
use Rattle.cfb_list.proofs.sorting.sort_all.Given as goal

abbrev pub invariant-loop-storage : goal.invariant-loop-storage
invariant-loop-storage g l = record {
  taken : l.yielded ++ l.storage-iterator.rest.items ≡ l.fn.storages.items;
  there : AreThere g.B.Blob.bytes l.all.items;
  order : sorted_storages g.B.Blob.bytes l.all.items ≡ map siblings_in_order (storages_of g.B.Blob.bytes l.yielded);
}
