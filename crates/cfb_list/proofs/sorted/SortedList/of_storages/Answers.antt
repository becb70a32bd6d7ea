use Rattle.std.proofs.Common.{sym, subst}
use Rattle.cfb_list.specs.Contents.{storages_of}
use Rattle.cfb_list.specs.Listed.{IsSound}
use Rattle.cfb_list.proofs.Soundness.{sorted_sound}
use Rattle.cfb_list.proofs.sorted.SortedList.of_storages.Goals as goal

pub invariant_of-result : goal.invariant_of-result
invariant_of-result g c = (subst IsSound (sym c.in_ok-storages.ensures.order) (sorted_sound (storages_of g.B.Blob.bytes c.args.storages.items) c.requires), c.in_ok-storages.ensures.there)
