use Rattle.std.proofs.Common.{sym, subst}
use Rattle.cfb_list.specs.Contents.{storages_of}
use Rattle.cfb_list.specs.Listed.{IsSound}
use Rattle.cfb_list.proofs.Added.{storage_pushed}
use Rattle.cfb_list.proofs.Soundness.{storage_added}
use Rattle.cfb_list.proofs.list.FileList.add_empty.Goals as goal

pub invariant_of-self-2 : goal.invariant_of-self-2
invariant_of-self-2 g c =
    let of = g.B.Blob.bytes in
    subst IsSound (sym (storage_pushed of c.self.inside.storages.items _ (record { files = c.new-files.result }) c.in_ok-push.ensures.items c.new-files.ensures.items))
    (storage_added (storages_of of c.self.inside.storages.items) c.self.invariant)
