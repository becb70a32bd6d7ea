use Rattle.std.proofs.Common.{rules}
use Rattle.std.proofs.lemmas.List.Sorted.{answers_always}
use Rattle.msg_tree.proofs.Gathered.{entry_before, entry_ranks, entries_sorted}
use Rattle.msg_tree.proofs.store_members.sort_entries.Goals as goal

pub returns : goal.returns
returns g c =
    entries_sorted g.B.Blob.bytes _ _
    (c.in_ok-sort_by.ensures.sorted (entry_before g.B.Blob.bytes) (entry_ranks g.B.Blob.bytes) (answers_always _ _ _ (λ f a r h i. search rules)))
    (c.in_ok-sort_by.ensures.stable (entry_before g.B.Blob.bytes) (entry_ranks g.B.Blob.bytes) (answers_always _ _ _ (λ f a r h i. search rules)))
