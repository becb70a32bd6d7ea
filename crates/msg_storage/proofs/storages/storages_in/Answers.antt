use Rattle.std.proofs.Common.{rules}
use Rattle.std.proofs.lemmas.List.Sorted.{All-permutation, answers_always}
use Rattle.cfb_directory.specs.Found.{IsThere, storage_seen}
use Rattle.msg_storage.specs.declared.storages.Numbered.{Numbered}
use Rattle.msg_storage.proofs.Apart.{names_apart}
use Rattle.msg_storage.proofs.Sorting.{numbered_before, numbered_ranks, sorted_storages}
use Rattle.msg_storage.proofs.storages.storages_in.Goals as goal

pub returns-clause-seen : goal.returns-clause-seen
returns-clause-seen c =
    let f = c.args.files.now in
    sorted_storages f c.in_ok-list.list.items _ _ c.in_ok-list.ensures.seen c.sort_unstable_by.ensures.permutation
    (c.sort_unstable_by.ensures.sorted numbered_before numbered_ranks (answers_always _ _ _ (λ g a r h i. search rules)))
    (c.numbered_storages_are_in_order.ensures c.args.prefix.now (storage_seen f c.args.at).children (names_apart f c.args.at))

pub returns-clause-there : goal.returns-clause-there
returns-clause-there c = All-permutation (λ (n : Numbered). IsThere c.args.files.now n.storage) c.in_ok-list.list.items _ c.sort_unstable_by.ensures.permutation c.in_ok-list.ensures.there
