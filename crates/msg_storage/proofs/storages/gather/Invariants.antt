use Rattle.std.proofs.Common.{◌≡◌, take, map}
use Rattle.std.specs.Prelude.{All, filter_map}
use Rattle.cfb_directory.specs.Found.{IsThere, children_list, storage_seen}
use Rattle.msg_storage.specs.Numbered.{numbered_child, numbered_seen}
use Rattle.msg_storage.proofs.storages.gather.Given as goal

abbrev pub invariant-loop-k : goal.invariant-loop-k
invariant-loop-k l = record {
  seen : map (numbered_seen l.files) l.list.items ≡ filter_map (numbered_child l.prefix) (take l.k (children_list (storage_seen l.files l.at).children));
  there : All (λ n. IsThere l.files n.storage) l.list.items;
}
