use Rattle.std.proofs.Common.{◌≡◌, ◌<◌, List, length, sym, subst}
use Rattle.std.specs.List.{AllByRecursion}
use Rattle.cfb_list.specs.Listed.{Child, IsChild, children_at, built}
use Rattle.cfb_list.specs.Places.{sorted_storages}
use Rattle.cfb_list.specs.Trees.{inside}
use Rattle.cfb_list.proofs.BuiltTrees.{children_of_sound, inside_is}
use Rattle.cfb_list.proofs.sorted.SortedList.count_in.Goals as goal

pub returns-clause-sound : goal.returns-clause-sound
returns-clause-sound g c =
    let lt = subst (λ (ss : List (List Child)). c.args.parent < length ss) (sym c.self.view_is) c.requires in
    subst (λ (ss : List (List Child)). AllByRecursion (IsChild c.args.parent (length ss)) (children_at ss c.args.parent)) c.self.view_is (children_of_sound (sorted_storages g.B.Blob.bytes c.self.inside.storages.items) c.args.parent c.self.invariant.0 lt)

pub returns-clause-tree : goal.returns-clause-tree
returns-clause-tree g c =
    let lt = subst (λ (ss : List (List Child)). c.args.parent < length ss) (sym c.self.view_is) c.requires in
    subst (λ (ss : List (List Child)). inside ss c.args.parent ≡ built (inside ss) (children_at ss c.args.parent)) c.self.view_is (inside_is (sorted_storages g.B.Blob.bytes c.self.inside.storages.items) c.args.parent c.self.invariant.0 lt)
