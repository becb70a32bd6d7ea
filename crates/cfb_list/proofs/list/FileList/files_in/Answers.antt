use Rattle.std.proofs.Common.{◌≡◌, ◌<◌, length, sym, subst}
use Rattle.std.specs.List.{AllByRecursion}
use Rattle.cfb_list.specs.Contents.{storages_of}
use Rattle.cfb_list.specs.Listed.{Listed, IsChild, children_at, built}
use Rattle.cfb_list.specs.Trees.{inside}
use Rattle.cfb_list.proofs.BuiltTrees.{children_of_sound, inside_is}
use Rattle.cfb_list.proofs.list.FileList.files_in.Goals as goal

pub returns-clause-sound : goal.returns-clause-sound
returns-clause-sound g c =
    let lt = subst (λ (l : Listed). c.args.parent < length l.storages) (sym c.self.view_is) c.requires in
    subst (λ (l : Listed). AllByRecursion (IsChild c.args.parent (length l.storages)) (children_at l.storages c.args.parent)) c.self.view_is (children_of_sound (storages_of g.B.Blob.bytes c.self.inside.storages.items) c.args.parent c.self.invariant lt)

pub returns-clause-tree : goal.returns-clause-tree
returns-clause-tree g c =
    let lt = subst (λ (l : Listed). c.args.parent < length l.storages) (sym c.self.view_is) c.requires in
    subst (λ (l : Listed). inside l.storages c.args.parent ≡ built (inside l.storages) (children_at l.storages c.args.parent)) c.self.view_is (inside_is (storages_of g.B.Blob.bytes c.self.inside.storages.items) c.args.parent c.self.invariant lt)
