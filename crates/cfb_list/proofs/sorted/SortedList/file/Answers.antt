use Rattle.std.proofs.Common.{◌≡◌, ◌<◌, ◌∙◌, List, [], arith, length, slice_get, ap, subst, sym}
use Rattle.std.proofs.lemmas.List.{get_or-map, length-map}
use Rattle.cfb_list.specs.Contents.{file_seen}
use Rattle.cfb_list.specs.Listed.{Child, IsChild, children_at}
use Rattle.cfb_list.specs.Places.{sorted_children, sorted_storages}
use Rattle.cfb_list.proofs.BuiltTrees.{children_of_sound}
use Rattle.cfb_list.proofs.Soundness.{each_seen}
use Rattle.cfb_list.proofs.sorted.SortedList.file.Goals as goal

pub returns-clause-sound : goal.returns-clause-sound
returns-clause-sound g c =
    let of = g.B.Blob.bytes in
    let items = c.self.inside.storages.items in
    let parent = c.args.parent in
    let lt : parent < length (sorted_storages of items) = subst (λ (ss : List (List Child)). parent < length ss) (sym c.self.view_is) c.requires.parent in
    let here : children_at (sorted_storages of items) parent ≡ sorted_children of c.index.result.now = get_or-map (sorted_children of) items parent c.index.result.now [] (omega (arith, lt, length-map items (sorted_children of))) ∙ ap (sorted_children of) (sym c.index.ensures) in
    let sound = children_of_sound (sorted_storages of items) parent c.self.invariant.0 lt in
    subst (λ (ss : List (List Child)). IsChild parent (length ss) (file_seen of c.file_in.result)) c.self.view_is
    (each_seen (IsChild parent (length (sorted_storages of items))) (children_at (sorted_storages of items) parent) c.args.place (file_seen of c.file_in.result) (ap (λ (cs : List Child). slice_get cs c.args.place) here ∙ c.file_in.ensures) sound)
