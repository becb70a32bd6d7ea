use Rattle.std.proofs.Common.{◌∙◌, ℕ, List, ap, length, subst, sym, take}
use Rattle.std.specs.List.{AllByRecursion, flat_map}
use Rattle.cfb_list.specs.Contents.{file_children}
use Rattle.cfb_list.specs.Listed.{Child, IsChild, built}
use Rattle.cfb_list.specs.Trees.{inside}
use Rattle.cfb_writer.specs.Totals.{totals_of}
use Rattle.cfb_layout.specs.Versions.{sector_of}
use Rattle.cfb_writer.proofs.Rooms.{each_of, files_more, totals_more}
use Rattle.cfb_writer.proofs.totals.family_totals.Goals as goal

pub file_totals-requires : goal.file_totals-requires
file_totals-requires g c =
    let of = g.B.Blob.bytes in
    let parent = c.args.parent in
    let children = IsChild parent (length c.args.list.now.storages) in
    let sound = subst (AllByRecursion children) (sym c.files_in-file-items.ensures.seen) c.files_in-file-items.ensures.sound in
    let here = each_of children (file_children of) c.files_in-file-items.result.now c.loop-file.file-index c.file-item.result c.loop-file-test.true c.file-item.is sound in
    (parent, subst (λ (n : ℕ). AllByRecursion (IsChild parent n) (file_children of c.file-item.result)) (sym c.requires.many) here)

pub loop-file-preserved : goal.loop-file-preserved
loop-file-preserved g c =
    let of = g.B.Blob.bytes in
    let z = sector_of c.args.version in
    let tree = inside c.args.list.now.storages in
    let files = c.files_in-file-items.result.now in
    let file = c.file-item.result in
    let k = c.loop-file.file-index in
    let parent = c.args.parent in
    let children = IsChild parent (length c.args.list.now.storages) in
    let sound = subst (AllByRecursion children) (sym c.files_in-file-items.ensures.seen) c.files_in-file-items.ensures.sound in
    let here = each_of children (file_children of) files k file c.loop-file-test.true c.file-item.is sound in
    let one = c.file_totals.ensures parent tree (subst (λ (n : ℕ). AllByRecursion (IsChild parent n) (file_children of file)) (sym c.requires.many) here) c.requires.known in
    totals_more z tree (flat_map (file_children of) (take k files)) (file_children of file) c.loop-file.sum c.file_totals.result c.and-sum.result c.loop-file.invariant one c.and-sum.ensures.entries c.and-sum.ensures.mini c.and-sum.ensures.long
    ∙ ap (λ (cs : List Child). totals_of z (built tree cs)) (sym (files_more (file_children of) files k file c.loop-file-test.true c.file-item.is))
