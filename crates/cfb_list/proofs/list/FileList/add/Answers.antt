use Rattle.std.proofs.Common.{◌≡◌, ◌<◌, List, Ok, Err, OnErr, length, sym, ap, subst, ◌∙◌}
use Rattle.std.specs.Prelude.{slice_set}
use Rattle.std.specs.List.{AllByRecursion}
use Rattle.cfb_list.specs.Contents.{file_children, storages_of}
use Rattle.cfb_list.specs.Listed.{Listed, Child, with_children, IsSound, IsChild}
use Rattle.cfb_list.proofs.Added.{file_added, file_refused, seen_with}
use Rattle.cfb_list.proofs.Soundness.{children_added}
use Rattle.cfb_list.proofs.list.FileList.add.Goals as goal

pub invariant_of-self : goal.invariant_of-self
invariant_of-self g c = subst IsSound (sym (file_refused g.B.Blob.bytes c.self.inside.storages.items c.args.parent c.index_mut.result.now (record { files = c.push_file.new.files }) c.index_mut.ensures.value c.in_err-push_file.ensures.err)) c.self.invariant

pub returns-in_err-push_file-clause-err : goal.returns-in_err-push_file-clause-err
returns-in_err-push_file-clause-err g c =
    elim c.from_residual.result as (λ r. OnErr r (◌≡◌ {A = Listed} (record { root_class = c.self.inside.root_class; storages = storages_of g.B.Blob.bytes (slice_set c.self.inside.storages.items c.args.parent (record { files = c.push_file.new.files })) }) c.args.self.now)) [
      | Ok u ↦ tt
      | Err e ↦ ap {B = Listed} (λ (ss : List (List Child)). record { root_class = c.self.inside.root_class; storages = ss }) (file_refused g.B.Blob.bytes c.self.inside.storages.items c.args.parent c.index_mut.result.now (record { files = c.push_file.new.files }) c.index_mut.ensures.value c.in_err-push_file.ensures.err) ∙ c.self.view_is
    ]

pub invariant_of-self-2 : goal.invariant_of-self-2
invariant_of-self-2 g c =
    let of = g.B.Blob.bytes in
    let items = c.self.inside.storages.items in
    let lt : c.args.parent < length (storages_of of items) = subst (λ (l : Listed). c.args.parent < length l.storages) (sym c.self.view_is) c.requires.parent in
    let ok : AllByRecursion (IsChild c.args.parent (length (storages_of of items))) (file_children of c.args.file) = subst (λ (l : Listed). AllByRecursion (IsChild c.args.parent (length l.storages)) (file_children of c.args.file)) (sym c.self.view_is) c.requires.children in
    subst IsSound (sym (file_added of items c.args.parent c.index_mut.result.now (record { files = c.push_file.new.files }) c.args.file lt c.index_mut.ensures.value c.in_ok-push_file.ensures.ok))
    (children_added (storages_of of items) c.args.parent (file_children of c.args.file) ok c.self.invariant)

pub returns-clause-ok : goal.returns-clause-ok
returns-clause-ok g c =
    let of = g.B.Blob.bytes in
    let items = c.self.inside.storages.items in
    let lt : c.args.parent < length (storages_of of items) = subst (λ (l : Listed). c.args.parent < length l.storages) (sym c.self.view_is) c.requires.parent in
    seen_with c.self.inside.root_class (storages_of of items) _ c.args.self.now (λ ss. with_children ss c.args.parent (file_children of c.args.file)) c.self.view_is
    (file_added of items c.args.parent c.index_mut.result.now (record { files = c.push_file.new.files }) c.args.file lt c.index_mut.ensures.value c.in_ok-push_file.ensures.ok)
