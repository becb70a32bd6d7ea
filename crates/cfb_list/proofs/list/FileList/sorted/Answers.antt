use Rattle.std.proofs.Common.{◌≡◌, List, Ok, Err, IfOk, map, ap, ◌∙◌}
use Rattle.carrier_model.specs.FileTrees.{sorted}
use Rattle.cfb_list.specs.Contents.{storages_of}
use Rattle.cfb_list.specs.Listed.{Child, Listed, tree_of}
use Rattle.cfb_list.specs.Sorting.{siblings_in_order}
use Rattle.cfb_list.proofs.BuiltTrees.{tree_sorted}
use Rattle.cfb_list.proofs.list.FileList.sorted.Goals as goal

pub returns-clause-tree : goal.returns-clause-tree
returns-clause-tree g c =
    let storages = storages_of g.B.Blob.bytes c.self.inside.storages.items in
    elim c.of_storages.result as (λ r. IfOk r (λ (l : List (List Child)). l ≡ map siblings_in_order storages) → IfOk r (λ (l : List (List Child)). tree_of l ≡ sorted (tree_of c.args.self.storages))) [
      | Ok l ↦ λ e. ap tree_of e ∙ tree_sorted storages ∙ ap (λ (l : Listed). sorted (tree_of l.storages)) c.self.view_is
      | Err e ↦ λ e. tt
    ] c.of_storages.ensures
