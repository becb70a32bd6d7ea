use Rattle.std.proofs.Common.{◌≡◌, ◌∷◌, ◌++◌, ap, subst, ◌∙◌, []}
use Rattle.std.specs.Option.{option_to_list}
use Rattle.carrier_model.specs.Sorted.{IsStrictlySorted}
use Rattle.carrier_model.specs.Values.{prop_cmp}
use Rattle.carrier_model.proofs.SortedLists.{sorted_to}
use Rattle.tree_edit.specs.PropChanges.{first_put}
use Rattle.tree_edit.proofs.prop_changes.put_first.Goals as goal

pub push_last-requires : goal.push_last-requires
push_last-requires g c =
    let first : first_put c.args.changes.now.entries ≡ c.in-Some-change.prop ∷ [] = ap first_put c.in-Some.ensures.removal ∙ ap option_to_list c.in-Some-change.is in
    sorted_to prop_cmp c.args.list.now c.requires.0 c.in-Some-change.prop (subst (λ f. IsStrictlySorted prop_cmp (c.args.list.now ++ (f ++ c.requires.0))) first c.requires.1)
