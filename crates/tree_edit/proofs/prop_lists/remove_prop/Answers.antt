use Rattle.std.proofs.Common.{refl}
use Rattle.tree_edit.proofs.Found.{absent_none, found_any, found_removed}
use Rattle.tree_edit.proofs.prop_lists.remove_prop.Goals as goal

pub returns-in-Some-clause-there : goal.returns-in-Some-clause-there
returns-in-Some-clause-there g c =
    let (p, at, pair) = c.in-Some.ensures.found in
    λ e. rw (found_any _ _ c.args.props.now c.in-Some.at p at pair, c.remove.ensures.left, found_removed _ _ c.args.props.now c.in-Some.at p c.in-Some.ensures.sorted at pair) refl

pub returns-in-None-clause-absent : goal.returns-in-None-clause-absent
returns-in-None-clause-absent g c = λ e. rw (absent_none _ _ c.args.props.now c.in-None.ensures.absent) refl
