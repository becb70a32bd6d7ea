use Rattle.tnef_message.proofs.Joins.{more_elements}
use Rattle.tnef_message.proofs.sections.with_all.Goals as goal

pub loop-prop-preserved : goal.loop-prop-preserved
loop-prop-preserved c =
    let l = c.loop-prop in
    more_elements c.args.list l.list c.add.new.props l.yielded c.in-Some.prop l.invariant c.in_ok-add.ensures
