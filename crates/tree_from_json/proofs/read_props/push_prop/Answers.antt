use Rattle.std.proofs.Common.{◌∙◌}
use Rattle.tree_from_json.proofs.InOrder.{pushed, not_double}
use Rattle.tree_from_json.proofs.read_props.push_prop.Goals.{in-Ok, in-Err-NoMemory}
use Rattle.tree_from_json.proofs.read_props.push_prop.Goals as goal

pub unreachable-requires : goal.unreachable-requires
unreachable-requires c = not_double c.args.props.now c.args.prop c.requires.sorted c.requires.after (rw c.in-Err-Duplicate.field-0-is at c.in-Err-Duplicate.ensures.refused).1

pub returns-clause-pushed : goal.returns-clause-pushed
returns-clause-pushed c = elim c.match-insert_sorted.branch [ in-Ok w ↦ rw w.result-is (w.in-Ok.ensures.ok ∙ pushed c.args.props.now c.args.prop c.requires.sorted c.requires.after) | in-Err-NoMemory w ↦ rw w.result-is tt ]
