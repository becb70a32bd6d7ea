use Rattle.cfb_list.specs.Listed.{children_at}
use Rattle.cfb_list.specs.Trees.{inside}
use Rattle.cfb_writer.proofs.Numbered.{Numbering}
use Rattle.cfb_writer.proofs.placing.sibling_numbers.Given as goal

abbrev pub invariant-loop-place : goal.invariant-loop-place
invariant-loop-place g l = Numbering (inside l.list) l.first (children_at l.list l.parent) l.place l.number l.numbers.items
