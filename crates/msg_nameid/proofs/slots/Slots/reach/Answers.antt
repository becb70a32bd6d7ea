use Rattle.std.proofs.Common.{◌+◌, ◌-◌, ◌∙◌, ap, ◌++◌, take_all, List, arith}
use Rattle.std.specs.Prelude.{replicate, vec_len}
use Rattle.msg_nameid.specs.Tables.{count_taken}
use Rattle.msg_nameid.specs.declared.slots.Slot.{Slot}
use Rattle.msg_nameid.specs.declared.slots.Slot.TheVariants.{Free}
use Rattle.msg_nameid.proofs.TableLaws.{count_taken-longer}
use Rattle.msg_nameid.proofs.slots.Slots.reach.Goals as goal

pub returns-in_ok-resize-clause-count : goal.returns-in_ok-resize-clause-count
returns-in_ok-resize-clause-count c =
    let count = c.from-count.result + 1 in
    let more = count - vec_len c.self.inside.list in
    ap count_taken c.in_ok-resize.ensures.items
    ∙ (ap (λ (l : List Slot). count_taken (l ++ replicate more Free)) (take_all count c.self.inside.list.items (omega arith))
    ∙ (count_taken-longer c.self.inside.list.items more ∙ ap count_taken c.self.view_is))
