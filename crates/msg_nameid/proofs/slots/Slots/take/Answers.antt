use Rattle.std.proofs.Common.{◌≡◌, ◌∙◌, ℕ, ◌+◌, false, List, ap, arith, length}
use Rattle.std.proofs.Math.ListN.{set}
use Rattle.msg_nameid.specs.Tables.{count_taken, is_taken, slot_at}
use Rattle.msg_nameid.specs.declared.slots.Slot.{Slot}
use Rattle.msg_nameid.proofs.TableLaws.{count_taken-set}
use Rattle.msg_nameid.proofs.slots.Slots.take.Goals as goal

pub returns-clause-count : goal.returns-clause-count
returns-clause-count c =
    let slots = c.self.inside.list.items in
    let at = c.args.index in
    let free : is_taken (slot_at slots at) ≡ false = ap (λ (l : List Slot). is_taken (slot_at l at)) c.self.view_is ∙ (ap is_taken (c.in_ok-reach.ensures.same at) ∙ ap is_taken c.requires.free) in
    ap (λ (n : ℕ). count_taken (set slots n c.args.slot)) c.from.ensures
    ∙ (count_taken-set slots at c.args.slot (omega (arith, c.in_ok-reach.ensures.there, ap (length {A = Slot}) c.self.view_is)) free c.requires.taken
    ∙ (ap (λ (l : List Slot). count_taken l + 1) c.self.view_is ∙ ap (λ (n : ℕ). n + 1) c.in_ok-reach.ensures.count))
