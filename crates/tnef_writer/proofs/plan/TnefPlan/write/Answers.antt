use Rattle.std.proofs.Common.{List, sym, subst}
use Rattle.std.specs.Prelude.{Contains}
use Rattle.carrier_model.specs.Keys.{Name}
use Rattle.carrier_model.specs.Tree.{Message, names_in}
use Rattle.msg_tree.specs.Whole.{plain_of}
use Rattle.tnef_writer.proofs.NamesOfTree.{includes_own}
use Rattle.tnef_writer.proofs.plan.TnefPlan.write.Goals as goal

pub append_message-requires-clause-known : goal.append_message-requires-clause-known
append_message-requires-clause-known g c = λ x h.
    let tree = plain_of c.args.self.now.tree.now in
    subst (λ (names : List Name). Contains names x) (sym c.args.self.now.planned.names_are)
    (includes_own tree x (subst (λ (t : Message). Contains (names_in t) x) c.top.ensures.message h))
