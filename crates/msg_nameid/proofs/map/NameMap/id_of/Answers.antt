use Rattle.std.proofs.Common.{◌∙◌, ap, subst, List, map}
use Rattle.msg_model.specs.NameMap.{Pair}
use Rattle.prop_names.specs.Meaning.{name_of}
use Rattle.msg_nameid.specs.Maps.{IsLeastId, pair_of}
use Rattle.msg_nameid.proofs.AssignedLaws.{assigned_id}
use Rattle.msg_nameid.proofs.map.NameMap.id_of.Goals as goal

pub returns-then-self-clause-assigned : goal.returns-then-self-clause-assigned
returns-then-self-clause-assigned c =
    let name = name_of c.args.name.now in
    λ assigned there. assigned_id c.args.self.now name c.least_id_near.result assigned there
    (subst (λ (l : List Pair). IsLeastId l name c.least_id_near.result) (ap (map pair_of) c.deref.ensures.value ∙ c.self.view_is) c.least_id_near.ensures)

pub returns-else-self-clause-assigned : goal.returns-else-self-clause-assigned
returns-else-self-clause-assigned c =
    let name = name_of c.args.name.now in
    λ assigned there. assigned_id c.args.self.now name c.least_id.result assigned there
    (subst (λ (l : List Pair). IsLeastId l name c.least_id.result) (ap (map pair_of) c.deref-else-self.ensures.value ∙ c.self.view_is) c.least_id.ensures)
