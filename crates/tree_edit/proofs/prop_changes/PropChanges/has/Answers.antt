use Rattle.std.proofs.Common.{◌∙◌, Bool, List, ap, sym}
use Rattle.std.specs.List.{list_any}
use Rattle.carrier_model.specs.Values.{Prop, kind_of}
use Rattle.edit_model.specs.Edits.{has_pair}
use Rattle.prop_names.specs.Meaning.{key_of}
use Rattle.prop_values.specs.Kinds.{kind_number}
use Rattle.tree_edit.proofs.Found.{told}
use Rattle.tree_edit.proofs.PropChanges.{found, said}
use Rattle.tree_edit.proofs.prop_changes.PropChanges.has.Goals as goal

abbrev any : List Prop → Prop → Bool
any l q = list_any (has_pair q.key (kind_of q.value)) l

pub returns-in-Some : goal.returns-in-Some
returns-in-Some g c =
    let q = c.args.pair.now in
    let l = c.self.inside.list in
    c.is_some.ensures ∙ (ap (λ r. said r (any l q)) c.in-Some.ensures.value ∙ (sym (found c.self.inside.changes.entries l q c.self.invariant.1 c.self.invariant.0) ∙ ap (λ l. any l q) c.self.view_is))

pub returns-in-None : goal.returns-in-None
returns-in-None g c =
    let q = c.args.pair.now in
    let l = c.self.inside.list in
    c.is_some-in-None.ensures
    ∙ (told c.find.result (key_of c.pair.inside.key) (kind_number c.pair.inside.kind) l c.find.ensures.found c.find.ensures.absent
    ∙ (ap (any l) c.pair.view_is
    ∙ (ap (λ r. said r (any l q)) c.in-None.ensures.value ∙ (sym (found c.self.inside.changes.entries l q c.self.invariant.1 c.self.invariant.0) ∙ ap (λ l. any l q) c.self.view_is))))
