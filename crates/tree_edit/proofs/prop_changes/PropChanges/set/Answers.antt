use Rattle.std.proofs.Common.{◌∙◌, ap, sym}
use Rattle.carrier_model.specs.Values.{Prop, kind_of}
use Rattle.edit_model.specs.Edits.{with_prop}
use Rattle.tree_edit.proofs.PropChanges.{set_more}
use Rattle.tree_edit.proofs.prop_changes.PropChanges.set.Goals as goal

pub invariant_of-self-2 : goal.invariant_of-self-2
invariant_of-self-2 g c =
    let keyed = c.in_ok-copy.ensures ∙ ap (λ (p : Prop). p.key) c.prop.view_is in
    let kinded = c.kind.ensures ∙ ap (λ (p : Prop). kind_of p.value) c.prop.view_is in
    (c.self.invariant.0, (set_more c.self.inside.changes.entries c.insert.new.self.entries c.self.inside.list c.args.prop _ _ c.self.invariant.1 c.self.invariant.0 keyed kinded c.in_ok-insert.ensures.entries).0)

pub returns : goal.returns
returns g c =
    let keyed = c.in_ok-copy.ensures ∙ ap (λ (p : Prop). p.key) c.prop.view_is in
    let kinded = c.kind.ensures ∙ ap (λ (p : Prop). kind_of p.value) c.prop.view_is in
    let made = (set_more c.self.inside.changes.entries c.insert.new.self.entries c.self.inside.list c.args.prop _ _ c.self.invariant.1 c.self.invariant.0 keyed kinded c.in_ok-insert.ensures.entries).1 in
    ap (with_prop c.args.prop) (sym c.self.view_is) ∙ made
