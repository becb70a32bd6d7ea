use Rattle.std.proofs.Common.{◌∙◌, ap, sym}
use Rattle.std.specs.List.{list_any}
use Rattle.edit_model.specs.Edits.{has_pair, without_prop}
use Rattle.prop_names.specs.Meaning.{key_of}
use Rattle.prop_values.specs.Kinds.{kind_number}
use Rattle.tree_edit.specs.PropChanges.{with_changes}
use Rattle.tree_edit.proofs.PropChanges.{taken_more}
use Rattle.tree_edit.proofs.prop_changes.PropChanges.remove.Goals as goal

pub invariant_of-self-2 : goal.invariant_of-self-2
invariant_of-self-2 g c = (c.self.invariant.0, (taken_more c.self.inside.changes.entries c.insert.new.self.entries c.self.inside.list (key_of c.args.key.now) _ (kind_number c.args.kind) c.self.invariant.1 c.self.invariant.0 c.in_ok-copy.ensures c.in_ok-insert.ensures.entries).0)

pub returns-clause-there : goal.returns-clause-there
returns-clause-there g c told =
    let key = key_of c.args.key.now in
    let kind = kind_number c.args.kind in
    let made = taken_more c.self.inside.changes.entries c.insert.new.self.entries c.self.inside.list key _ kind c.self.invariant.1 c.self.invariant.0 c.in_ok-copy.ensures c.in_ok-insert.ensures.entries in
    let there = ap (λ k. list_any (has_pair k kind) (with_changes c.self.inside.changes.entries c.self.inside.list)) (sym c.in_ok-copy.ensures) ∙ (ap (list_any (has_pair (key_of c.in_ok-copy.field-0) kind)) c.self.view_is ∙ sym c.if-not-has.ensures) in
    ap (without_prop key kind) (sym c.self.view_is) ∙ made.1 there
