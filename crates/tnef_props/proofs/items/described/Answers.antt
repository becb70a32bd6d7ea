use Rattle.std.proofs.Common.{◌≡◌, ◌/◌, ◌%◌, ℕ, true}
use Rattle.std.proofs.Common.{subst}
use Rattle.std.specs.Prelude.{nat_eq}
use Rattle.std.proofs.lemmas.Result.{IfOk-weaker}
use Rattle.carrier_model.specs.Grammar.{and_then, gives}
use Rattle.carrier_model.specs.Keys.{Key}
use Rattle.tnef_model.specs.TnefLists.{described, key, object, property, kept}
use Rattle.prop_names.specs.Meaning.{key_of}
use Rattle.tnef_props.specs.Meaning.{item_of}
use Rattle.tnef_props.specs.Steps.{Takes}
use Rattle.tnef_props.proofs.Forms.{then_takes, seen_takes, left_takes, right_takes}
use Rattle.tnef_props.proofs.items.described.Goals as goal

pub returns-in_ok-prop-in-Some-clause-found : goal.returns-in_ok-prop-in-Some-clause-found
unfolding described
returns-in_ok-prop-in-Some-clause-found c =
    let n = c.args.tag / 0x10000 in
    let kind = c.args.tag % 0x10000 in
    let q = rw c.in-Some.is at c.requires in
    let x = c.in_ok-prop-in-Some in
    right_takes (nat_eq kind 0x000D) (and_then (key n) (λ k. object c.args.in_attachment c.args.offset c.args.tag)) (and_then (property n kind) (λ p. gives (kept p))) c.args.from x.rest _ q.0
    (seen_takes (property n kind) kept c.args.from x.rest x.prop (subst (λ (m : ℕ). Takes (property n m) c.args.from x.prop x.rest) q.1 x.ensures.found))

pub returns-in_ok-rest-in-None-clause-found : goal.returns-in_ok-rest-in-None-clause-found
unfolding described
returns-in_ok-rest-in-None-clause-found c =
    let n = c.args.tag / 0x10000 in
    let kind = c.args.tag % 0x10000 in
    let is_object : nat_eq kind 0x000D ≡ true = rw c.in-None.is at c.requires in
    let x = c.in_ok-rest-in-None in
    IfOk-weaker c.object.result _ _ (λ y p. left_takes (nat_eq kind 0x000D) (and_then (key n) (λ k. object c.args.in_attachment c.args.offset c.args.tag)) (and_then (property n kind) (λ p. gives (kept p))) c.args.from y.1 (item_of y.0) is_object
    (then_takes (key n) (λ (k : Key). object c.args.in_attachment c.args.offset c.args.tag) c.args.from x.rest y.1 (key_of x.field-0-0) (item_of y.0) x.ensures.found p)) c.object.ensures.found
