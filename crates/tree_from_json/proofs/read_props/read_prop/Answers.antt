use Rattle.std.proofs.Common.{◌∙◌, ap, sym, ℕ, Vec, Global}
use Rattle.std.specs.Prelude.{Err}
use Rattle.std.proofs.lemmas.Result.{err_from_is_err_and}
use Rattle.json_values.specs.View.{view}
use Rattle.prop_names.specs.Meaning.{key_of}
use Rattle.prop_values.specs.Kinds.{kind_number}
use Rattle.prop_values.specs.Meaning.{value_of}
use Rattle.tree_from_json.proofs.InOrder.{prop_fits}
use Rattle.tree_from_json.proofs.Props.{IsBegun, prop_ok, prop_err}
use Rattle.tree_from_json.proofs.Reading.{under_ok, under_err}
use Rattle.tree_from_json.proofs.read_props.read_prop.Goals as goal

pub returns-in_err-value : goal.returns-in_err-value
returns-in_err-value c =
    let p = err_from_is_err_and c.from_residual-in_err-value.result c.from_residual-in_err-value.ensures.1 in
    let begun : IsBegun (view c.args.value.now) (kind_number c.in_ok-kind.kind) (key_of c.in_ok-key.key) (view c.in_ok-member-3.field-0.now) = record {
      kind_at = view c.in_ok-member.field-0.now;
      key_at = view c.in_ok-member-2.field-0.now;
      members = sym c.if-not-has_members.ensures;
      kind_there = c.in_ok-member.ensures;
      kind = under_ok kind_number _ 1 _ _ c.read_kind.ensures c.in_ok-kind.ensures;
      key_there = c.in_ok-member-2.ensures;
      key_is = under_ok key_of _ 0 _ _ c.read_key.ensures c.in_ok-key.ensures;
      value_there = c.in_ok-member-3.ensures;
    } in
    prop_err (value_of (λ (b : Vec ℕ Global). b.items)) (λ prop. prop) (view c.args.value.now) _ _ _ c.in_err-value.field-0.0 _ begun (under_err (value_of (λ (b : Vec ℕ Global). b.items)) _ 2 _ _ c.read_value.ensures c.in_err-value.ensures) (p.1 ∙ ap Err p.2)

pub invariant_of-result : goal.invariant_of-result
invariant_of-result c =
    let begun : IsBegun (view c.args.value.now) (kind_number c.in_ok-kind.kind) (key_of c.in_ok-key.key) (view c.in_ok-member-3.field-0.now) = record {
      kind_at = view c.in_ok-member.field-0.now;
      key_at = view c.in_ok-member-2.field-0.now;
      members = sym c.if-not-has_members.ensures;
      kind_there = c.in_ok-member.ensures;
      kind = under_ok kind_number _ 1 _ _ c.read_kind.ensures c.in_ok-kind.ensures;
      key_there = c.in_ok-member-2.ensures;
      key_is = under_ok key_of _ 0 _ _ c.read_key.ensures c.in_ok-key.ensures;
      value_there = c.in_ok-member-3.ensures;
    } in
    prop_fits (view c.args.value.now) _ (prop_ok (view c.args.value.now) _ _ _ _ begun (under_ok (value_of (λ (b : Vec ℕ Global). b.items)) _ 2 _ _ c.read_value.ensures c.in_ok-value.ensures))

pub returns : goal.returns
returns c =
    let begun : IsBegun (view c.args.value.now) (kind_number c.in_ok-kind.kind) (key_of c.in_ok-key.key) (view c.in_ok-member-3.field-0.now) = record {
      kind_at = view c.in_ok-member.field-0.now;
      key_at = view c.in_ok-member-2.field-0.now;
      members = sym c.if-not-has_members.ensures;
      kind_there = c.in_ok-member.ensures;
      kind = under_ok kind_number _ 1 _ _ c.read_kind.ensures c.in_ok-kind.ensures;
      key_there = c.in_ok-member-2.ensures;
      key_is = under_ok key_of _ 0 _ _ c.read_key.ensures c.in_ok-key.ensures;
      value_there = c.in_ok-member-3.ensures;
    } in
    prop_ok (view c.args.value.now) _ _ _ _ begun (under_ok (value_of (λ (b : Vec ℕ Global). b.items)) _ 2 _ _ c.read_value.ensures c.in_ok-value.ensures)
