use Rattle.std.proofs.Common.{ℕ}
use Rattle.std.proofs.lemmas.Result.{err_from_is_err_and}
use Rattle.prop_values.specs.Kinds.{kind_number}
use Rattle.carrier_model.specs.Grammar.{and_then, gives}
use Rattle.carrier_model.specs.Values as plain
use Rattle.tnef_model.specs.TnefLists.{one, value, text}
use Rattle.tnef_props.proofs.Forms.{same_takes, same_refuses, then_takes, then_first, then_next, seen_takes}
use Rattle.tnef_props.proofs.ValueForms.{value_bytes, text_valid}
use Rattle.tnef_props.proofs.values.bytes_value.Goals as goal

pub returns-in_err-rest-clause-fault : goal.returns-in_err-rest-clause-fault
returns-in_err-rest-clause-fault c =
    let p = err_from_is_err_and c.from_residual.result c.from_residual.ensures.1 in
    let kind = kind_number c.args.kind in
    rw (p.1, p.2) (same_refuses (value kind) _ c.args.from c.in_err-rest.field-0.0 (value_bytes kind c.requires.0 c.requires.1 c.requires.2)
    (then_first one (λ (n : ℕ). and_then (text kind) (λ x. gives (plain.bytes kind x))) c.args.from c.in_err-rest.field-0.0 c.in_err-rest.ensures.fault))

pub returns-in_err-bytes-clause-fault : goal.returns-in_err-bytes-clause-fault
returns-in_err-bytes-clause-fault c =
    let p = err_from_is_err_and c.from_residual-in_err-bytes.result c.from_residual-in_err-bytes.ensures.1 in
    let kind = kind_number c.args.kind in
    let s = c.in_err-bytes.field-0.0 in
    rw (p.1, p.2) (same_refuses (value kind) _ c.args.from s (value_bytes kind c.requires.0 c.requires.1 c.requires.2)
    (then_next one (λ (n : ℕ). and_then (text kind) (λ x. gives (plain.bytes kind x))) c.args.from c.in_ok-rest.rest 1 s c.in_ok-rest.ensures.found
    (then_first (text kind) (λ x. gives (plain.bytes kind x)) c.in_ok-rest.rest s c.in_err-bytes.ensures.fault)))

pub returns-clause-found : goal.returns-clause-found
returns-clause-found c =
    let kind = kind_number c.args.kind in
    same_takes (value kind) _ c.args.from c.in_ok-bytes.rest _ (value_bytes kind c.requires.0 c.requires.1 c.requires.2)
    (then_takes one (λ (n : ℕ). and_then (text kind) (λ x. gives (plain.bytes kind x))) c.args.from c.in_ok-rest.rest c.in_ok-bytes.rest 1 _ c.in_ok-rest.ensures.found
    (seen_takes (text kind) (plain.bytes kind) c.in_ok-rest.rest c.in_ok-bytes.rest c.in_ok-bytes.bytes.now c.in_ok-bytes.ensures.found))

pub returns-clause-valid : goal.returns-clause-valid
returns-clause-valid c = (text_valid (kind_number c.args.kind) c.in_ok-rest.rest c.in_ok-bytes.rest c.in_ok-bytes.bytes.now c.requires.2 c.in_ok-rest.rest.few c.in_ok-bytes.ensures.found).0
