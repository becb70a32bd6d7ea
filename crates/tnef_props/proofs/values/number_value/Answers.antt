use Rattle.std.proofs.Common.{ℕ, List, sym, subst}
use Rattle.std.proofs.lemmas.Result.{err_from_is_err_and}
use Rattle.prop_values.specs.Kinds.{kind_number}
use Rattle.carrier_model.specs.Values as plain
use Rattle.tnef_model.specs.TnefLists.{value, padded}
use Rattle.carrier_model.specs.Kinds.{bits_of}
use Rattle.tnef_props.specs.Steps.{Takes}
use Rattle.tnef_props.proofs.Forms.{view_takes, view_refuses}
use Rattle.tnef_props.proofs.ValueForms.{value_number}
use Rattle.tnef_props.proofs.values.number_value.Goals as goal

pub returns-in_err-bytes-clause-fault : goal.returns-in_err-bytes-clause-fault
returns-in_err-bytes-clause-fault c =
    let p = err_from_is_err_and c.from_residual.result c.from_residual.ensures.1 in
    let kind = kind_number c.args.kind in
    rw (p.1, p.2) (view_refuses (value kind) (padded c.args.width) (λ (x : List ℕ). plain.number kind (bits_of kind x)) c.args.from c.in_err-bytes.field-0.0 (value_number kind c.args.width c.requires.0 c.requires.1) c.in_err-bytes.ensures.fault)

pub returns-clause-found : goal.returns-clause-found
returns-clause-found c =
    let kind = kind_number c.args.kind in
    subst (λ (n : ℕ). Takes (value kind) c.args.from (plain.number kind n) c.in_ok-bytes.rest) (sym c.bits_in-bits.ensures.bits)
    (view_takes (value kind) (padded c.args.width) (λ (x : List ℕ). plain.number kind (bits_of kind x)) c.args.from c.in_ok-bytes.rest c.in_ok-bytes.bytes.now (value_number kind c.args.width c.requires.0 c.requires.1) c.in_ok-bytes.ensures.found)
