use Rattle.std.proofs.lemmas.Result.{err_from_is_err_and}
use Rattle.prop_values.specs.Kinds.{kind_number}
use Rattle.carrier_model.specs.Values as plain
use Rattle.tnef_model.specs.TnefLists.{value, text, many}
use Rattle.tnef_props.proofs.Forms.{view_takes, view_refuses}
use Rattle.tnef_props.proofs.ValueForms.{value_parts}
use Rattle.tnef_props.proofs.values.parts_value.Goals as goal

pub returns-in_err-list-clause-fault : goal.returns-in_err-list-clause-fault
returns-in_err-list-clause-fault c =
    let p = err_from_is_err_and c.from_residual.result c.from_residual.ensures.1 in
    rw (p.1, p.2) (view_refuses (value (kind_number c.args.kind)) (many (text (kind_number c.args.single))) (plain.parts (kind_number c.args.kind)) c.args.from c.in_err-list.field-0.0 (value_parts (kind_number c.args.kind) (kind_number c.args.single) c.requires.0 c.requires.1 c.requires.2 c.requires.3 c.requires.4 c.requires.5) c.in_err-list.ensures.fault)

pub returns-clause-found : goal.returns-clause-found
returns-clause-found c = view_takes (value (kind_number c.args.kind)) (many (text (kind_number c.args.single))) (plain.parts (kind_number c.args.kind)) c.args.from c.in_ok-list.rest c.in_ok-list.list (value_parts (kind_number c.args.kind) (kind_number c.args.single) c.requires.0 c.requires.1 c.requires.2 c.requires.3 c.requires.4 c.requires.5) c.in_ok-list.ensures.found
