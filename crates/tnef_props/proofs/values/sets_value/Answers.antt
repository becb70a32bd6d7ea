use Rattle.std.proofs.lemmas.Result.{err_from_is_err_and}
use Rattle.carrier_model.specs.Values as plain
use Rattle.tnef_model.specs.TnefLists.{value, padded, many}
use Rattle.tnef_props.proofs.Forms.{view_takes, view_refuses}
use Rattle.tnef_props.proofs.ValueForms.{value_guids}
use Rattle.tnef_props.proofs.values.sets_value.Goals as goal

pub returns-in_err-list-clause-fault : goal.returns-in_err-list-clause-fault
returns-in_err-list-clause-fault c =
    let p = err_from_is_err_and c.from_residual.result c.from_residual.ensures.1 in
    rw (p.1, p.2) (view_refuses (value (0x1048)) (many (padded 16)) plain.guids c.args.from c.in_err-list.field-0.0 (value_guids) c.in_err-list.ensures.fault)

pub returns-clause-found : goal.returns-clause-found
returns-clause-found c = view_takes (value (0x1048)) (many (padded 16)) plain.guids c.args.from c.in_ok-list.rest c.in_ok-list.list (value_guids) c.in_ok-list.ensures.found
