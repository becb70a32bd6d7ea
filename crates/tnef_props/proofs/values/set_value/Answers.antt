use Rattle.std.proofs.lemmas.Result.{err_from_is_err_and}
use Rattle.carrier_model.specs.Values as plain
use Rattle.tnef_model.specs.TnefLists.{value, padded}
use Rattle.tnef_props.proofs.Forms.{view_takes, view_refuses}
use Rattle.tnef_props.proofs.ValueForms.{value_guid}
use Rattle.tnef_props.proofs.values.set_value.Goals as goal

pub returns-in_err-set-clause-fault : goal.returns-in_err-set-clause-fault
returns-in_err-set-clause-fault c =
    let p = err_from_is_err_and c.from_residual.result c.from_residual.ensures.1 in
    rw (p.1, p.2) (view_refuses (value (0x0048)) (padded 16) plain.guid c.args.from c.in_err-set.field-0.0 (value_guid) c.in_err-set.ensures.fault)

pub returns-clause-found : goal.returns-clause-found
returns-clause-found c = view_takes (value (0x0048)) (padded 16) plain.guid c.args.from c.in_ok-set.rest c.in_ok-set.set.0 (value_guid) c.in_ok-set.ensures.found
