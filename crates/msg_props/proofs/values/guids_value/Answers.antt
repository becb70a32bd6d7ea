use Rattle.cfb_sectors.specs.Seen.{bytes_of}
use Rattle.msg_props.proofs.PieceForms.{view_small}
use Rattle.msg_props.proofs.ValueForms.{guids_valid}
use Rattle.msg_props.proofs.values.guids_value.Goals as goal

pub returns-clause-valid : goal.returns-clause-valid
returns-clause-valid c = guids_valid c.in_ok-guids_in.field-0 (bytes_of c.args.view.now) c.in_ok-guids_in.ensures.fit c.in_ok-guids_in.ensures.list (view_small c.args.view.now)
