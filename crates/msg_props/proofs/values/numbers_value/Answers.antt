use Rattle.cfb_sectors.specs.Seen.{bytes_of}
use Rattle.msg_props.proofs.PieceForms.{view_small}
use Rattle.msg_props.proofs.ValueForms.{numbers_valid}
use Rattle.prop_values.specs.Kinds.{kind_number}
use Rattle.msg_props.proofs.values.numbers_value.Goals as goal

pub returns-clause-valid : goal.returns-clause-valid
returns-clause-valid c = numbers_valid (kind_number c.args.kind) c.args.width c.in_ok-numbers_in.field-0 (bytes_of c.args.view.now) c.requires.4 c.requires.5 c.in_ok-numbers_in.ensures.fit c.in_ok-numbers_in.ensures.list (view_small c.args.view.now)
