use Rattle.std.proofs.Common.{sym, subst}
use Rattle.carrier_model.specs.Values.{IsBytes}
use Rattle.cfb_sectors.specs.Seen.{bytes_of}
use Rattle.prop_values.specs.Kinds.{kind_number}
use Rattle.msg_props.proofs.PieceForms.{view_small}
use Rattle.msg_props.proofs.ValueForms.{bytes_valid}
use Rattle.msg_props.proofs.values.bytes_value.Goals as goal

pub returns-clause-valid : goal.returns-clause-valid
returns-clause-valid c =
    subst (IsBytes (kind_number c.args.kind)) (sym c.in_ok-copy.ensures.bytes)
    (bytes_valid (kind_number c.args.kind) (bytes_of c.args.view.now) c.requires.shape.2 c.requires.fits (view_small c.args.view.now))
