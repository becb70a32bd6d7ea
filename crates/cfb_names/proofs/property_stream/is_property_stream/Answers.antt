use Rattle.carrier_model.specs.Stores.{PROPERTIES}
use Rattle.cfb_names.proofs.SiblingNames.{same_from, other_from}
use Rattle.cfb_names.proofs.property_stream.is_property_stream.Goals as goal

pub returns-in-Equal : goal.returns-in-Equal
returns-in-Equal c = same_from c.args.name.now PROPERTIES c.in-Equal.ensures

pub returns-in_default : goal.returns-in_default
returns-in_default c = other_from c.args.name.now PROPERTIES c.sibling_order.result (λ e. c.in_default.not-Equal e) c.sibling_order.ensures
