use Rattle.std.proofs.Common.{◌≡◌, rules}
use Rattle.carrier_model.specs.Keys.{name_cmp}
use Rattle.carrier_model.proofs.OrderLaws.{name_equal}
use Rattle.prop_names.specs.Meaning.{name_of}
use Rattle.prop_names.proofs.names.Name.order.Goals as goal

pub returns-clause-equal : goal.returns-clause-equal
returns-clause-equal c =
    let ordered : c.then_with.result ≡ name_cmp (name_of c.args.self.now) (name_of c.args.other.now) = search rules in
    name_equal c.then_with.result (name_of c.args.self.now) (name_of c.args.other.now) ordered
