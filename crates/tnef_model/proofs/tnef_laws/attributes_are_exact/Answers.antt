use Rattle.tnef_model.proofs.Stream.{attrs_exact}
use Rattle.tnef_model.proofs.tnef_laws.attributes_are_exact.Goals as goal

pub returns : goal.returns
returns c = attrs_exact
