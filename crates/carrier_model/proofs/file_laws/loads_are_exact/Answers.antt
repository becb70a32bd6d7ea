use Rattle.carrier_model.proofs.LoadedLaws.{load_ok, load_from}
use Rattle.carrier_model.proofs.file_laws.loads_are_exact.Goals as goal

pub returns-clause-sound : goal.returns-clause-sound
returns-clause-sound c = λ z b s is. load_ok z b s is

pub returns-clause-only : goal.returns-clause-only
returns-clause-only c = λ z b s h short is apart. load_from z b s h short is apart
