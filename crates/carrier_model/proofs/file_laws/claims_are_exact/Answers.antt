use Rattle.carrier_model.specs.Loads.{Loaded}
use Rattle.carrier_model.proofs.ClaimedLaws.{claim_ok, claim_from}
use Rattle.carrier_model.proofs.HoldsLaws.{loaded_few}
use Rattle.carrier_model.proofs.file_laws.claims_are_exact.Goals as goal

pub returns-clause-sound : goal.returns-clause-sound
returns-clause-sound c = λ z b s e o long short l is. let p = claim_ok z b s e o long short l is in (p.stream, p.long_fresh, p.short_fresh)

pub returns-clause-only : goal.returns-clause-only
returns-clause-only c = λ z b (s : Loaded) e o long short l h few loaded is lf sf. let n = loaded_few z b s h few loaded in claim_from z b s e o long short l n.0 n.1 is lf sf
