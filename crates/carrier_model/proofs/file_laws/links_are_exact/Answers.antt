use Rattle.std.proofs.Common.{arith}
use Rattle.carrier_model.proofs.VisitLaws.{visit-sound, visit-only, unseen-le}
use Rattle.carrier_model.specs.Links.{Directory}
use Rattle.carrier_model.proofs.file_laws.links_are_exact.Goals as goal

pub returns-clause-sound : goal.returns-clause-sound
returns-clause-sound c = λ (d : Directory) link seen t is. visit-sound _ d link seen t (omega (arith, unseen-le d.count seen)) is

pub returns-clause-only : goal.returns-clause-only
returns-clause-only c = λ (d : Directory) link seen t few linked new. visit-only _ d link seen t few (omega (arith, unseen-le d.count seen)) linked new
