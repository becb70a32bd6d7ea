use Rattle.carrier_model.specs.Layout.{layout}
use Rattle.carrier_model.proofs.HoldsLaws.{file_opened}
use Rattle.carrier_model.proofs.LaidSorted.{layouts-found}
use Rattle.carrier_model.proofs.Sizes.{size_of}
use Rattle.carrier_model.proofs.file_laws.layouts_are_found.Goals as goal

pub returns-clause-found : goal.returns-clause-found
returns-clause-found c = λ z class files size whole may short. layouts-found z (size_of z size) class files whole may short

pub returns-clause-opened : goal.returns-clause-opened
returns-clause-opened c = λ z class files size whole may short. let h = layouts-found z (size_of z size) class files whole may short in (h.found, file_opened (layout z class files) h.found short h.holds, h.root, h.same)
