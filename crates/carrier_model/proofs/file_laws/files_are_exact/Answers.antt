use Rattle.carrier_model.specs.Tables.{sector_size}
use Rattle.carrier_model.proofs.HoldsLaws.{open_sound, one_file, no_fault, size_known, file_opened}
use Rattle.carrier_model.proofs.file_laws.files_are_exact.Goals as goal

pub returns-clause-sound : goal.returns-clause-sound
returns-clause-sound c = λ b f is. open_sound (sector_size b) b f is

pub returns-clause-only : goal.returns-clause-only
returns-clause-only c = λ b f short is. file_opened b f short is

pub returns-clause-one : goal.returns-clause-one
returns-clause-one c = λ b f g short x y. one_file (sector_size b) b f g (size_known b) short x y

pub returns-clause-none : goal.returns-clause-none
returns-clause-none c = λ b f g short e x. no_fault (sector_size b) b f g (size_known b) short e x
