use Rattle.json_model.proofs.CompleteMessages.{meant_is_read, one_tree, no_fault}
use Rattle.json_model.proofs.SoundMessages.{means_or_fails, read_is_meant}
use Rattle.json_model.proofs.json_laws.values_are_exact.Goals as goal

pub returns-clause-read : goal.returns-clause-read
returns-clause-read c = meant_is_read

pub returns-clause-one : goal.returns-clause-one
returns-clause-one c = one_tree

pub returns-clause-apart : goal.returns-clause-apart
returns-clause-apart c = no_fault

pub returns-clause-either : goal.returns-clause-either
returns-clause-either c = means_or_fails

pub returns-clause-meant : goal.returns-clause-meant
returns-clause-meant c = read_is_meant
