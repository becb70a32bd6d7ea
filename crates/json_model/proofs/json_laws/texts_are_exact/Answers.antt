use Rattle.json_model.proofs.CompleteMessages.{one_tree_of_text, one_fault_of_text, no_fault_of_text}
use Rattle.json_model.proofs.SoundMessages.{text_means_or_fails}
use Rattle.json_model.proofs.json_laws.texts_are_exact.Goals as goal

pub returns-clause-one : goal.returns-clause-one
returns-clause-one c = one_tree_of_text

pub returns-clause-single : goal.returns-clause-single
returns-clause-single c = one_fault_of_text

pub returns-clause-apart : goal.returns-clause-apart
returns-clause-apart c = no_fault_of_text

pub returns-clause-either : goal.returns-clause-either
returns-clause-either c = text_means_or_fails
