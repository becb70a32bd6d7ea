use Rattle.std.proofs.Common.{◌∙◌, sym, ap}
use Rattle.carrier_model.specs.Tree.{Message}
use Rattle.json_model.proofs.CompleteMessages.{one_tree_of_text}
use Rattle.json_model.specs.MessageForms.{json_text}
use Rattle.msg_model.specs.WrittenMsg.{msg_of}
use Rattle.job_model.proofs.job_laws.json_texts_give_the_file.Goals as goal

pub returns : goal.returns
returns c = λ b w v t u means other written file. written ∙ (ap (λ (k : Message). msg_of k) (one_tree_of_text (json_text t) t u means other) ∙ sym file)
