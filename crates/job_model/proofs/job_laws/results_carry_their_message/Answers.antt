use Rattle.job_model.proofs.Results.{to_msg_carries, to_msg4_carries, to_tnef_carries}
use Rattle.job_model.proofs.job_laws.results_carry_their_message.Goals as goal

pub returns-clause-to_msg : goal.returns-clause-to_msg
returns-clause-to_msg c = to_msg_carries

pub returns-clause-to_msg4 : goal.returns-clause-to_msg4
returns-clause-to_msg4 c = to_msg4_carries

pub returns-clause-to_tnef : goal.returns-clause-to_tnef
returns-clause-to_tnef c = to_tnef_carries
