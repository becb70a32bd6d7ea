use Rattle.job_model.proofs.job_laws.jobs_are_exact.Goals as goal
use Rattle.job_model.proofs.Acceptance.{to_msg_exact, to_msg4_exact, to_tnef_exact, wrap_exact}

pub returns-clause-to_msg : goal.returns-clause-to_msg
returns-clause-to_msg c = to_msg_exact

pub returns-clause-to_msg4 : goal.returns-clause-to_msg4
returns-clause-to_msg4 c = to_msg4_exact

pub returns-clause-to_tnef : goal.returns-clause-to_tnef
returns-clause-to_tnef c = to_tnef_exact

pub returns-clause-wrap : goal.returns-clause-wrap
returns-clause-wrap c = wrap_exact
