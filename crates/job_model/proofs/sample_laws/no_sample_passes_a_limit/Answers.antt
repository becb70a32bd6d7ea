use Rattle.std.proofs.Common.{refl}
use Rattle.job_model.proofs.SampleLimits.{file_passes, stream_passes, envelope_passes}
use Rattle.job_model.proofs.sample_laws.no_sample_passes_a_limit.Goals as goal

pub returns-clause-file : goal.returns-clause-file
returns-clause-file c = λ z n size few. file_passes z size n few

pub returns-clause-to_msg : goal.returns-clause-to_msg
returns-clause-to_msg c = λ n b few. file_passes 512 refl n few

pub returns-clause-to_msg4 : goal.returns-clause-to_msg4
returns-clause-to_msg4 c = λ n b few. file_passes 4096 refl n few

pub returns-clause-to_tnef : goal.returns-clause-to_tnef
returns-clause-to_tnef c = stream_passes

pub returns-clause-wrap : goal.returns-clause-wrap
returns-clause-wrap c = envelope_passes
