use Rattle.std.proofs.Common.{refl}
use Rattle.job_model.proofs.WithinLimits.{within}
use Rattle.msg_model.proofs.WrittenTop.{canonical_carries}
use Rattle.msg_model.proofs.WrittenFile.{found}
use Rattle.job_model.proofs.job_laws.files_within_the_limits_carry_their_message.Goals as goal

pub returns-clause-version3 : goal.returns-clause-version3
returns-clause-version3 c = λ t b tree none. let w = within 512 t none in canonical_carries 512 t tree w.0 w.1 (found 512 t refl tree w.0 w.1 w.2)

pub returns-clause-version4 : goal.returns-clause-version4
returns-clause-version4 c = λ t b tree none. let w = within 4096 t none in canonical_carries 4096 t tree w.0 w.1 (found 4096 t refl tree w.0 w.1 w.2)
