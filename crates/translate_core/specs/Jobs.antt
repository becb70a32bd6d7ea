-- Jobs as the definitions have them.
use Rattle.job_model.specs.Commands as plain
use Rattle.cfb_layout.specs.declared.version.Version.{Version}
use Rattle.cfb_layout.specs.declared.version.Version.TheVariants.{Three, Four}
use Rattle.translate_core.specs.declared.jobs.Job.{Job}
use Rattle.translate_core.specs.declared.jobs.Job.TheVariants.{ToMsg, ToMsg4, ToTnef, Wrap, Unwrap}

abbrev pub job_seen : Job → plain.Job
job_seen ToMsg = plain.to_msg
job_seen ToMsg4 = plain.to_msg4
job_seen ToTnef = plain.to_tnef
job_seen Wrap = plain.wrap
job_seen Unwrap = plain.unwrap

-- the job that writes a .msg file of this version
abbrev pub file_job : Version → plain.Job
file_job Three = plain.to_msg
file_job Four = plain.to_msg4

-- it writes the message in a form of its own, not bytes that were there
abbrev pub MakesAnew : plain.Job → Type 0
MakesAnew plain.to_msg = Unit {0}
MakesAnew plain.to_msg4 = Unit {0}
MakesAnew plain.to_tnef = Unit {0}
MakesAnew plain.wrap = ⊥
MakesAnew plain.unwrap = ⊥
