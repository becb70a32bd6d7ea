use Rattle.std.proofs.Common.{take}
use Rattle.msg_model.specs.WrittenMsg.{recipient_files}
use Rattle.msg_nameid.specs.Maps.{names_in}
use Rattle.msg_storage.specs.Written.{Adds}
use Rattle.msg_storage.proofs.writing.add_recipients.Given as goal

abbrev pub invariant-loop-k : goal.invariant-loop-k
invariant-loop-k g l = Adds l.initial.files l.files l.at (recipient_files (names_in l.names) 0 (take l.k l.recipients))
