use Rattle.std.proofs.Common.{map}
use Rattle.cfb_directory.specs.Found.{storage_seen}
use Rattle.msg_model.specs.MsgMessage.{list_in}
use Rattle.msg_model.specs.MsgProps.{recipient}
use Rattle.msg_storage.proofs.Turned.{Progress}
use Rattle.msg_storage.proofs.reading.read_recipients.Given as goal

abbrev pub invariant-loop-k : goal.invariant-loop-k
invariant-loop-k l = Progress (list_in recipient l.names) (λ s. s.props) (λ s. s.passed) (map (λ n. storage_seen l.files n.storage) l.storages.items) l.k l.fn.passed l.passed l.recipients
