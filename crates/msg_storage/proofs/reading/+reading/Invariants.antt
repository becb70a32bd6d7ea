use Rattle.std.proofs.Common.{◌+◌, ◌*◌, map}
use Rattle.cfb_directory.specs.Found.{storage_seen}
use Rattle.cfb_sectors.specs.Seen.{bytes_of}
use Rattle.msg_model.specs.MsgMessage.{attachment_in}
use Rattle.msg_storage.specs.Levels.{inner_at}
use Rattle.msg_storage.proofs.Turned.{Progress}
use Rattle.msg_tree.specs.Meaning.{list_of}
use Rattle.msg_storage.proofs.reading.+reading.Given as goal

abbrev pub decreases-read_message : goal.decreases-read_message
decreases-read_message l = 6 * l.levels + 5

abbrev pub decreases-read_attachments : goal.decreases-read_attachments
decreases-read_attachments l = 6 * l.levels + 4

abbrev pub decreases-read_attachment : goal.decreases-read_attachment
decreases-read_attachment l = 6 * l.levels + 3

abbrev pub decreases-read_held : goal.decreases-read_held
decreases-read_held l = 6 * l.levels + 2

abbrev pub decreases-read_body : goal.decreases-read_body
decreases-read_body l = 6 * l.levels + 1

abbrev pub decreases-read_inner : goal.decreases-read_inner
decreases-read_inner l = 6 * l.levels

abbrev pub invariant-read_attachments-loop-k : goal.invariant-read_attachments-loop-k
invariant-read_attachments-loop-k l = Progress (attachment_in l.names (inner_at l.levels l.names)) (λ a. a.attached) (λ a. a.passed) (map (λ n. storage_seen l.files n.storage) l.storages.items) l.k l.fn.passed l.passed (list_of bytes_of l.attachments)
