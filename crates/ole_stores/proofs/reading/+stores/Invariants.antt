use Rattle.std.proofs.Common.{◌≡◌, ◌+◌, ◌-◌, ◌*◌, length, take}
use Rattle.carrier_model.specs.Stores.{deep_place}
use Rattle.cfb_directory.specs.Found.{storage_seen, children_list}
use Rattle.cfb_sectors.specs.Seen.{bytes_of}
use Rattle.msg_tree.specs.Gathering.{gathered}
use Rattle.ole_stores.specs.Levels.{members_of}
use Rattle.ole_stores.proofs.Children.{behind}
use Rattle.ole_stores.proofs.reading.+stores.Given as goal

abbrev pub decreases-read_below : goal.decreases-read_below
decreases-read_below l = 4 * l.most

abbrev pub decreases-read_member : goal.decreases-read_member
decreases-read_member l = 4 * l.most + 1

abbrev pub decreases-read_members : goal.decreases-read_members
decreases-read_members l = 4 * l.most + 2

abbrev pub decreases-read_within : goal.decreases-read_within
decreases-read_within l = 4 * l.most + 3

abbrev pub invariant-read_members-loop-child : goal.invariant-read_members-loop-child
invariant-read_members-loop-child l = record {
  clear : deep_place l.most (storage_seen l.files l.at).children ≡ deep_place l.most (behind (length (gathered bytes_of l.members)) (storage_seen l.files l.at).children);
  items : gathered bytes_of l.members ≡ take (length (gathered bytes_of l.members)) (members_of (storage_seen l.files l.at).children);
}

abbrev pub decreases-read_members-loop-child : goal.decreases-read_members-loop-child
decreases-read_members-loop-child l = length (children_list (storage_seen l.files l.at).children) - length (gathered bytes_of l.members)
