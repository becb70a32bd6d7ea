use Rattle.std.proofs.Common.{◌≡◌, ◌≤◌, ◌+◌, ◌*◌, ◌++◌, map, length}
use Rattle.json_model.specs.StoreForms.{front_below, behind_below}
use Rattle.msg_tree.specs.Gathering.{gathered}
use Rattle.tree_from_json.specs.Entries.{placed_of, members_at}
use Rattle.tree_from_json.proofs.read_stores.+building.Given as goal

abbrev pub decreases-take_members : goal.decreases-take_members
decreases-take_members l = 2 * length l.entries.now.items

abbrev pub decreases-push_member : goal.decreases-push_member
decreases-push_member l = 2 * length l.entries.now.items + 1

abbrev pub invariant-take_members-loop-entry : goal.invariant-take_members-loop-entry
invariant-take_members-loop-entry l = record {
  made : gathered (λ b. b.items) l.members ++ members_at l.level (front_below l.level (map placed_of l.entries.items)) ≡ members_at l.level (front_below l.level (map placed_of l.fn.entries.items));
  left : behind_below l.level (map placed_of l.entries.items) ≡ behind_below l.level (map placed_of l.fn.entries.items);
  few : length l.entries.items ≤ length l.fn.entries.items;
}

abbrev pub decreases-take_members-loop-entry : goal.decreases-take_members-loop-entry
decreases-take_members-loop-entry l = length l.entries.items
