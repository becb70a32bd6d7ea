use Rattle.std.proofs.Common.{◌≡◌, ℕ, ◌+◌, ◌*◌, ◌<◌, ◌++◌, List, length, reverse, vec_len}
use Rattle.std.specs.Prelude.{All}
use Rattle.carrier_model.specs.Marks.{Marks, unmarked}
use Rattle.cfb_directory.specs.Walks.{directory_of, walk_of, pend, with_front, IsInside, IsSafe}
use Rattle.cfb_directory.proofs.walk.walk_directory.Given as goal

abbrev pub invariant-loop-next : goal.invariant-loop-next
invariant-loop-next l = record {
  marks_length : length l.marks ≡ (directory_of l.sectors).count;
  safe : All (IsSafe (directory_of l.sectors).count) l.pending.items;
  order : All (IsInside (directory_of l.sectors).count) l.order.items;
  visits : All (λ n. n < (directory_of l.sectors).count) l.visits.items;
  so_far : (seen : List ℕ) → Marks l.initial.marks seen → Marks l.marks (seen ++ l.visits.items) × (walk_of (directory_of l.sectors) l.fn.first seen ≡ with_front l.order.items l.visits.items (pend (directory_of l.sectors) (reverse l.pending.items) (seen ++ l.visits.items)));
}

abbrev pub decreases-loop-next : goal.decreases-loop-next
decreases-loop-next l = 4 * unmarked l.marks + vec_len l.pending
