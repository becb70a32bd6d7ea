use Rattle.std.proofs.Common.{length, ◌-◌, ◌≡◌, ◌≤◌, ◌+◌, ◌++◌, take, drop}
use Rattle.cfb_sectors.specs.Seen.{bytes_of}
use Rattle.cfb_sectors.proofs.view.StreamView.copy_range.Given as goal

abbrev pub invariant-loop-done : goal.invariant-loop-done
invariant-loop-done l = record {
  inside : l.done ≤ length l.initial.into;
  so_far : l.into ≡ take l.done (drop l.at (bytes_of l.self)) ++ drop l.done l.initial.into;
}

abbrev pub decreases-loop-done : goal.decreases-loop-done
decreases-loop-done l = length l.initial.into - l.done
