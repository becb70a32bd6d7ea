use Rattle.std.proofs.Common.{◌≤◌, ◌+◌, ◌-◌}
use Rattle.carrier_model.specs.Layout.{fat_count}
use Rattle.cfb_layout.specs.Versions.{sector_of}
use Rattle.cfb_writer.proofs.fat_count.fat_count.Given as goal

abbrev pub decreases-loop-version : goal.decreases-loop-version
decreases-loop-version l = l.rest + 1 - l.fat

abbrev pub invariant-loop-version : goal.invariant-loop-version
invariant-loop-version l = l.fat ≤ fat_count (sector_of l.version) l.rest
