-- The numbers of a layout as the program keeps them.
use Rattle.std.specs.Prelude.{◌≤◌}
use Rattle.carrier_model.specs.Layout.{Plan}
use Rattle.cfb_layout.specs.declared.numbers.SectorCounts.{SectorCounts}

abbrev pub plan_seen : SectorCounts → Plan
plan_seen n = record {
  sizes = record { directory = n.directory; mini_fat = n.mini_fat; mini_sectors = n.mini_sectors; mini_stream = n.mini_stream; long = n.long };
  fat = n.fat;
  difat = n.difat;
}

-- few enough that sums of them are words
pub record IsSmall (n : SectorCounts) : Type 0 where
  pub fat : n.fat ≤ 1048576
  pub difat : n.difat ≤ 1048576
  pub directory : n.directory ≤ 1048576
  pub mini_fat : n.mini_fat ≤ 1048576
  pub mini_stream : n.mini_stream ≤ 1048576
  pub long : n.long ≤ 1048576
  pub mini_sectors : n.mini_sectors ≤ 16777216
