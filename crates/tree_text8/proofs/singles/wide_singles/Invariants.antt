use Rattle.std.proofs.Common.{◌≡◌, ◌≤◌, ◌-◌, length, take, drop}
use Rattle.std.specs.List.{position_from}
use Rattle.carrier_model.specs.Bytes.{unit_bytes}
use Rattle.text8_model.specs.Texts.{has_no_unit, bad_by, units_by}
use Rattle.tree_text8.specs.Singles.{unit_of}
use Rattle.tree_text8.proofs.singles.wide_singles.Given as goal

abbrev pub invariant-loop-at : goal.invariant-loop-at
invariant-loop-at l = record {
  in_range : l.at ≤ length l.bytes;
  bad : bad_by (unit_of l.page) l.bytes ≡ position_from (has_no_unit (unit_of l.page)) l.at (drop l.at l.bytes);
  wide : l.wide.items ≡ unit_bytes (units_by (unit_of l.page) (take l.at l.bytes));
}

abbrev pub decreases-loop-at : goal.decreases-loop-at
decreases-loop-at l = length l.bytes - l.at
