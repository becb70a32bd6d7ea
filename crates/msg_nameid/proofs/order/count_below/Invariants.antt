use Rattle.std.proofs.Common.{ℕ, ◌≡◌, ◌<◌, ◌≤◌, ◌-◌, true, false, length, map}
use Rattle.std.specs.Ordering.{is_lt}
use Rattle.carrier_model.specs.Keys.{name_cmp}
use Rattle.prop_names.specs.Meaning.{name_of}
use Rattle.msg_nameid.specs.Maps.{pair_of}
use Rattle.msg_nameid.specs.Orders.{pair_at}
use Rattle.msg_nameid.proofs.order.count_below.Given as goal

abbrev pub invariant-loop-low : goal.invariant-loop-low
invariant-loop-low l = record {
  ordered : l.low ≤ l.high;
  within : l.high ≤ length l.entries;
  below : (k : ℕ) → k < l.low → is_lt (name_cmp (pair_at (map pair_of l.entries) k).1 (name_of l.name)) ≡ true;
  above : (k : ℕ) → l.high ≤ k → k < length l.entries → is_lt (name_cmp (pair_at (map pair_of l.entries) k).1 (name_of l.name)) ≡ false;
}

abbrev pub decreases-loop-low : goal.decreases-loop-low
decreases-loop-low l = l.high - l.low
