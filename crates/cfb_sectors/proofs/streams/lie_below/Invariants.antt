use Rattle.std.proofs.Common.{◌-◌, ◌≡◌, ℕ, ◌*◌, ◌<◌, min}
use Rattle.carrier_model.specs.Streams.{place_in}
use Rattle.cfb_sectors.proofs.streams.lie_below.Given as goal

abbrev pub invariant-loop-start : goal.invariant-loop-start
invariant-loop-start l = record {
  so_far : l.done ≡ min l.size (l.each * l.start-index);
  within : (k : ℕ) → k < l.done → place_in l.each l.starts k < l.limit;
}
