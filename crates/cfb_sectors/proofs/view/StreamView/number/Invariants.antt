use Rattle.std.proofs.Common.{◌≡◌, ◌<◌, ◌+◌, ◌-◌}
use Rattle.carrier_model.proofs.ViewLaws.{room}
use Rattle.cfb_sectors.specs.Seen.{bytes_of, number_in}
use Rattle.cfb_sectors.proofs.view.StreamView.number.Given as goal

abbrev pub invariant-loop-i : goal.invariant-loop-i
invariant-loop-i l = record {
  small : l.value < room l.i;
  so_far : l.value ≡ number_in (bytes_of l.self) (l.at + (l.width - l.i)) l.i;
}
