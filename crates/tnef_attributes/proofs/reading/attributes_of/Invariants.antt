use Rattle.std.proofs.Common.{◌≡◌, ◌+◌, length}
use Rattle.carrier_model.specs.Items.{Spells, behind}
use Rattle.tnef_model.specs.Attributes.{attrs}
use Rattle.tnef_attributes.proofs.reading.attributes_of.Given as goal

abbrev pub invariant-loop-rest : goal.invariant-loop-rest
invariant-loop-rest l = record {
  spelled : Spells attrs l.at l.bytes l.attributes l.rest;
  state : behind attrs l.at l.attributes ≡ l.place;
  room : l.place + length l.rest ≡ l.at + length l.bytes;
}

abbrev pub decreases-loop-rest : goal.decreases-loop-rest
decreases-loop-rest l = length l.rest
