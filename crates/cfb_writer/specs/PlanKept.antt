-- What a plan keeps to.
use Rattle.std.specs.Prelude.{◌≡◌, ℕ, length}
use Rattle.std.specs.List.{AllByRecursion}
use Rattle.carrier_model.specs.Layout.{file_bytes}
use Rattle.cfb_writer.specs.Laid.{Laid, IsShort, others_of, slots_in}
use Rattle.cfb_layout.specs.Counts.{plan_seen, IsSmall}
use Rattle.cfb_writer.specs.Numbered.{IsPlanFor}
use Rattle.cfb_layout.specs.declared.numbers.SectorCounts.{SectorCounts}

pub record IsPlanned (z : ℕ) (numbers : SectorCounts) (laid : Laid) (size : ℕ) : Type 0 where
  pub small : IsSmall numbers
  pub plan : IsPlanFor z (plan_seen numbers) (slots_in laid)
  pub short : AllByRecursion IsShort (others_of laid)
  pub whole : size ≡ length (file_bytes z (plan_seen numbers) (slots_in laid))
