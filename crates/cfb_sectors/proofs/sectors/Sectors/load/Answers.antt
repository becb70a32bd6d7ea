use Rattle.std.proofs.Common.{◌-◌, length, ◌∙◌, arith}
use Rattle.std.proofs.lemmas.Grind.{common_steps}
use Rattle.carrier_model.proofs.EntryLaws.{same_product}
use Rattle.cfb_sectors.proofs.sectors.Sectors.load.Goals as goal

pub invariant_of-result : goal.invariant_of-result
invariant_of-result c = (
  record {
    short = c.requires.short;
    long = rw c.in_ok-header.ensures.size c.in_ok-header.ensures.long;
    count = c.load_mini.ensures.length ∙ rw c.in_ok-header.ensures.size c.in_ok-header.ensures.count;
    mini_count = c.in_ok-mini_marks.ensures.count ∙ grind (arith, common_steps);
    whole = rw c.in_ok-header.ensures.size c.in_ok-header.ensures.whole;
    few = rw c.in_ok-header.ensures.size (omega (arith, c.in_ok-header.ensures.few));
    enough = same_product _ _ _ _ c.in_ok-mini.ensures.enough (omega arith);
    within = c.in_ok-mini.ensures.within;
    below = c.in_ok-mini.ensures.below;
  },
  c.in_ok-mini.ensures.size,
)
