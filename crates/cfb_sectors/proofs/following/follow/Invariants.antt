use Rattle.std.proofs.Common.{◌-◌, ◌≡◌, ◌+◌, ◌<◌, ◌≤◌, vec_len, length}
use Rattle.std.specs.Prelude.{All}
use Rattle.carrier_model.specs.Chains.{Leads}
use Rattle.carrier_model.specs.Marks.{mark_all, unmarked, AreFree}
use Rattle.carrier_io.specs.Steps.{stepped}
use Rattle.cfb_sectors.specs.Stays.{Stay}
use Rattle.cfb_sectors.proofs.following.follow.Given as goal

abbrev pub invariant-loop-sector : goal.invariant-loop-sector
invariant-loop-sector l = record {
  linked : Leads l.table.words.items l.start l.chain.items l.sector;
  free : AreFree l.bound l.whole l.initial.marks l.chain.items;
  below : All (λ n. n < l.bound) l.chain.items;
  whole : All (λ n. n < l.whole) l.chain.items;
  marked : l.marks ≡ mark_all l.initial.marks l.chain.items;
  steps : l.walk ≡ stepped l.initial.walk (vec_len l.chain);
  same_length : length l.marks ≡ length l.initial.marks;
  stay : Stay l.initial.marks l.marks;
  few : vec_len l.chain + unmarked l.marks ≡ unmarked l.initial.marks;
  bounded : l.walk + unmarked l.marks ≤ l.initial.walk + unmarked l.initial.marks;
  grows : l.initial.walk ≤ l.walk;
}

abbrev pub decreases-loop-sector : goal.decreases-loop-sector
decreases-loop-sector l = unmarked l.marks
