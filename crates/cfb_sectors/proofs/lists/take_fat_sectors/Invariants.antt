use Rattle.std.proofs.Common.{◌-◌, ◌≡◌, ℕ, ◌+◌, ◌<◌, ◌≤◌, ◌++◌, List, vec_len, length}
use Rattle.std.specs.Prelude.{All}
use Rattle.carrier_model.specs.Marks.{Marks, unmarked}
use Rattle.carrier_model.specs.Sectors.{whole_count}
use Rattle.carrier_model.specs.Tables.{fat_sectors_of}
use Rattle.cfb_sectors.proofs.ListLaws.{with_front}
use Rattle.cfb_sectors.proofs.lists.take_fat_sectors.Given as goal

abbrev pub invariant-loop-i : goal.invariant-loop-i
invariant-loop-i l = record {
  count : vec_len l.fat ≡ l.i;
  below : All (λ n. n < whole_count l.size l.bytes) l.fat.items;
  same_length : length l.marks ≡ length l.initial.marks;
  bounded : unmarked l.marks ≤ unmarked l.initial.marks;
  marked : (earlier : List ℕ) → Marks l.initial.marks earlier → Marks l.marks (earlier ++ l.fat.items);
  so_far : (earlier : List ℕ) → Marks l.initial.marks earlier → fat_sectors_of l.count 0 l.size l.bytes l.difat earlier ≡ with_front l.fat.items (fat_sectors_of (l.count - l.i) l.i l.size l.bytes l.difat (earlier ++ l.fat.items));
}
