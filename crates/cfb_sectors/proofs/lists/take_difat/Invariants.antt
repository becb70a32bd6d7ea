use Rattle.std.proofs.Common.{◌-◌, ◌≡◌, ℕ, ◌+◌, ◌<◌, ◌≤◌, ◌++◌, List, vec_len, length}
use Rattle.std.specs.Prelude.{All}
use Rattle.carrier_model.specs.Marks.{Marks, unmarked}
use Rattle.carrier_model.specs.Sectors.{whole_count}
use Rattle.carrier_model.specs.Tables.{difat_of}
use Rattle.cfb_sectors.proofs.ListLaws.{with_front}
use Rattle.cfb_sectors.proofs.lists.take_difat.Given as goal

abbrev pub invariant-loop-i : goal.invariant-loop-i
invariant-loop-i l = record {
  count : vec_len l.difat ≡ l._i;
  inside : l.place + 4 ≤ length l.bytes;
  below : All (λ n. n < whole_count l.size l.bytes) l.difat.items;
  same_length : length l.marks ≡ length l.initial.marks;
  bounded : unmarked l.marks ≤ unmarked l.initial.marks;
  marked : (earlier : List ℕ) → Marks l.initial.marks earlier → Marks l.marks (earlier ++ l.difat.items);
  so_far : (earlier : List ℕ) → Marks l.initial.marks earlier → difat_of l.count 68 l.size l.bytes earlier ≡ with_front l.difat.items (difat_of (l.count - l._i) l.place l.size l.bytes (earlier ++ l.difat.items));
}
