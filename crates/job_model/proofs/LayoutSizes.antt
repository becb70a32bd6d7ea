-- How long a compound file may be, by its entries and the bytes of its streams.
use Rattle.std.proofs.Common.{◌≡◌, ℕ, zero, suc, ◌+◌, ◌*◌, ◌<◌, ◌≤◌, ◌^◌, List, [], ◌∷◌, ◌++◌, length, drop, Bool, true, false, cond, refl, sym, arith, inl, inr}
use Rattle.std.specs.Int.{div_ceil}
use Rattle.std.specs.declared.cmp.Ordering.{Ordering}
use Rattle.std.specs.declared.cmp.Ordering.TheVariants.{Less, Equal, Greater}
use Rattle.std.proofs.lemmas.Bool.{cases_Bool, cond-true, cond-false, leb-true}
use Rattle.carrier_model.specs.FileTrees as trees
use Rattle.carrier_model.specs.FileTrees.{FileTree, no_file, and_files, sibling_cmp, with_stream, with_storage, sorted, entries_in}
use Rattle.carrier_model.specs.Layout.{Slot, Sizes, is_short, is_long, pieces, all_pieces, short_streams, long_streams, sizes_of, rest_of, suffices, first_that_suffices, fat_count, slots_from, slots_of, layout, links_of_siblings, sibling_numbers}
use Rattle.carrier_model.specs.LayoutHolds.{MayBeWrittenAt, StreamsFit}
use Rattle.carrier_model.specs.Sorted.{choose}
use Rattle.carrier_model.specs.Tables.{difat_count}
use Rattle.carrier_model.proofs.LaidHolds.{laid_plan, is-plan}
use Rattle.carrier_model.proofs.LaidParts.{parts_lie}
use Rattle.carrier_model.proofs.LaidSorted.{sorted-may}
use Rattle.carrier_model.proofs.LaidStreams.{short_need, long_need, short_sum, long_sum, short-sum, long-sum}
use Rattle.carrier_model.proofs.Sizes.{SizeOf, version3, version4}

-- ---- the weight of storages and streams

-- the bytes of all streams, and 64 for each entry
abbrev pub load : FileTree → ℕ
load no_file = 0
load (trees.stream name bytes others) = 64 + length bytes + load others
load (trees.storage name class inside others) = 64 + load inside + load others

pub load_both : (a b : FileTree) → load (and_files a b) ≡ load a + load b
load_both no_file b = omega arith
load_both (trees.stream name bytes others) b = omega (arith, load_both others b)
load_both (trees.storage name class inside others) b = omega (arith, load_both others b)

chosen : (o : Ordering) (a b c : FileTree) (n : ℕ) → load a ≡ n → load b ≡ n → load c ≡ n → load (choose o a b c) ≡ n
chosen Less a b c n x y z = x
chosen Equal a b c n x y z = y
chosen Greater a b c n x y z = z

stream_load : (name bytes : List ℕ) (files : FileTree) → load (with_stream name bytes files) ≡ 64 + length bytes + load files
stream_load name bytes no_file = refl
stream_load name bytes (trees.stream other x others) =
    let more = stream_load name bytes others in
    chosen (sibling_cmp other name) (trees.stream other x (with_stream name bytes others)) (trees.stream name bytes (trees.stream other x others)) (trees.stream name bytes (trees.stream other x others)) (64 + length bytes + load (trees.stream other x others)) (omega (arith, more)) refl refl
stream_load name bytes (trees.storage other class inside others) =
    let more = stream_load name bytes others in
    chosen (sibling_cmp other name) (trees.storage other class inside (with_stream name bytes others)) (trees.stream name bytes (trees.storage other class inside others)) (trees.stream name bytes (trees.storage other class inside others)) (64 + length bytes + load (trees.storage other class inside others)) (omega (arith, more)) refl refl

storage_load : (name class : List ℕ) (inside files : FileTree) → load (with_storage name class inside files) ≡ 64 + load inside + load files
storage_load name class inside no_file = refl
storage_load name class inside (trees.stream other x others) =
    let more = storage_load name class inside others in
    chosen (sibling_cmp other name) (trees.stream other x (with_storage name class inside others)) (trees.storage name class inside (trees.stream other x others)) (trees.storage name class inside (trees.stream other x others)) (64 + load inside + load (trees.stream other x others)) (omega (arith, more)) refl refl
storage_load name class inside (trees.storage other kind below others) =
    let more = storage_load name class inside others in
    chosen (sibling_cmp other name) (trees.storage other kind below (with_storage name class inside others)) (trees.storage name class inside (trees.storage other kind below others)) (trees.storage name class inside (trees.storage other kind below others)) (64 + load inside + load (trees.storage other kind below others)) (omega (arith, more)) refl refl

load_sorted : (files : FileTree) → load (sorted files) ≡ load files
load_sorted no_file = refl
load_sorted (trees.stream name bytes others) = omega (arith, stream_load name bytes (sorted others), load_sorted others)
load_sorted (trees.storage name class inside others) = omega (arith, storage_load name class (sorted inside) (sorted others), load_sorted inside, load_sorted others)

-- no stream is longer than the weight
pub streams_small : (files : FileTree) → load files < 2 ^ 28 → StreamsFit files
streams_small no_file small = tt
streams_small (trees.stream name bytes others) small = (omega (arith, small), streams_small others (omega (arith, small)))
streams_small (trees.storage name class inside others) small = (streams_small inside (omega (arith, small)), streams_small others (omega (arith, small)))

-- ---- the weight of entries

abbrev slots_load : List Slot → ℕ
slots_load [] = 0
slots_load (s ∷ slots) = 64 + length s.bytes + slots_load slots

both_load : (a b : List Slot) → slots_load (a ++ b) ≡ slots_load a + slots_load b
both_load [] b = omega arith
both_load (s ∷ a) b = omega (arith, both_load a b)

from_load : (n : ℕ) (ls : List (ℕ × ℕ)) (files : FileTree) → slots_load (slots_from n ls files) ≡ load files
from_load n ls no_file = refl
from_load n ls (trees.stream name bytes others) = omega (arith, from_load (n + 1) (drop 1 ls) others)
from_load n ls (trees.storage name class inside others) =
    let links = links_of_siblings (sibling_numbers (n + 1) inside) in
    omega (arith, both_load (slots_from (n + 1) links inside) (slots_from (n + 1 + entries_in inside) (drop 1 ls) others), from_load (n + 1) links inside, from_load (n + 1 + entries_in inside) (drop 1 ls) others)

count_few : (slots : List Slot) → 64 * length slots ≤ slots_load slots
count_few [] = omega arith
count_few (s ∷ slots) = omega (arith, count_few slots)

short_few : (x : List ℕ) → 64 * short_need x ≤ 64 + length x
short_few x = elim (cases_Bool (is_short x)) [
  | inl there ↦ omega (arith, cond-true (is_short x) (pieces 64 x) 0 there)
  | inr absent ↦ omega (arith, cond-false (is_short x) (pieces 64 x) 0 absent)
]

shorts_few : (slots : List Slot) → 64 * short_sum slots ≤ slots_load slots
shorts_few [] = omega arith
shorts_few (s ∷ slots) = omega (arith, short_few s.bytes, shorts_few slots)

-- a sector is at most as long as a stream that has sectors of its own
long_few : (z : ℕ) → SizeOf z → (x : List ℕ) → z * long_need z x ≤ 2 * length x
long_few z v x = elim (cases_Bool (is_long x)) [
  | inl there ↦ rw (cond-true (is_long x) (pieces z x) 0 there) (twice z v (length x) (omega (arith, leb-true 4096 (length x) there)))
  | inr absent ↦ rw (cond-false (is_long x) (pieces z x) 0 absent) (omega arith)
]
  where
    twice : (z : ℕ) → SizeOf z → (n : ℕ) → 4096 ≤ n → z * div_ceil n z ≤ 2 * n
    twice _ version3 n many = omega (arith, many)
    twice _ version4 n many = omega (arith, many)

longs_few : (z : ℕ) → SizeOf z → (slots : List Slot) → z * long_sum z slots ≤ 2 * slots_load slots
longs_few z v [] = omega arith
longs_few z v (s ∷ slots) = omega (arith, long_few z v s.bytes, longs_few z v slots)

-- ---- sectors

first_few : (more z rest f : ℕ) → first_that_suffices more z rest f ≤ f + more
first_few zero z rest f = omega arith
first_few (suc more) z rest f = by (first_few more z rest (f + 1)) (suffices z rest f)
  where
    by : first_that_suffices more z rest (f + 1) ≤ f + 1 + more → (b : Bool) → cond b f (first_that_suffices more z rest (f + 1)) ≤ f + suc more
    by le true = omega arith
    by le false = omega (arith, le)

-- all sectors but those of the table and of its list
rest_few : (z : ℕ) → SizeOf z → (count mini long weight : ℕ) → 64 * count ≤ weight → 64 * mini ≤ weight → z * long ≤ 2 * weight → z * (div_ceil (128 * count) z + div_ceil (4 * mini) z + div_ceil (64 * mini) z + long) ≤ 6 * weight + 3 * z
rest_few _ version3 count mini long weight a b c = omega (arith, a, b, c)
rest_few _ version4 count mini long weight a b c = omega (arith, a, b, c)

whole_few : (z : ℕ) → SizeOf z → (fat rest weight : ℕ) → fat ≤ rest + 1 → z * rest ≤ 6 * weight + 3 * z → z * (1 + (fat + difat_count z fat + rest)) ≤ 18 * weight + 0x1_0000
whole_few _ version3 fat rest weight f r = omega (arith, f, r)
whole_few _ version4 fat rest weight f r = omega (arith, f, r)

-- ---- the file

pub layout_few : (z : ℕ) → SizeOf z → (class : List ℕ) (files : FileTree) → length class ≡ 16 → MayBeWrittenAt 1 files → length (layout z class files) ≤ 18 * (64 + load files) + 0x1_0000
layout_few z v class files whole may =
    let inside : FileTree = sorted files in
    let slots : List Slot = slots_of class inside in
    let sizes : Sizes = sizes_of z slots in
    let plan = is-plan z v class inside whole (sorted-may 1 files may) in
    let parts = parts_lie z v (laid_plan z class inside) slots plan in
    let weight : slots_load slots ≡ 64 + load files = omega (arith, from_load 1 (links_of_siblings (sibling_numbers 1 inside)) inside, load_sorted files) in
    let shorts : 64 * all_pieces 64 (short_streams slots) ≤ slots_load slots = rw (short-sum slots) (shorts_few slots) in
    let longs : z * all_pieces z (long_streams slots) ≤ 2 * slots_load slots = rw (long-sum z slots) (longs_few z v slots) in
    let rest : z * rest_of sizes ≤ 6 * slots_load slots + 3 * z = rest_few z v (length slots) (all_pieces 64 (short_streams slots)) (all_pieces z (long_streams slots)) (slots_load slots) (count_few slots) shorts longs in
    let all = whole_few z v (fat_count z (rest_of sizes)) (rest_of sizes) (slots_load slots) (omega (arith, first_few (rest_of sizes + 1) z (rest_of sizes) 0)) rest in
    rw (sym weight, parts.size) all
