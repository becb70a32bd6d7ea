-- A file that is laid out is loaded.
use Rattle.std.proofs.Common.{◌≡◌, ℕ, zero, suc, ◌+◌, ◌-◌, ◌*◌, ◌/◌, ◌%◌, ◌^◌, ◌<◌, ◌≤◌, List, [], ◌∷◌, ◌++◌, length, replicate, true, false, eqb, refl, sym, ◌∙◌, ap, subst, arith}
use Rattle.std.specs.List.{range_with_len, flat_map, IsDistinct, AllByRecursion}
use Rattle.std.proofs.lemmas.Bool.{ne_eqb, cond-false, or_from}
use Rattle.std.proofs.lemmas.List.FromFn.{length-range_with_len, get_or-map-range_with_len}
use Rattle.carrier_model.specs.Chains.{Chain, member, end_word}
use Rattle.carrier_model.specs.Entries.{Entry, entry_at, entry_place}
use Rattle.carrier_model.specs.Files.{directory_in}
use Rattle.carrier_model.specs.Holds.{IsMini, IsLoaded}
use Rattle.carrier_model.specs.Layout.{Slot, Plan, rest_of, FREE, stream_words, short_streams, table_of, mini_table_of, slot_bytes, slots_bytes, root_bytes, directory_slots, unused_slot, directory_start, mini_fat_start, mini_stream_start, long_start, start_or_end}
use Rattle.carrier_model.specs.Loads.{Mini, Loaded, no_mini, chain_bound, taken_by}
use Rattle.carrier_model.specs.Sectors.{sector_start, whole_count}
use Rattle.carrier_model.specs.Streams.{place_in, places_of, starts_of, lie_below}
use Rattle.carrier_model.proofs.Apart.{distinct-append}
use Rattle.carrier_model.proofs.LaidBytes.{Lies, lies-front, AreWords}
use Rattle.carrier_model.proofs.LaidChains.{run-chain, runs_lie, bound-is}
use Rattle.carrier_model.proofs.LaidEntries.{IsSlot, entry_of_slot, entry-lies}
use Rattle.carrier_model.proofs.LaidFat.{range-distinct, range-below, ranges-apart, IsSmall, fit-replicate, fit-streams, laid_table, table_reads}
use Rattle.carrier_model.proofs.LaidHeader.{counted, start-small, head_of, header_reads}
use Rattle.carrier_model.proofs.LaidParts.{IsPlan, AreParts, mini_table-length, mini_room, entry_room}
use Rattle.carrier_model.proofs.LaidTables.{table-lies, streams-length}
use Rattle.carrier_model.proofs.PlaceLaws.{places-from}
use Rattle.carrier_model.proofs.TableLaws.{all-append}
use Rattle.carrier_model.proofs.Sizes.{SizeOf, times_some, all_entries, ceil_some, ceil_none, sector_in, place_is}

-- ---- consecutive sectors

pub run-place : (z : ℕ) (v : SizeOf z) (s n k : ℕ) → k < z * n → place_in z (starts_of z (range_with_len s n)) k ≡ sector_start z s + k
run-place z v s n k below =
    let there = sector_in z v k n below in
    ap (λ m. m + k % z) (get_or-map-range_with_len (sector_start z) s n (k / z) (s + k / z) 0 there refl) ∙ place_is z v s k

pub run-within : (z : ℕ) (v : SizeOf z) (b : List ℕ) (s n size : ℕ) → size ≤ z * n → sector_start z s + z * n ≤ length b → lie_below (length b) (places_of z (starts_of z (range_with_len s n)) size) ≡ true
run-within z v b s n size fits inside = places-from z (starts_of z (range_with_len s n)) (length b) size (λ k below. rw (run-place z v s n k (omega (arith, below, fits))) (omega (arith, below, fits, inside)))

-- ---- lists that rise

pub member-below : (xs : List ℕ) (a x : ℕ) → AllByRecursion (λ y. y < a) xs → a ≤ x → member x xs ≡ false
member-below [] a x h above = refl
member-below (y ∷ xs) a x h above = or_from (eqb x y) (member x xs) (ne_eqb x y (λ e. absurd (omega (arith, e, h.0, above)))) (member-below xs a x h.1 above)

fresh-above : (xs : List ℕ) (a m n : ℕ) → AllByRecursion (λ y. y < a) xs → a ≤ m → AllByRecursion (λ x. member x xs ≡ false) (range_with_len m n)
fresh-above xs a m zero h above = tt
fresh-above xs a m (suc n) h above = (member-below xs a m h above, fresh-above xs a (m + 1) n h (omega (arith, above)))

-- distinct numbers below a bound, and those from it on
pub record Rises (xs : List ℕ) (a : ℕ) : Type 0 where
  pub distinct : IsDistinct eqb xs
  pub below : AllByRecursion (λ y. y < a) xs

weaker : (xs : List ℕ) (a c : ℕ) → a ≤ c → AllByRecursion (λ y. y < a) xs → AllByRecursion (λ y. y < c) xs
weaker [] a c le h = tt
weaker (x ∷ xs) a c le h = (omega (arith, le, h.0), weaker xs a c le h.1)

pub rises-on : (xs : List ℕ) (a n c : ℕ) → c ≡ a + n → Rises xs a → Rises (xs ++ range_with_len a n) c
rises-on xs a n c is r = record {
  distinct = distinct-append xs (range_with_len a n) r.distinct (range-distinct a n) (fresh-above xs a a n r.below (omega arith));
  below = all-append (λ y. y < c) xs (range_with_len a n) (weaker xs a c (omega (arith, is)) r.below) (range-below a n c (omega (arith, is)));
}

-- ---- what is loaded

abbrev pub laid_mini : ℕ → Plan → List Slot → Mini
laid_mini z p slots = record {
  table = record { sectors = range_with_len (mini_fat_start p) p.sizes.mini_fat; words = mini_table_of z p slots };
  stream = range_with_len (mini_stream_start p) p.sizes.mini_stream;
  size = 64 * p.sizes.mini_sectors;
}

abbrev pub laid_loaded : ℕ → Plan → List Slot → Loaded
laid_loaded z p slots = record {
  difat = range_with_len p.fat p.difat;
  table = laid_table z p slots;
  directory = range_with_len (directory_start p) p.sizes.directory;
  mini = laid_mini z p slots;
}

pub laid-rises : (z : ℕ) (p : Plan) (slots : List Slot) → Rises (taken_by (laid_loaded z p slots)) (long_start p)
laid-rises z p slots =
    let L = range_with_len p.fat p.difat in
    let A = range_with_len 0 p.fat in
    let both : Rises (L ++ A) (directory_start p) = record {
      distinct = distinct-append L A (range-distinct p.fat p.difat) (range-distinct 0 p.fat) (ranges-apart p.fat p.difat 0 p.fat (omega arith));
      below = all-append (λ y. y < directory_start p) L A (range-below p.fat p.difat (directory_start p) (omega arith)) (range-below 0 p.fat (directory_start p) (omega arith));
    } in
    let D = range_with_len (directory_start p) p.sizes.directory in
    let F = range_with_len (mini_fat_start p) p.sizes.mini_fat in
    rises-on (((L ++ A) ++ D) ++ F) (mini_stream_start p) p.sizes.mini_stream (long_start p) refl
    (rises-on ((L ++ A) ++ D) (mini_fat_start p) p.sizes.mini_fat (mini_stream_start p) refl
    (rises-on (L ++ A) (directory_start p) p.sizes.directory (mini_fat_start p) refl both))

empty-list : (xs : List ℕ) → length xs ≡ 0 → xs ≡ []
empty-list [] h = refl
empty-list (x ∷ xs) h = absurd (omega (arith, h))

abbrev mini_from : List ℕ → List ℕ → List ℕ → ℕ → Mini
mini_from f w s n = record { table = record { sectors = f; words = w }; stream = s; size = n }

-- without mini sectors there is no mini stream
mini-nothing : (z : ℕ) (v : SizeOf z) (p : Plan) (slots : List Slot) → IsPlan z p slots → p.sizes.mini_sectors ≡ 0 → laid_mini z p slots ≡ no_mini
mini-nothing z v p slots plan none =
    let fat : p.sizes.mini_fat ≡ 0 = plan.mini_fat ∙ ceil_none z v (4 * p.sizes.mini_sectors) (omega (arith, none)) in
    let stream : p.sizes.mini_stream ≡ 0 = plan.mini_stream ∙ ceil_none z v (64 * p.sizes.mini_sectors) (omega (arith, none)) in
    let words : mini_table_of z p slots ≡ [] = empty-list (mini_table_of z p slots) (mini_table-length z v p slots plan ∙ (ap (λ n. z / 4 * n) fat ∙ omega arith)) in
    same (range_with_len (mini_fat_start p) p.sizes.mini_fat) (mini_table_of z p slots) (range_with_len (mini_stream_start p) p.sizes.mini_stream) (64 * p.sizes.mini_sectors)
    (ap (range_with_len (mini_fat_start p)) fat) words (ap (range_with_len (mini_stream_start p)) stream) (omega (arith, none))
  where
    same : (f w s : List ℕ) (n : ℕ) → f ≡ [] → w ≡ [] → s ≡ [] → n ≡ 0 → mini_from f w s n ≡ no_mini
    same f w s n a b c d = rw (a, b, c, d) refl

pub fit-mini_table : (z : ℕ) (v : SizeOf z) (p : Plan) (slots : List Slot) → IsPlan z p slots → IsSmall z p → AreWords (mini_table_of z p slots)
fit-mini_table z v p slots plan small =
    let inner = streams-length 64 0 (short_streams slots) in
    all-append (λ w. w < 2 ^ 32) (stream_words 64 0 (short_streams slots)) (replicate (z / 4 * p.sizes.mini_fat - length (stream_words 64 0 (short_streams slots))) FREE)
    (fit-streams 64 0 (short_streams slots) (omega (arith, inner, plan.mini_sectors, mini_room z v p slots plan, small.bytes)))
    (fit-replicate (z / 4 * p.sizes.mini_fat - length (stream_words 64 0 (short_streams slots))) FREE (omega arith))

-- entries follow one another
pub entry-place : (z : ℕ) (v : SizeOf z) (s n id : ℕ) → id < z / 128 * n → entry_place z (range_with_len s n) id ≡ sector_start z s + 128 * id
entry-place z v s n id below = run-place z v s n (128 * id) (omega (arith, below, all_entries z v n))

-- the root's entry
pub root-lies : (z : ℕ) (p : Plan) (root : Slot) (others : List Slot) (b : List ℕ) → AreParts z p (root ∷ others) b → Lies b (sector_start z (directory_start p)) (slot_bytes root (start_or_end p.sizes.mini_sectors (mini_stream_start p)) (64 * p.sizes.mini_sectors))
root-lies z p root others b is =
    let at = sector_start z (directory_start p) in
    lies-front b at (root_bytes p root) (slots_bytes z 0 (long_start p) others)
    (lies-front b at (directory_slots z p (root ∷ others)) (flat_map (λ k. unused_slot) (range_with_len 0 (z / 128 * p.sizes.directory - length (root ∷ others)))) is.directory)

pub root-read : (z : ℕ) (v : SizeOf z) (p : Plan) (root : Slot) (others : List Slot) (b : List ℕ) → AreParts z p (root ∷ others) b → IsPlan z p (root ∷ others) → IsSmall z p → IsSlot root → (directory_in z b (range_with_len (directory_start p) p.sizes.directory)).entry 0 ≡ entry_of_slot root (start_or_end p.sizes.mini_sectors (mini_stream_start p)) (64 * p.sizes.mini_sectors)
root-read z v p root others b is plan small slot =
    let some : 0 < z / 128 * p.sizes.directory = omega (arith, entry_room z v p (root ∷ others) plan) in
    ap (entry_at z b) (entry-place z v (directory_start p) p.sizes.directory 0 some ∙ omega arith)
    ∙ entry-lies z b (sector_start z (directory_start p)) root (start_or_end p.sizes.mini_sectors (mini_stream_start p)) (64 * p.sizes.mini_sectors) slot (start-small p.sizes.mini_sectors (mini_stream_start p) (omega (arith, small.sectors))) (omega (arith, small.bytes, mini_room z v p (root ∷ others) plan)) (root-lies z p root others b is)

started : (count start : ℕ) → 0 < count → start_or_end count start ≡ start
started count start some = cond-false (eqb count 0) end_word start (ne_eqb count 0 (λ e. absurd (omega (arith, e, some))))

pub mini-reads : (z : ℕ) (v : SizeOf z) (p : Plan) (root : Slot) (others : List Slot) (b : List ℕ) → AreParts z p (root ∷ others) b → IsPlan z p (root ∷ others) → IsSmall z p → IsMini z b (laid_table z p (root ∷ others)) (head_of p).mini_fat (entry_of_slot root (start_or_end p.sizes.mini_sectors (mini_stream_start p)) (64 * p.sizes.mini_sectors)) (laid_mini z p (root ∷ others))
mini-reads z v p root others b is plan small =
    let slots = root ∷ others in
    let bound = bound-is z v p slots b is plan in
    let runs = runs_lie z p slots in
    let n = counted z v b (p.fat + p.difat + rest_of p.sizes) is.size in
    record {
      sized = refl;
      empty = λ none. mini-nothing z v p slots plan (omega (arith, none));
      some = λ more.
          let fat : 0 < p.sizes.mini_fat = subst (λ n. 0 < n) (sym plan.mini_fat) (ceil_some z v (4 * p.sizes.mini_sectors) (omega (arith, more))) in
          let stream : 0 < p.sizes.mini_stream = subst (λ n. 0 < n) (sym plan.mini_stream) (ceil_some z v (64 * p.sizes.mini_sectors) more) in
          record {
            chain = subst (λ s. Chain (table_of z p slots) s (chain_bound z b (table_of z p slots)) (range_with_len (mini_fat_start p) p.sizes.mini_fat)) (sym (started p.sizes.mini_fat (mini_fat_start p) fat))
                (run-chain p.sizes.mini_fat (table_of z p slots) (mini_fat_start p) (chain_bound z b (table_of z p slots)) fat (omega (arith, bound)) runs.mini_fat);
            whole = range-below (mini_fat_start p) p.sizes.mini_fat (whole_count z b) (omega (arith, n.1));
            words = sym (table-lies z v b (mini_fat_start p) p.sizes.mini_fat (mini_table_of z p slots) (fit-mini_table z v p slots plan small) (mini_table-length z v p slots plan) is.mini_table);
            stream = record {
              chain = subst (λ s. Chain (table_of z p slots) s (chain_bound z b (table_of z p slots)) (range_with_len (mini_stream_start p) p.sizes.mini_stream)) (sym (started p.sizes.mini_sectors (mini_stream_start p) (omega (arith, more))))
                  (run-chain p.sizes.mini_stream (table_of z p slots) (mini_stream_start p) (chain_bound z b (table_of z p slots)) stream (omega (arith, bound)) runs.mini_stream);
              enough = omega (arith, plan.mini_stream, length-range_with_len (mini_stream_start p) p.sizes.mini_stream);
              within = run-within z v b (mini_stream_start p) p.sizes.mini_stream (64 * p.sizes.mini_sectors) (mini_room z v p slots plan) (omega (arith, is.size));
            };
          };
    }

-- so it is loaded
pub loads : (z : ℕ) (v : SizeOf z) (p : Plan) (root : Slot) (others : List Slot) (b : List ℕ) → AreParts z p (root ∷ others) b → IsPlan z p (root ∷ others) → IsSmall z p → IsSlot root → root.kind ≡ 5 → IsLoaded z b (laid_loaded z p (root ∷ others))
loads z v p root others b is plan small slot kind =
    let slots = root ∷ others in
    let some : 0 < p.sizes.directory = subst (λ n. 0 < n) (sym plan.directory) (ceil_some z v (128 * length slots) (omega arith)) in
    let bound = bound-is z v p slots b is plan in
    let runs = runs_lie z p slots in
    let n = counted z v b (p.fat + p.difat + rest_of p.sizes) is.size in
    let entry = root-read z v p root others b is plan small slot in
    record {
      head = head_of p;
      header = header_reads z v p slots b (omega (arith, small.sectors)) (times_some (z / 4) (p.fat + p.difat + rest_of p.sizes) p.fat (omega (arith, some)) plan.enough) is;
      table = table_reads z v p slots b is plan small;
      directory = run-chain p.sizes.directory (table_of z p slots) (directory_start p) (chain_bound z b (table_of z p slots)) some (omega (arith, bound)) runs.directory;
      some = omega (arith, some, length-range_with_len (directory_start p) p.sizes.directory);
      whole = range-below (directory_start p) p.sizes.directory (whole_count z b) (omega (arith, n.1));
      root = ap (λ (e : Entry). e.kind) entry ∙ kind;
      mini = subst (λ (e : Entry). IsMini z b (laid_table z p slots) (head_of p).mini_fat e (laid_mini z p slots)) (sym entry) (mini-reads z v p root others b is plan small);
    }
