-- A file that is laid out holds what was laid out.
use Rattle.std.proofs.Common.{◌≡◌, ℕ, zero, suc, ◌+◌, ◌-◌, ◌*◌, ◌/◌, ◌≤◌, ◌^◌, List, [], ◌∷◌, ◌++◌, length, filter, drop, Bool, true, false, ◌&&◌, cond, eqb, refl, sym, ◌∙◌, ap, subst, arith, inl, inr}
use Rattle.std.specs.Prelude.{IsPermutation}
use Rattle.std.specs.List.{range_with_len, flat_map, IsDistinct, AllByRecursion}
use Rattle.std.proofs.lemmas.Bool.{cases_Bool, cond-true, cond-false}
use Rattle.std.proofs.lemmas.Grind.{flat_map-append}
use Rattle.std.proofs.lemmas.List.{append-nil}
use Rattle.std.proofs.lemmas.List.FromFn.{length-range_with_len}
use Rattle.std.proofs.lemmas.List.Sorted.{IsPermutation-sym, IsPermutation-trans, IsPermutation-cons, list_any-IsPermutation}
use Rattle.std.proofs.lemmas.Map.Keys.{IsDistinct-IsPermutation}
use Rattle.std.proofs.lemmas.Cmp.{nat_eq_equiv}
use Rattle.carrier_model.specs.Chains.{member}
use Rattle.carrier_model.specs.Entries.{Entry, entry_at}
use Rattle.carrier_model.specs.FileTrees as trees
use Rattle.carrier_model.specs.FileTrees.{FileTree, entries_in}
use Rattle.carrier_model.specs.Files.{none, Files, directory_in, stream_ids, files_of}
use Rattle.carrier_model.specs.Holds.{AreApart, IsStream, Holds, long_parts as taken_long, short_parts as taken_short}
use Rattle.carrier_model.specs.Layout.{Slot, Plan, rest_of, slots_of, plan_of, sizes_of, file_bytes, slots_bytes, root_bytes, directory_slots, unused_slot, table_of, mini_table_of, short_streams, stream_words, filled, directory_start, mini_stream_start, long_start, links_of_siblings, sibling_numbers, slots_from, top_of, start_of_slot}
use Rattle.carrier_model.specs.LayoutHolds.{MayBeWrittenAt, MayBeWritten}
use Rattle.carrier_model.specs.Stores.{bare}
use Rattle.carrier_model.specs.Links.{Directory, Links, ids, Linked}
use Rattle.carrier_model.specs.Loads.{Loaded, taken_by, long_part, short_part, stream_of}
use Rattle.carrier_model.specs.Sectors.{sector_start}
use Rattle.carrier_model.specs.Streams.{Stream}
use Rattle.carrier_model.proofs.ChildLaws.{each-append}
use Rattle.carrier_model.proofs.HoldsLaws.{in_range}
use Rattle.carrier_model.proofs.LaidBytes.{Lies, lies-whole, lies-front, lies-back}
use Rattle.carrier_model.proofs.LaidChains.{runs_lie}
use Rattle.carrier_model.proofs.LaidClaims.{AreRead, AreSlotted, chains_from, chains-are, slots-read, Passes, long-parts, short-parts}
use Rattle.carrier_model.proofs.LaidEntries.{IsSlot, name-read}
use Rattle.carrier_model.proofs.LaidFat.{range-distinct, range-below, not-in_range, IsSmall}
use Rattle.carrier_model.proofs.LaidFiles.{items_from, links-are, numbers-are, AreShown, slots-many, files-linked, files-ids, HaveBytes, IsTreeOf, files-tree}
use Rattle.carrier_model.proofs.LaidLinks.{balanced, item_links, item_links-length, balanced-linked, all_ids, balanced-ids, balanced-tree}
use Rattle.carrier_model.proofs.LaidLoaded.{laid_loaded, laid-rises, rises-on, member-below, entry-place, root-read, loads}
use Rattle.carrier_model.proofs.LaidParts.{IsPlan, AreParts, parts_lie, slot-length, mini_room, entry_room}
use Rattle.carrier_model.proofs.LaidSlots.{root_slot, other_slots, root-good, slots-fit, slots-good, numbers-small, sides-small}
use Rattle.carrier_model.proofs.LaidStreams.{IsGood, AreEntries, entries-lie, streams-laid, short-sum, long-sum, short_sum, long_sum, mini_next, long_next}
use Rattle.carrier_model.proofs.LaidTables.{fat-suffices}
use Rattle.carrier_model.proofs.PlaceLaws.{range-append}
use Rattle.carrier_model.proofs.Sizes.{SizeOf, all_entries, sectors_few}

-- ---- the entries of the directory

abbrev dir : ℕ → Plan → List ℕ → Directory
dir z p b = directory_in z b (range_with_len (directory_start p) p.sizes.directory)

slotted : (z : ℕ) (v : SizeOf z) (p : Plan) (b : List ℕ) (k mini long : ℕ) (slots : List Slot) → k + length slots ≤ z / 128 * p.sizes.directory → AreEntries z b (sector_start z (directory_start p) + 128 * k) mini long slots → AreSlotted z (dir z p b) k mini long slots
slotted z v p b k mini long [] few h = tt
slotted z v p b k mini long (s ∷ slots) few h =
    let place = entry-place z v (directory_start p) p.sizes.directory k (omega (arith, few)) in
    let next : sector_start z (directory_start p) + 128 * k + 128 ≡ sector_start z (directory_start p) + 128 * (k + 1) = omega arith in
    (ap (entry_at z b) place ∙ h.0, slotted z v p b (k + 1) (mini_next mini s) (long_next z long s) slots (omega (arith, few)) (subst (λ o. AreEntries z b o (mini_next mini s) (long_next z long s) slots) next h.1))

shown : (z : ℕ) (d : Directory) (k mini long : ℕ) (slots : List Slot) → k + length slots ≤ d.count → AreSlotted z d k mini long slots → AreShown d k slots
shown z d k mini long [] few h = tt
shown z d k mini long (s ∷ slots) few h = (
  record {
    there = omega (arith, few);
    name = ap Rattle.carrier_model.specs.Files.name_of h.0 ∙ name-read s (start_of_slot mini long s) (length s.bytes);
    name_bytes = ap (λ (e : Entry). e.name_bytes) h.0;
    kind = ap (λ (e : Entry). e.kind) h.0;
    left = ap (λ (e : Entry). e.left) h.0;
    right = ap (λ (e : Entry). e.right) h.0;
    child = ap (λ (e : Entry). e.child) h.0;
    class = ap (λ (e : Entry). e.class) h.0;
    size = ap (λ (e : Entry). e.size) h.0;
  },
  shown z d (k + 1) (mini_next mini s) (long_next z long s) slots (omega (arith, few)) h.1,
)

-- ---- the streams that are visited

all-kept : (P : ℕ → Type 0) (test : ℕ → Bool) (xs : List ℕ) → AllByRecursion (λ x. test x ≡ true → P x) xs → AllByRecursion P (filter test xs)
all-kept P test [] h = tt
all-kept P test (x ∷ xs) h =
    let rest = all-kept P test xs h.1 in
    elim (cases_Bool (test x)) [
      | inl kept ↦ subst (λ (l : List ℕ). AllByRecursion P l) (sym (cond-true (test x) (x ∷ filter test xs) (filter test xs) kept)) (h.0 kept, rest)
      | inr left ↦ subst (λ (l : List ℕ). AllByRecursion P l) (sym (cond-false (test x) (x ∷ filter test xs) (filter test xs) left)) rest
    ]

flat-kept : (g : ℕ → List ℕ) (test : ℕ → Bool) (xs : List ℕ) → flat_map g (filter test xs) ≡ flat_map (λ x. cond (test x) (g x) []) xs
flat-kept g test [] = refl
flat-kept g test (x ∷ xs) = one (test x) (flat-kept g test xs)
  where
    one : (t : Bool) → flat_map g (filter test xs) ≡ flat_map (λ x. cond (test x) (g x) []) xs → flat_map g (cond t (x ∷ filter test xs) (filter test xs)) ≡ cond t (g x) [] ++ flat_map (λ x. cond (test x) (g x) []) xs
    one true h = ap (λ l. g x ++ l) h
    one false h = h

flat-none : (g : ℕ → List ℕ) (test : ℕ → Bool) (xs : List ℕ) → AllByRecursion (λ x. test x ≡ false) xs → flat_map (λ x. cond (test x) (g x) []) xs ≡ []
flat-none g test [] h = refl
flat-none g test (x ∷ xs) h = ap (λ l. l ++ flat_map (λ x. cond (test x) (g x) []) xs) (cond-false (test x) (g x) [] h.0) ∙ flat-none g test xs h.1

-- rising numbers of which the middle ones alone pass
flat-middle : (g : ℕ → List ℕ) (test : ℕ → Bool) (n m : ℕ) → test 0 ≡ false → AllByRecursion (λ x. test x ≡ false) (range_with_len (1 + n) m) → flat_map g (filter test (0 ∷ (range_with_len 1 n ++ range_with_len (1 + n) m))) ≡ flat_map (λ x. cond (test x) (g x) []) (range_with_len 1 n)
flat-middle g test n m first last =
    let h : ℕ → List ℕ = λ x. cond (test x) (g x) [] in
    flat-kept g test (0 ∷ (range_with_len 1 n ++ range_with_len (1 + n) m))
    ∙ (ap (λ l. l ++ flat_map h (range_with_len 1 n ++ range_with_len (1 + n) m)) (cond-false (test 0) (g 0) [] first)
    ∙ (flat_map-append h (range_with_len 1 n) (range_with_len (1 + n) m)
    ∙ (ap (λ l. flat_map h (range_with_len 1 n) ++ l) (flat-none g test (range_with_len (1 + n) m) last) ∙ append-nil (flat_map h (range_with_len 1 n)))))

passes : (z : ℕ) (d : Directory) (numbers : List ℕ) (k mini long : ℕ) (slots : List Slot) → AllByRecursion (λ x. member x numbers ≡ true) (range_with_len k (length slots)) → AreSlotted z d k mini long slots → Passes (λ id. member id numbers && eqb (d.entry id).kind 2) k slots
passes z d numbers k mini long [] there h = tt
passes z d numbers k mini long (s ∷ slots) there h =
    (rw (there.0) (ap (λ (e : Entry). eqb e.kind 2) h.0), passes z d numbers (k + 1) (mini_next mini s) (long_next z long s) slots there.1 h.1)

all-there : (numbers : List ℕ) (n : ℕ) → ((x : ℕ) → member x numbers ≡ member x (range_with_len 1 n)) → (k m : ℕ) → 1 ≤ k → k + m ≤ 1 + n → AllByRecursion (λ x. member x numbers ≡ true) (range_with_len k m)
all-there numbers n same k zero low high = tt
all-there numbers n same k (suc m) low high = (same k ∙ in_range k 1 n low (omega (arith, high)), all-there numbers n same (k + 1) m (omega (arith, low)) (omega (arith, high)))

none-passes : (d : Directory) (numbers : List ℕ) (n : ℕ) → ((x : ℕ) → member x numbers ≡ member x (range_with_len 1 n)) → (k m : ℕ) → 1 + n ≤ k → AllByRecursion (λ x. (member x numbers && eqb (d.entry x).kind 2) ≡ false) (range_with_len k m)
none-passes d numbers n same k zero low = tt
none-passes d numbers n same k (suc m) low =
    (rw (same k, member-below (range_with_len 1 n) (1 + n) k (range-below 1 n (1 + n) (omega arith)) low) refl, none-passes d numbers n same (k + 1) m (omega (arith, low)))

streams-kept : (z : ℕ) (b : List ℕ) (s : Loaded) (d : Directory) (f : ℕ → List ℕ) (test : ℕ → Bool) (k : ℕ) (slots : List Slot) → AreRead z b s d f k slots → AllByRecursion (λ id. test id ≡ true → IsStream z b s (d.entry id) (f id)) (range_with_len k (length slots))
streams-kept z b s d f test k [] h = tt
streams-kept z b s d f test k (x ∷ slots) h = (λ kept. h.0.stream, streams-kept z b s d f test (k + 1) slots h.1)

never-kept : (P : ℕ → Type 0) (test : ℕ → Bool) (xs : List ℕ) → AllByRecursion (λ x. test x ≡ false) xs → AllByRecursion (λ x. test x ≡ true → P x) xs
never-kept P test [] h = tt
never-kept P test (x ∷ xs) h = (λ kept. absurd (differ (sym h.0 ∙ kept)), never-kept P test xs h.1)
  where
    differ : false ≡ true → ⊥
    differ e = absurd (cc)

read-split : (z : ℕ) (b : List ℕ) (s : Loaded) (d : Directory) (f : ℕ → List ℕ) (k to : ℕ) (xs ys : List Slot) → to ≡ k + length xs → AreRead z b s d f k (xs ++ ys) → AreRead z b s d f k xs × AreRead z b s d f to ys
read-split z b s d f k to [] ys is h = (tt, subst (λ j. AreRead z b s d f j ys) (omega (arith, is)) h)
read-split z b s d f k to (x ∷ xs) ys is h = let more = read-split z b s d f (k + 1) to xs ys (omega (arith, is)) h.1 in ((h.0, more.0), more.1)

have-bytes : (z : ℕ) (b : List ℕ) (s : Loaded) (d : Directory) (f : ℕ → List ℕ) (n : ℕ) (ls : List (ℕ × ℕ)) (files : FileTree) → AreRead z b s d f n (slots_from n ls files) → HaveBytes (λ id. stream_of z b s (d.entry id) (f id)) n files
have-bytes z b s d f n ls trees.no_file h = tt
have-bytes z b s d f n ls (trees.stream name bytes others) h = (h.0.bytes, have-bytes z b s d f (n + 1) (drop 1 ls) others h.1)
have-bytes z b s d f n ls (trees.storage name class inside others) h =
    let links = links_of_siblings (sibling_numbers (n + 1) inside) in
    let split = read-split z b s d f (n + 1) (n + 1 + entries_in inside) (slots_from (n + 1) links inside) (slots_from (n + 1 + entries_in inside) (drop 1 ls) others) (ap (λ k. n + 1 + k) (sym (slots-many (n + 1) links inside))) h.1 in
    (have-bytes z b s d f (n + 1) links inside split.0, have-bytes z b s d f (n + 1 + entries_in inside) (drop 1 ls) others split.1)

-- ---- the whole

-- a plan and its parts
pub record IsWritten (z : ℕ) (p : Plan) (class : List ℕ) (files : FileTree) (b : List ℕ) : Type 0 where
  pub parts : AreParts z p (root_slot class files ∷ other_slots files) b
  pub plan : IsPlan z p (root_slot class files ∷ other_slots files)
  pub small : IsSmall z p
  pub root : IsSlot (root_slot class files)
  pub others : AllByRecursion IsGood (other_slots files)

-- what is known of its entries
pub record AreKnown (z : ℕ) (p : Plan) (class : List ℕ) (files : FileTree) (b : List ℕ) : Type 0 where
  pub slotted : AreSlotted z (dir z p b) 1 0 (long_start p) (other_slots files)
  pub shown : AreShown (dir z p b) 1 (other_slots files)
  pub read : AreRead z b (laid_loaded z p (root_slot class files ∷ other_slots files)) (dir z p b) (chains_from z 1 0 (long_start p) (other_slots files)) 1 (other_slots files)
  pub count : (dir z p b).count ≡ z / 128 * p.sizes.directory
  pub room : 1 + length (other_slots files) ≤ z / 128 * p.sizes.directory
  pub short : short_sum (other_slots files) ≡ p.sizes.mini_sectors
  pub long : long_sum z (other_slots files) ≡ p.sizes.long

pub known : (z : ℕ) (v : SizeOf z) (p : Plan) (class : List ℕ) (files : FileTree) (b : List ℕ) → IsWritten z p class files b → AreKnown z p class files b
known z v p class files b w =
    let root = root_slot class files in
    let others = other_slots files in
    let slots = root ∷ others in
    let is = w.parts in
    let plan = w.plan in
    let at = sector_start z (directory_start p) in
    let short : short_sum others ≡ p.sizes.mini_sectors = sym (plan.mini_sectors ∙ short-sum others) in
    let long : long_sum z others ≡ p.sizes.long = sym (plan.long ∙ long-sum z others) in
    let front = lies-front b at (directory_slots z p slots) (flat_map (λ k. unused_slot) (range_with_len 0 (z / 128 * p.sizes.directory - length slots))) is.directory in
    let size = slot-length root (Rattle.carrier_model.specs.Layout.start_or_end p.sizes.mini_sectors (mini_stream_start p)) (64 * p.sizes.mini_sectors) w.root.fit in
    let place : at + 128 * 1 ≡ at + length (root_bytes p root) = ap (λ k. at + k) (sym size) in
    let behind = lies-back b at (at + 128 * 1) (root_bytes p root) (slots_bytes z 0 (long_start p) others) place front in
    let entries = entries-lie z b (at + 128 * 1) 0 (long_start p) others w.others (omega (arith, short, mini_room z v p slots plan, w.small.bytes)) (omega (arith, long, w.small.sectors)) behind in
    let room : 1 + length others ≤ z / 128 * p.sizes.directory = omega (arith, entry_room z v p slots plan) in
    let count : (dir z p b).count ≡ z / 128 * p.sizes.directory = ap (λ k. z / 128 * k) (length-range_with_len (directory_start p) p.sizes.directory) in
    let s = slotted z v p b 1 0 (long_start p) others room entries in
    let M = mini_table_of z p slots in
    let T = table_of z p slots in
    let ms = sector_start z (mini_stream_start p) in
    let laid = streams-laid z v M T b 0 (ms + 64 * 0) (long_start p) (sector_start z (long_start p)) others
    (record {
      words = lies-front M 0 (stream_words 64 0 (short_streams others)) _ (lies-whole M);
      bytes = subst (λ o. Lies b o (flat_map (filled 64) (short_streams others))) (omega arith) (lies-front b ms (flat_map (filled 64) (short_streams others)) _ is.mini_stream);
    })
    (record { words = (runs_lie z p slots).long; bytes = is.long }) in
    record {
      slotted = s;
      shown = shown z (dir z p b) 1 0 (long_start p) others (omega (arith, room, count)) s;
      read = slots-read z v p slots b (dir z p b) (chains_from z 1 0 (long_start p) others) 1 0 (long_start p) others is plan w.others (omega (arith, short)) (omega (arith, long)) laid s (chains-are z 1 0 (long_start p) others);
      count = count;
      room = room;
      short = short;
      long = long;
    }

-- how the entries are linked
abbrev pub laid_links : FileTree → Links
laid_links files = balanced (length (items_from 1 files)) (items_from 1 files)

laid-numbers : (files : FileTree) → IsPermutation (ids (laid_links files)) (range_with_len 1 (length (other_slots files)))
laid-numbers files =
    let items = items_from 1 files in
    let many = slots-many 1 (links_of_siblings (sibling_numbers 1 files)) files in
    subst (λ k. IsPermutation (ids (laid_links files)) (range_with_len 1 k)) (sym many)
    (IsPermutation-trans (ids (laid_links files)) (all_ids items) (range_with_len 1 (entries_in files)) (balanced-ids (length items) items (omega arith)) (files-ids 1 files))

laid-once : (files : FileTree) → IsDistinct eqb (0 ∷ ids (laid_links files))
laid-once files =
    let n = length (other_slots files) in
    IsDistinct-IsPermutation eqb nat_eq_equiv.symm (0 ∷ range_with_len 1 n) (0 ∷ ids (laid_links files))
    (IsPermutation-cons 0 (range_with_len 1 n) (ids (laid_links files)) (IsPermutation-sym (ids (laid_links files)) (range_with_len 1 n) (laid-numbers files)))
    (range-distinct 0 (suc n))

laid-linked : (z : ℕ) (v : SizeOf z) (p : Plan) (class : List ℕ) (files : FileTree) (b : List ℕ) → IsWritten z p class files b → AreKnown z p class files b → MayBeWrittenAt 1 files → Linked (dir z p b) 1 ((dir z p b).entry 0).child (laid_links files)
laid-linked z v p class files b w k may =
    let items = items_from 1 files in
    let links = links_of_siblings (sibling_numbers 1 files) in
    let rooted = root-read z v p (root_slot class files) (other_slots files) b w.parts w.plan w.small w.root in
    let top : ((dir z p b).entry 0).child ≡ top_of (sibling_numbers 1 files) = ap (λ (e : Entry). e.child) rooted in
    let same = links-are 1 files in
    let inner = files-linked (dir z p b) 1 1 (item_links (length items) items) files (item_links-length (length items) items (omega arith))
    (subst (λ (l : List (ℕ × ℕ)). AreShown (dir z p b) 1 (slots_from 1 l files)) same k.shown) may in
    subst (λ x. Linked (dir z p b) 1 x (laid_links files)) (sym (top ∙ ap top_of (sym (numbers-are 1 files)))) (balanced-linked (length items) (dir z p b) 1 items (omega arith) inner)

-- what of the entries' chains is taken
pub record AreTaken (z : ℕ) (p : Plan) (class : List ℕ) (files : FileTree) (b : List ℕ) : Type 0 where
  pub streams : AllByRecursion (λ id. IsStream z b (laid_loaded z p (root_slot class files ∷ other_slots files)) ((dir z p b).entry id) (chains_from z 1 0 (long_start p) (other_slots files) id)) (stream_ids (dir z p b) (laid_links files))
  pub long : taken_long (dir z p b) (chains_from z 1 0 (long_start p) (other_slots files)) (stream_ids (dir z p b) (laid_links files)) ≡ range_with_len (long_start p) (long_sum z (other_slots files))
  pub short : taken_short (dir z p b) (chains_from z 1 0 (long_start p) (other_slots files)) (stream_ids (dir z p b) (laid_links files)) ≡ range_with_len 0 (short_sum (other_slots files))

pub taken : (z : ℕ) (v : SizeOf z) (p : Plan) (class : List ℕ) (files : FileTree) (b : List ℕ) → IsWritten z p class files b → AreKnown z p class files b → AreTaken z p class files b
taken z v p class files b w k =
    let d = dir z p b in
    let others = other_slots files in
    let s = laid_loaded z p (root_slot class files ∷ others) in
    let f = chains_from z 1 0 (long_start p) others in
    let t = laid_links files in
    let n = length others in
    let m = d.count - (1 + n) in
    let perm = laid-numbers files in
    let same : (x : ℕ) → member x (ids t) ≡ member x (range_with_len 1 n) = λ x. list_any-IsPermutation (eqb x) (ids t) (range_with_len 1 n) perm in
    let test : ℕ → Bool = λ id. member id (ids t) && eqb (d.entry id).kind 2 in
    let whole : d.count ≡ suc (n + m) = omega (arith, k.room, k.count) in
    let range : range_with_len 0 d.count ≡ 0 ∷ (range_with_len 1 n ++ range_with_len (1 + n) m) = ap (range_with_len 0) whole ∙ ap (λ (l : List ℕ). 0 ∷ l) (range-append 1 n m) in
    let first : test 0 ≡ false = rw (same 0, not-in_range 0 1 n (omega arith)) refl in
    let last : AllByRecursion (λ x. test x ≡ false) (range_with_len (1 + n) m) = none-passes d (ids t) n same (1 + n) m (omega arith) in
    let pass : Passes test 1 others = passes z d (ids t) 1 0 (long_start p) others (all-there (ids t) n same 1 n (omega arith) (omega arith)) k.slotted in
    let P : ℕ → Type 0 = λ id. IsStream z b s (d.entry id) (f id) in
    record {
      streams = all-kept P test (range_with_len 0 d.count)
          (subst (λ (l : List ℕ). AllByRecursion (λ x. test x ≡ true → P x) l) (sym range)
          ((never-kept P test (0 ∷ []) (first, tt)).0, each-append (λ x. test x ≡ true → P x) (range_with_len 1 n) (range_with_len (1 + n) m) (streams-kept z b s d f test 1 others k.read) (never-kept P test (range_with_len (1 + n) m) last)));
      long = ap (λ (l : List ℕ). flat_map (λ id. long_part (d.entry id) (f id)) (filter test l)) range
          ∙ (flat-middle (λ id. long_part (d.entry id) (f id)) test n m first last
          ∙ long-parts z d f test 1 0 (long_start p) others w.others k.slotted (chains-are z 1 0 (long_start p) others) pass);
      short = ap (λ (l : List ℕ). flat_map (λ id. short_part (d.entry id) (f id)) (filter test l)) range
          ∙ (flat-middle (λ id. short_part (d.entry id) (f id)) test n m first last
          ∙ short-parts z d f test 1 0 (long_start p) others w.others k.slotted (chains-are z 1 0 (long_start p) others) pass);
    }

-- the files that are found
abbrev pub found_files : ℕ → Plan → List ℕ → FileTree → List ℕ → Files
found_files z p class files b = files_of z b (laid_loaded z p (root_slot class files ∷ other_slots files)) (chains_from z 1 0 (long_start p) (other_slots files)) (laid_links files)

laid-tree : (z : ℕ) (p : Plan) (class : List ℕ) (files : FileTree) (b : List ℕ) → AreKnown z p class files b → MayBeWrittenAt 1 files → IsTreeOf (found_files z p class files b).children files
laid-tree z p class files b k may =
    let d = dir z p b in
    let items = items_from 1 files in
    let s = laid_loaded z p (root_slot class files ∷ other_slots files) in
    let f = chains_from z 1 0 (long_start p) (other_slots files) in
    let links = links_of_siblings (sibling_numbers 1 files) in
    let streams : ℕ → Stream = λ id. stream_of z b s (d.entry id) (f id) in
    subst (λ c. IsTreeOf c files) (sym (balanced-tree (length items) d streams items none (omega arith)))
    (files-tree d streams 1 1 links files k.shown may (have-bytes z b s d f 1 links files k.read))

pub written_holds : (z : ℕ) (v : SizeOf z) (p : Plan) (class : List ℕ) (files : FileTree) (b : List ℕ) → IsWritten z p class files b → MayBeWritten files → Holds z b (found_files z p class files b) × ((found_files z p class files b).class ≡ class) × (bare (found_files z p class files b).children ≡ files)
written_holds z v p class files b w may =
    let k = known z v p class files b w in
    let x = taken z v p class files b w k in
    let slots = root_slot class files ∷ other_slots files in
    let tree = laid-tree z p class files b k may.1 in
    let rises = rises-on (taken_by (laid_loaded z p slots)) (long_start p) (long_sum z (other_slots files)) (long_start p + long_sum z (other_slots files)) refl (laid-rises z p slots) in (
      record {
        loaded = laid_loaded z p slots;
        tables = loads z v p (root_slot class files) (other_slots files) b w.parts w.plan w.small w.root refl;
        links = laid_links files;
        linked = laid-linked z v p class files b w k may.1;
        once = laid-once files;
        chain = chains_from z 1 0 (long_start p) (other_slots files);
        streams = x.streams;
        apart = subst (λ (l : List ℕ). IsDistinct eqb (taken_by (laid_loaded z p slots) ++ l)) (sym x.long) rises.distinct;
        mini_apart = subst (λ (l : List ℕ). IsDistinct eqb l) (sym x.short) (range-distinct 0 (short_sum (other_slots files)));
        is_tree = refl;
        root_names = subst AreApart (sym tree.names) may.0;
        names = tree.have;
      },
      ap (λ (e : Entry). e.class) (root-read z v p (root_slot class files) (other_slots files) b w.parts w.plan w.small w.root),
      tree.same,
    )

-- the plan of such a tree
abbrev pub laid_plan : ℕ → List ℕ → FileTree → Plan
laid_plan z class files = plan_of z (slots_of class files)

pub is-plan : (z : ℕ) (v : SizeOf z) (class : List ℕ) (files : FileTree) → length class ≡ 16 → MayBeWrittenAt 1 files → IsPlan z (laid_plan z class files) (root_slot class files ∷ other_slots files)
is-plan z v class files whole may = record {
  fits = (record { name = omega arith; class = whole }, slots-fit 1 1 (links_of_siblings (sibling_numbers 1 files)) files may);
  directory = refl;
  mini_sectors = refl;
  mini_fat = refl;
  mini_stream = refl;
  long = refl;
  difat = refl;
  enough = fat-suffices z v (rest_of (sizes_of z (slots_of class files)));
}

pub is-written : (z : ℕ) (v : SizeOf z) (class : List ℕ) (files : FileTree) → length class ≡ 16 → MayBeWrittenAt 1 files → length (file_bytes z (laid_plan z class files) (slots_of class files)) ≤ 268435456 → IsWritten z (laid_plan z class files) class files (file_bytes z (laid_plan z class files) (slots_of class files))
is-written z v class files whole may short =
    let p = laid_plan z class files in
    let slots = root_slot class files ∷ other_slots files in
    let plan = is-plan z v class files whole may in
    let parts = parts_lie z v p slots plan in
    written p parts plan (omega (arith, short, parts.size))
  where
    written : (p : Plan) → AreParts z p (root_slot class files ∷ other_slots files) (file_bytes z (laid_plan z class files) (slots_of class files)) → IsPlan z p (root_slot class files ∷ other_slots files) → z * (1 + (p.fat + p.difat + rest_of p.sizes)) ≤ 268435456 → IsWritten z p class files (file_bytes z (laid_plan z class files) (slots_of class files))
    written p parts plan small_bytes =
        let many = slots-many 1 (links_of_siblings (sibling_numbers 1 files)) files in
        let small : 1 + entries_in files ≤ 2 ^ 32 = omega (arith, many, small_bytes, entry_room z v p (root_slot class files ∷ other_slots files) plan, all_entries z v p.sizes.directory) in
        record {
          parts = parts;
          plan = plan;
          small = record { sectors = sectors_few z v (p.fat + p.difat + rest_of p.sizes) small_bytes; bytes = small_bytes };
          root = root-good class files whole small;
          others = slots-good 1 1 (links_of_siblings (sibling_numbers 1 files)) files (sides-small (length (sibling_numbers 1 files)) (sibling_numbers 1 files) (numbers-small 1 files small)) small may;
        }

-- what is laid out of a sorted tree is held
pub laid_holds : (z : ℕ) (v : SizeOf z) (class : List ℕ) (files : FileTree) → length class ≡ 16 → MayBeWritten files → let b = file_bytes z (laid_plan z class files) (slots_of class files) in let found = found_files z (laid_plan z class files) class files b in length b ≤ 268435456 → Holds z b found × (found.class ≡ class) × (bare found.children ≡ files)
laid_holds z v class files whole may short = written_holds z v (laid_plan z class files) class files (file_bytes z (laid_plan z class files) (slots_of class files)) (is-written z v class files whole may.1 short) may
