-- The table of a file that is laid out, as it is read.
use Rattle.std.proofs.Common.{◌≡◌, ℕ, zero, suc, ◌+◌, ◌-◌, ◌*◌, ◌/◌, ◌%◌, ◌^◌, ◌<◌, ◌≤◌, List, [], ◌∷◌, ◌++◌, length, get_or, map, min, replicate, Bool, true, false, cond, eqb, refl, sym, ◌∙◌, ap, subst, arith, zero-add, inl, inr}
use Rattle.std.specs.List.{range_with_len, flat_map, IsDistinct, AllByRecursion}
use Rattle.std.proofs.lemmas.Bool.{ne_eqb, lt-ltb, le-ltb, cond-true, cond-false, or_from, cases_lt}
use Rattle.std.proofs.lemmas.List.{append_assoc, length-replicate, get_or_append_left, get_or_at, ext_get_or}
use Rattle.std.proofs.lemmas.List.FromFn.{length-range_with_len, get_or-range_with_len, length-map-range_with_len, get_or-map-range_with_len}
use Rattle.carrier_model.specs.Chains.{end_word, member}
use Rattle.carrier_model.specs.Holds.{difat_place, IsTable}
use Rattle.carrier_model.specs.Layout.{Slot, Plan, FREE, FAT_SECTOR, DIFAT_SECTOR, rest_of, words_bytes, run_words, stream_words, pieces, all_pieces, long_streams, table_of, difat_words, header_front, header_counts, directory_start, mini_fat_start, mini_stream_start, long_start, start_or_end}
use Rattle.carrier_model.specs.Loads.{Table}
use Rattle.carrier_model.specs.Sectors.{u32_of, sector_start, whole_count}
use Rattle.carrier_model.specs.Tables.{fat_place}
use Rattle.carrier_model.proofs.Apart.{distinct-append}
use Rattle.carrier_model.proofs.LaidBytes.{Lies, lies-front, lies-back, AreWords, word-lies}
use Rattle.carrier_model.proofs.LaidHeader.{counted, fields}
use Rattle.carrier_model.proofs.LaidParts.{joined, IsPlan, AreParts, inner_words, difat_words-length, table-length}
use Rattle.carrier_model.proofs.LaidTables.{words-length, run-length, table-lies}
use Rattle.carrier_model.proofs.TableLaws.{all-append}
use Rattle.carrier_model.proofs.Sizes.{SizeOf, words_fill, listed_few, listed_in, listed_at}

-- ---- rising numbers

pub range-other : (a n x : ℕ) → x < a → AllByRecursion (λ y. eqb x y ≡ false) (range_with_len a n)
range-other a zero x below = tt
range-other a (suc n) x below = (ne_eqb x a (λ e. absurd (omega (arith, e, below))), range-other (a + 1) n x (omega (arith, below)))

pub range-distinct : (a n : ℕ) → IsDistinct eqb (range_with_len a n)
unfolding IsDistinct
range-distinct a zero = tt
range-distinct a (suc n) = (range-other (a + 1) n a (omega arith), range-distinct (a + 1) n)

pub range-below : (a n b : ℕ) → a + n ≤ b → AllByRecursion (λ y. y < b) (range_with_len a n)
range-below a zero b fits = tt
range-below a (suc n) b fits = (omega (arith, fits), range-below (a + 1) n b (omega (arith, fits)))

-- a number before a range is not in it
pub not-in_range : (x a n : ℕ) → x < a → member x (range_with_len a n) ≡ false
not-in_range x a zero below = refl
not-in_range x a (suc n) below = or_from (eqb x a) (member x (range_with_len (a + 1) n)) (ne_eqb x a (λ e. absurd (omega (arith, e, below)))) (not-in_range x (a + 1) n (omega (arith, below)))

pub ranges-apart : (a m b n : ℕ) → b + n ≤ a → AllByRecursion (λ x. member x (range_with_len a m) ≡ false) (range_with_len b n)
ranges-apart a m b zero fits = tt
ranges-apart a m b (suc n) fits = (not-in_range b a m (omega (arith, fits)), ranges-apart a m (b + 1) n (omega (arith, fits)))

-- ---- words that fit

fit-append : (xs ys : List ℕ) → AreWords xs → AreWords ys → AreWords (xs ++ ys)
fit-append xs ys h k = all-append (λ w. w < 2 ^ 32) xs ys h k

pub fit-replicate : (n w : ℕ) → w < 2 ^ 32 → AreWords (replicate n w)
fit-replicate zero w h = tt
fit-replicate (suc n) w h = (h, fit-replicate n w h)

pub fit-range : (a n : ℕ) → a + n ≤ 2 ^ 32 → AreWords (range_with_len a n)
fit-range a n h = range-below a n (2 ^ 32) h

pub fit-run : (start n : ℕ) → start + n < 2 ^ 32 → AreWords (run_words start n)
fit-run start zero h = tt
fit-run start (suc zero) h = (omega arith, tt)
fit-run start (suc (suc n)) h = (omega (arith, h), fit-run (start + 1) (suc n) (omega (arith, h)))

pub fit-streams : (size start : ℕ) (xs : List (List ℕ)) → start + length (stream_words size start xs) < 2 ^ 32 → AreWords (stream_words size start xs)
fit-streams size start [] h = tt
fit-streams size start (x ∷ xs) h =
    let both = joined (run_words start (pieces size x)) (stream_words size (start + pieces size x) xs) (run-length start (pieces size x)) refl in
    fit-append (run_words start (pieces size x)) (stream_words size (start + pieces size x) xs) (fit-run start (pieces size x) (omega (arith, h, both))) (fit-streams size (start + pieces size x) xs (omega (arith, h, both)))

-- a file that is not too long
pub record IsSmall (z : ℕ) (p : Plan) : Type 0 where
  pub sectors : p.fat + p.difat + rest_of p.sizes < 524288
  pub bytes : z * (1 + (p.fat + p.difat + rest_of p.sizes)) ≤ 268435456

pub fit-table : (z : ℕ) (p : Plan) (slots : List Slot) → IsPlan z p slots → IsSmall z p → AreWords (table_of z p slots)
fit-table z p slots is small =
    let few = small.sectors in
    let e = stream_words z (long_start p) (long_streams slots) in
    let eh : length e ≡ all_pieces z (long_streams slots) = Rattle.carrier_model.proofs.LaidTables.streams-length z (long_start p) (long_streams slots) in
    let fe = fit-streams z (long_start p) (long_streams slots) (omega (arith, few, eh, is.long)) in
    let d = run_words (mini_stream_start p) p.sizes.mini_stream ++ e in
    let fd = fit-append (run_words (mini_stream_start p) p.sizes.mini_stream) e (fit-run (mini_stream_start p) p.sizes.mini_stream (omega (arith, few))) fe in
    let c = run_words (mini_fat_start p) p.sizes.mini_fat ++ d in
    let fc = fit-append (run_words (mini_fat_start p) p.sizes.mini_fat) d (fit-run (mini_fat_start p) p.sizes.mini_fat (omega (arith, few))) fd in
    let b = run_words (directory_start p) p.sizes.directory ++ c in
    let fb = fit-append (run_words (directory_start p) p.sizes.directory) c (fit-run (directory_start p) p.sizes.directory (omega (arith, few))) fc in
    let fa = fit-append (replicate p.difat DIFAT_SECTOR) b (fit-replicate p.difat DIFAT_SECTOR (omega arith)) fb in
    let fw = fit-append (replicate p.fat FAT_SECTOR) (replicate p.difat DIFAT_SECTOR ++ b) (fit-replicate p.fat FAT_SECTOR (omega arith)) fa in
    fit-append (inner_words z p slots) (replicate (z / 4 * p.fat - length (inner_words z p slots)) FREE) fw (fit-replicate (z / 4 * p.fat - length (inner_words z p slots)) FREE (omega arith))

-- ---- the list of the table's sectors

listed-length : (z : ℕ) (p : Plan) (k : ℕ) → length (range_with_len (109 + (z / 4 - 1) * k) (min (z / 4 - 1) (p.fat - (109 + (z / 4 - 1) * k)))) ≡ min (z / 4 - 1) (p.fat - (109 + (z / 4 - 1) * k))
listed-length z p k = length-range_with_len (109 + (z / 4 - 1) * k) (min (z / 4 - 1) (p.fat - (109 + (z / 4 - 1) * k)))

pub fit-difat : (z : ℕ) (v : SizeOf z) (p : Plan) (k : ℕ) → IsSmall z p → k < p.difat → AreWords (difat_words z p k)
fit-difat z v p k small below =
    let n = min (z / 4 - 1) (p.fat - (109 + (z / 4 - 1) * k)) in
    let listed = range_with_len (109 + (z / 4 - 1) * k) n in
    fit-append listed _ (fit-range (109 + (z / 4 - 1) * k) n (omega (arith, listed_few z v k (omega (arith, small.sectors, below)), small.sectors)))
    (fit-append (replicate (z / 4 - 1 - length listed) FREE) _ (fit-replicate (z / 4 - 1 - length listed) FREE (omega arith)) (either (eqb (k + 1) p.difat), tt))
  where
    either : (t : Bool) → cond t end_word (p.fat + k + 1) < 2 ^ 32
    either true = omega arith
    either false = omega (arith, small.sectors, below)

pub next-named : (z : ℕ) (p : Plan) (k : ℕ) → k + 1 < p.difat → get_or (difat_words z p k) (z / 4 - 1) 0 ≡ p.fat + k + 1
next-named z p k below =
    let n = min (z / 4 - 1) (p.fat - (109 + (z / 4 - 1) * k)) in
    let listed = range_with_len (109 + (z / 4 - 1) * k) n in
    let last = cond (eqb (k + 1) p.difat) end_word (p.fat + k + 1) in
    let front = listed ++ replicate (z / 4 - 1 - length listed) FREE in
    let long : length front ≡ z / 4 - 1 = joined listed (replicate (z / 4 - 1 - length listed) FREE) (listed-length z p k) (length-replicate (z / 4 - 1 - length listed) FREE ∙ ap (λ m. z / 4 - 1 - m) (listed-length z p k)) ∙ omega arith in
    ap (λ ws. get_or ws (z / 4 - 1) 0) (sym (append_assoc listed (replicate (z / 4 - 1 - length listed) FREE) (last ∷ [])))
    ∙ (get_or_at front last [] 0 (z / 4 - 1) long
    ∙ cond-false (eqb (k + 1) p.difat) end_word (p.fat + k + 1) (ne_eqb (k + 1) p.difat (λ e. absurd (omega (arith, e, below)))))

pub sector-listed : (z : ℕ) (p : Plan) (k j : ℕ) → j < z / 4 - 1 → 109 + (z / 4 - 1) * k + j < p.fat → get_or (difat_words z p k) j 0 ≡ 109 + (z / 4 - 1) * k + j
sector-listed z p k j few below =
    let n = min (z / 4 - 1) (p.fat - (109 + (z / 4 - 1) * k)) in
    let inside : j < n = omega (arith, few, below) in
    get_or_append_left (range_with_len (109 + (z / 4 - 1) * k) n) _ 0 j (omega (arith, inside, listed-length z p k))
    ∙ get_or-range_with_len (109 + (z / 4 - 1) * k) n j 0 inside

-- the words of the k-th of those sectors
pub block-lies : (z : ℕ) (v : SizeOf z) (b : List ℕ) (at first n k : ℕ) (f : ℕ → List ℕ) → ((i : ℕ) → length (f i) ≡ z / 4) → k < n → Lies b at (flat_map (λ i. words_bytes (f i)) (range_with_len first n)) → Lies b (at + z * k) (words_bytes (f (first + k)))
block-lies z v b at first zero k f each below l = absurd (omega (arith, below))
block-lies z v b at first (suc n) zero f each below l =
    let one = lies-front b at (words_bytes (f first)) (flat_map (λ i. words_bytes (f i)) (range_with_len (first + 1) n)) l in
    let same : first ≡ first + zero = omega arith in
    let here : at ≡ at + z * zero = omega arith in
    subst (λ i. Lies b (at + z * zero) (words_bytes (f i))) same (subst (λ o. Lies b o (words_bytes (f first))) here one)
block-lies z v b at first (suc n) (suc k) f each below l =
    let size : length (words_bytes (f first)) ≡ z = words-length (f first) ∙ (ap (λ m. 4 * m) (each first) ∙ (words_fill z v).0) in
    let rest = lies-back b at (at + z) (words_bytes (f first)) (flat_map (λ i. words_bytes (f i)) (range_with_len (first + 1) n)) (omega (arith, size)) l in
    let more = block-lies z v b (at + z) (first + 1) n k f each (omega (arith, below)) rest in
    let same : first + 1 + k ≡ first + suc k = omega arith in
    let here : at + z + z * k ≡ at + z * suc k = omega arith in
    subst (λ i. Lies b (at + z * suc k) (words_bytes (f i))) same (subst (λ o. Lies b o (words_bytes (f (first + 1 + k)))) here more)

pub difat-word : (z : ℕ) (v : SizeOf z) (p : Plan) (slots : List Slot) (b : List ℕ) (k j : ℕ) → AreParts z p slots b → IsSmall z p → k < p.difat → j < z / 4 → u32_of b (sector_start z (p.fat + k) + 4 * j) ≡ get_or (difat_words z p k) j 0
difat-word z v p slots b k j is small below few =
    let l = block-lies z v b (sector_start z p.fat) 0 p.difat k (difat_words z p) (difat_words-length z v p) below is.difat in
    let l2 : Lies b (sector_start z p.fat + z * k) (words_bytes (difat_words z p k)) = subst (λ i. Lies b (sector_start z p.fat + z * k) (words_bytes (difat_words z p i))) (omega arith) l in
    let at : sector_start z (p.fat + k) + 4 * j ≡ sector_start z p.fat + z * k + 4 * j = omega arith in
    ap (u32_of b) at ∙ word-lies b (sector_start z p.fat + z * k) j (difat_words z p k) (fit-difat z v p k small below) (omega (arith, few, difat_words-length z v p k)) l2

header-word : (z : ℕ) (p : Plan) (slots : List Slot) (b : List ℕ) (i : ℕ) → AreParts z p slots b → IsSmall z p → i < 109 → i < p.fat → u32_of b (76 + 4 * i) ≡ i
header-word z p slots b i is small few below =
    let ws = range_with_len 0 (min 109 p.fat) ++ replicate (109 - p.fat) FREE in
    let l = lies-back b 0 76 (header_front z ++ header_counts z p) (words_bytes ws ++ replicate (z - 512) 0) refl is.header in
    let long : length ws ≡ min 109 p.fat + (109 - p.fat) = joined (range_with_len 0 (min 109 p.fat)) (replicate (109 - p.fat) FREE) (length-range_with_len 0 (min 109 p.fat)) (length-replicate (109 - p.fat) FREE) in
    let fit = fit-append (range_with_len 0 (min 109 p.fat)) (replicate (109 - p.fat) FREE) (fit-range 0 (min 109 p.fat) (omega arith)) (fit-replicate (109 - p.fat) FREE (omega arith)) in
    word-lies b 76 i ws fit (omega (arith, long, few)) (lies-front b 76 (words_bytes ws) (replicate (z - 512) 0) l)
    ∙ (get_or_append_left (range_with_len 0 (min 109 p.fat)) (replicate (109 - p.fat) FREE) 0 i (omega (arith, few, below, length-range_with_len 0 (min 109 p.fat)))
    ∙ (get_or-range_with_len 0 (min 109 p.fat) i 0 (omega (arith, few, below)) ∙ omega arith))

difat-named : (z : ℕ) (v : SizeOf z) (p : Plan) (slots : List Slot) (b : List ℕ) → AreParts z p slots b → IsSmall z p → (i : ℕ) → i < p.difat → p.fat + i ≡ u32_of b (difat_place z (range_with_len p.fat p.difat) i)
difat-named z v p slots b is small zero below =
    let some : start_or_end p.difat p.fat ≡ p.fat = cond-false (eqb p.difat 0) end_word p.fat (ne_eqb p.difat 0 (λ e. absurd (omega (arith, e, below)))) in
    sym ((fields z p slots b (omega (arith, small.sectors)) is).3 ∙ (some ∙ omega arith))
difat-named z v p slots b is small (suc j) below =
    let L = range_with_len p.fat p.difat in
    let other : difat_place z L (suc j) ≡ sector_start z (get_or L (suc j - 1) 0) + (z - 4) = cond-false (eqb (suc j) 0) 68 _ (ne_eqb (suc j) 0 (λ e. absurd (omega (arith, e)))) in
    let index : suc j - 1 ≡ j = omega arith in
    let sector : get_or L (suc j - 1) 0 ≡ p.fat + j = ap (λ k. get_or L k 0) index ∙ get_or-range_with_len p.fat p.difat j 0 (omega (arith, below)) in
    let word = difat-word z v p slots b j (z / 4 - 1) is small (omega (arith, below)) (omega (arith, (words_fill z v).1)) in
    let named = next-named z p j (omega (arith, below)) in
    sym (ap (u32_of b) (other ∙ (ap (λ s. sector_start z s + (z - 4)) sector ∙ omega (arith, (words_fill z v).0, (words_fill z v).1))) ∙ (word ∙ (named ∙ omega arith)))

fat-named : (z : ℕ) (v : SizeOf z) (p : Plan) (slots : List Slot) (b : List ℕ) → AreParts z p slots b → IsPlan z p slots → IsSmall z p → (i : ℕ) → i < p.fat → u32_of b (fat_place z (range_with_len p.fat p.difat) i) ≡ i
fat-named z v p slots b is plan small i below =
    let L = range_with_len p.fat p.difat in
    elim (cases_lt i 109) [
      | inl few ↦
          ap (u32_of b) (cond-true _ (76 + 4 * i) (sector_start z (get_or L ((i - 109) / (z / 4 - 1)) 0) + 4 * ((i - 109) % (z / 4 - 1))) (lt-ltb i 109 few)) ∙ header-word z p slots b i is small few below
      | inr many ↦
          let k = (i - 109) / (z / 4 - 1) in
          let j = (i - 109) % (z / 4 - 1) in
          let there : k < p.difat = subst (λ n. k < n) (sym plan.difat) (listed_in z v i p.fat many below) in
          let whole : 109 + (z / 4 - 1) * k + j ≡ i = (listed_at z v i many).0 in
          let place : fat_place z L i ≡ sector_start z (p.fat + k) + 4 * j = cond-false _ (76 + 4 * i) (sector_start z (get_or L k 0) + 4 * j) (le-ltb i 109 many) ∙ ap (λ s. sector_start z s + 4 * j) (get_or-range_with_len p.fat p.difat k 0 there) in
          let j_few : j < z / 4 - 1 = (listed_at z v i many).1 in
          ap (u32_of b) place ∙ (difat-word z v p slots b k j is small there (omega (arith, j_few)) ∙ (sector-listed z p k j j_few (omega (arith, whole, below)) ∙ whole))
    ]

-- the table with the sectors that hold it
abbrev pub laid_table : ℕ → Plan → List Slot → Table
laid_table z p slots = record { sectors = range_with_len 0 p.fat; words = table_of z p slots }

pub table_reads : (z : ℕ) (v : SizeOf z) (p : Plan) (slots : List Slot) (b : List ℕ) → AreParts z p slots b → IsPlan z p slots → IsSmall z p → IsTable z b p.fat (range_with_len p.fat p.difat) (laid_table z p slots)
table_reads z v p slots b is plan small =
    let L = range_with_len p.fat p.difat in
    let A = range_with_len 0 p.fat in
    let n = counted z v b (p.fat + p.difat + rest_of p.sizes) is.size in
    record {
      difat_length = length-range_with_len p.fat p.difat ∙ plan.difat;
      difat_named = λ i below.
          let there : i < p.difat = omega (arith, below, length-range_with_len p.fat p.difat) in
          get_or-range_with_len p.fat p.difat i 0 there ∙ difat-named z v p slots b is small i there;
      named = ext_get_or 0 A (map (λ i. u32_of b (fat_place z L i)) (range_with_len 0 p.fat))
          (length-range_with_len 0 p.fat ∙ sym (length-map-range_with_len (λ i. u32_of b (fat_place z L i)) 0 p.fat))
          (λ i below.
          let there : i < p.fat = omega (arith, below, length-range_with_len 0 p.fat) in
          get_or-range_with_len 0 p.fat i 0 there ∙ (zero-add i ∙ (sym (fat-named z v p slots b is plan small i there) ∙ sym (get_or-map-range_with_len (λ i. u32_of b (fat_place z L i)) 0 p.fat i i 0 there (zero-add i)))));
      whole = all-append (λ k. k < whole_count z b) L A (range-below p.fat p.difat (whole_count z b) (omega (arith, n.1))) (range-below 0 p.fat (whole_count z b) (omega (arith, n.1)));
      apart = distinct-append L A (range-distinct p.fat p.difat) (range-distinct 0 p.fat) (ranges-apart p.fat p.difat 0 p.fat (omega arith));
      words = sym (table-lies z v b 0 p.fat (table_of z p slots) (fit-table z p slots plan small) (table-length z p slots plan) is.table);
    }
