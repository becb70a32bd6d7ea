-- The chains and the bytes of streams that are laid out, as they are read.
use Rattle.std.proofs.Common.{◌≡◌, ℕ, ◌+◌, ◌*◌, ◌/◌, ◌%◌, ◌<◌, ◌≤◌, List, [], ◌∷◌, ◌++◌, length, get_or, map, Bool, true, false, ◌&&◌, cond, eqb, leb, ltb, refl, sym, ◌∙◌, ap, subst, arith, ◌⊎◌, inl, inr, zero-add}
use Rattle.std.specs.Int.{div_ceil}
use Rattle.std.specs.List.{range_with_len, flat_map, AllByRecursion}
use Rattle.std.proofs.lemmas.Bool.{ne_eqb, eq-eqb, cond-true, cond-false, cases_Bool, leb-true, leb-false, le-leb, lt-leb, ltb-true, lt-ltb, le-ltb, and_parts}
use Rattle.std.proofs.lemmas.List.{ext_get_or}
use Rattle.std.proofs.lemmas.List.FromFn.{length-range_with_len, get_or-range_with_len, length-map-range_with_len, get_or-map-range_with_len}
use Rattle.std.proofs.Math.Nat.{mul-le-mul_left}
use Rattle.carrier_model.specs.Chains.{Chain}
use Rattle.carrier_model.specs.Entries.{Entry}
use Rattle.carrier_model.specs.Holds.{IsStream}
use Rattle.carrier_model.specs.Layout.{Slot, Plan, rest_of, pieces, is_short, is_long, table_of, mini_table_of, start_of_slot, mini_stream_start}
use Rattle.carrier_model.specs.Links.{Directory}
use Rattle.carrier_model.specs.Loads.{Loaded, chain_bound, mini_bound, stream_of, long_stream, short_stream, long_part, short_part}
use Rattle.carrier_model.specs.Sectors.{sector_start}
use Rattle.carrier_model.specs.Streams.{Stream, place_in, places_of, starts_of, mini_offsets, mini_starts, content}
use Rattle.carrier_model.proofs.LaidBytes.{Lies, bytes-lie}
use Rattle.carrier_model.proofs.LaidChains.{run-chain, bound-is}
use Rattle.carrier_model.proofs.LaidEntries.{entry_of_slot}
use Rattle.carrier_model.proofs.LaidLoaded.{run-place, run-within, laid_mini, laid_loaded}
use Rattle.carrier_model.proofs.LaidParts.{IsPlan, AreParts, mini_table-length, mini_words, mini_room}
use Rattle.carrier_model.proofs.LaidStreams.{Stands, IsGood, short_need, long_need, short_sum, long_sum, mini_next, long_next, mini_next-is, long_next-is, AreLaid}
use Rattle.carrier_model.proofs.PlaceLaws.{places-from, range-append}
use Rattle.carrier_model.proofs.Sizes.{SizeOf, ceil_holds, ceil_some}

-- places one after another
pub places-rise : (f : ℕ → ℕ) (at n : ℕ) → ((k : ℕ) → k < n → f k ≡ at + k) → map f (range_with_len 0 n) ≡ range_with_len at n
places-rise f at n h =
    ext_get_or 0 _ _ (length-map-range_with_len f 0 n ∙ sym (length-range_with_len at n))
    (λ i below.
    let inside : i < n = rw (length-map-range_with_len f 0 n) at below in
    get_or-map-range_with_len f 0 n i i 0 inside (zero-add i) ∙ (h i inside ∙ sym (get_or-range_with_len at n i 0 inside)))

-- a stream in sectors of its own
pub long-bytes : (z : ℕ) (v : SizeOf z) (b : List ℕ) (s n : ℕ) (x : List ℕ) → length x ≤ z * n → Lies b (sector_start z s) x → content b (places_of z (starts_of z (range_with_len s n)) (length x)) ≡ x
long-bytes z v b s n x fits l =
    ap (content b) (places-rise (place_in z (starts_of z (range_with_len s n))) (sector_start z s) (length x) (λ k below. run-place z v s n k (omega (arith, below, fits))))
    ∙ bytes-lie b (sector_start z s) x l

-- mini sectors in a row, by their places in the mini stream and in the file
pub mini-offset : (m n k : ℕ) → k < 64 * n → place_in 64 (mini_offsets (range_with_len m n)) k ≡ 64 * m + k
mini-offset m n k below =
    let there : k / 64 < n = omega (arith, below) in
    ap (λ j. j + k % 64) (get_or-map-range_with_len (λ j. 64 * j) m n (k / 64) (m + k / 64) 0 there refl) ∙ omega arith

pub mini-place : (z : ℕ) (v : SizeOf z) (ms many m n k : ℕ) → k < 64 * n → 64 * (m + n) ≤ z * many → place_in 64 (mini_starts z (starts_of z (range_with_len ms many)) (range_with_len m n)) k ≡ sector_start z ms + 64 * m + k
mini-place z v ms many m n k below fits =
    let there : k / 64 < n = omega (arith, below) in
    let starts = starts_of z (range_with_len ms many) in
    let one : get_or (mini_starts z starts (range_with_len m n)) (k / 64) 0 ≡ place_in z starts (64 * (m + k / 64)) =
    ap (λ l. get_or l (k / 64) 0) (map-map (λ j. 64 * j) (place_in z starts) (range_with_len m n))
    ∙ get_or-map-range_with_len (λ j. place_in z starts (64 * j)) m n (k / 64) (m + k / 64) 0 there refl in
    ap (λ j. j + k % 64) (one ∙ run-place z v ms many (64 * (m + k / 64)) (omega (arith, there, fits))) ∙ omega arith
  where
    map-map : (f g : ℕ → ℕ) (xs : List ℕ) → map g (map f xs) ≡ map (λ k. g (f k)) xs
    map-map f g [] = refl
    map-map f g (x ∷ xs) = ap (λ ys. g (f x) ∷ ys) (map-map f g xs)

pub mini-bytes : (z : ℕ) (v : SizeOf z) (b : List ℕ) (ms many m n : ℕ) (x : List ℕ) → length x ≤ 64 * n → 64 * (m + n) ≤ z * many → Lies b (sector_start z ms + 64 * m) x → content b (places_of 64 (mini_starts z (starts_of z (range_with_len ms many)) (range_with_len m n)) (length x)) ≡ x
mini-bytes z v b ms many m n x fits room l =
    ap (content b) (places-rise (place_in 64 (mini_starts z (starts_of z (range_with_len ms many)) (range_with_len m n))) (sector_start z ms + 64 * m) (length x) (λ k below. mini-place z v ms many m n k (omega (arith, below, fits)) room))
    ∙ bytes-lie b (sector_start z ms + 64 * m) x l

-- ---- one stream

-- its chain, where the next short one and the next long one begin there
abbrev pub laid_chain : ℕ → ℕ → ℕ → List ℕ → List ℕ
laid_chain z mini long x = cond (is_short x) (range_with_len mini (pieces 64 x)) (cond (is_long x) (range_with_len long (pieces z x)) [])

-- what is read of a stream of an entry with this chain
pub record IsRead (z : ℕ) (b : List ℕ) (s : Loaded) (e : Entry) (c x : List ℕ) : Type 0 where
  pub stream : IsStream z b s e c
  pub bytes : (stream_of z b s e c).bytes ≡ x

short-size : (x : List ℕ) → is_short x ≡ true → (0 < length x) × (length x < 4096)
short-size x h = let p = and_parts (ltb 0 (length x)) (ltb (length x) 4096) h in (ltb-true 0 (length x) p.0, ltb-true (length x) 4096 p.1)

pub short-read : (z : ℕ) (v : SizeOf z) (p : Plan) (slots : List Slot) (b : List ℕ) (e : Entry) (mini : ℕ) (x : List ℕ) → AreParts z p slots b → IsPlan z p slots → is_short x ≡ true → e.start ≡ mini → e.size ≡ length x → mini + pieces 64 x ≤ p.sizes.mini_sectors → Stands 64 (mini_table_of z p slots) b mini (sector_start z (mini_stream_start p) + 64 * mini) x → IsRead z b (laid_loaded z p slots) e (range_with_len mini (pieces 64 x)) x
short-read z v p slots b e mini x is plan short start size fits stands =
    let s = short-size x short in
    let words = mini_table-length z v p slots plan in
    let bound : mini_bound (laid_mini z p slots) ≡ p.sizes.mini_sectors = omega (arith, words, mini_words z v p slots plan) in
    let chain = run-chain (pieces 64 x) (mini_table_of z p slots) mini (mini_bound (laid_mini z p slots)) (omega (arith, s.0)) (omega (arith, bound, fits)) stands.words in
    let small : leb 4096 e.size ≡ false = lt-leb 4096 e.size (omega (arith, s.1, size)) in
    record {
      stream = record {
        empty = λ none. absurd (omega (arith, none, size, s.0));
        short = λ some few. record {
          chain = subst (λ k. Chain (mini_table_of z p slots) k (mini_bound (laid_mini z p slots)) (range_with_len mini (pieces 64 x))) (sym start) chain;
          enough = omega (arith, size, length-range_with_len mini (pieces 64 x));
          within = places-from 64 (mini_offsets (range_with_len mini (pieces 64 x))) (64 * p.sizes.mini_sectors) e.size (λ k below. rw (mini-offset mini (pieces 64 x) k (omega (arith, below, size))) (omega (arith, below, size, fits)));
        };
        long = λ big. absurd (omega (arith, big, size, s.1));
      };
      bytes = ap (λ (t : Stream). t.bytes) (cond-false (leb 4096 e.size) (long_stream z b e.size (range_with_len mini (pieces 64 x))) (short_stream z b (laid_mini z p slots) e.size (range_with_len mini (pieces 64 x))) small)
          ∙ (ap (λ k. content b (places_of 64 (mini_starts z (starts_of z (range_with_len (mini_stream_start p) p.sizes.mini_stream)) (range_with_len mini (pieces 64 x))) k)) size
          ∙ mini-bytes z v b (mini_stream_start p) p.sizes.mini_stream mini (pieces 64 x) x (omega arith) (omega (arith, fits, mini_room z v p slots plan)) stands.bytes);
    }

pub long-read : (z : ℕ) (v : SizeOf z) (p : Plan) (slots : List Slot) (b : List ℕ) (e : Entry) (long : ℕ) (x : List ℕ) → AreParts z p slots b → IsPlan z p slots → is_long x ≡ true → e.start ≡ long → e.size ≡ length x → long + pieces z x ≤ p.fat + p.difat + rest_of p.sizes → Stands z (table_of z p slots) b long (sector_start z long) x → IsRead z b (laid_loaded z p slots) e (range_with_len long (pieces z x)) x
long-read z v p slots b e long x is plan big start size fits stands =
    let many = leb-true 4096 (length x) big in
    let bound = bound-is z v p slots b is plan in
    let chain = run-chain (pieces z x) (table_of z p slots) long (chain_bound z b (table_of z p slots)) (ceil_some z v (length x) (omega (arith, many))) (omega (arith, bound, fits)) stands.words in
    let large : leb 4096 e.size ≡ true = le-leb 4096 e.size (omega (arith, many, size)) in
    record {
      stream = record {
        empty = λ none. absurd (omega (arith, none, size, many));
        short = λ some few. absurd (omega (arith, few, size, many));
        long = λ h. record {
          chain = subst (λ k. Chain (table_of z p slots) k (chain_bound z b (table_of z p slots)) (range_with_len long (pieces z x))) (sym start) chain;
          enough = subst (λ n. div_ceil n z ≤ length (range_with_len long (pieces z x))) (sym size) (omega (arith, length-range_with_len long (pieces z x)));
          within = run-within z v b long (pieces z x) e.size (omega (arith, size, ceil_holds z v (length x))) (omega (arith, is.size, mul-le-mul_left z fits));
        };
      };
      bytes = ap (λ (t : Stream). t.bytes) (cond-true (leb 4096 e.size) (long_stream z b e.size (range_with_len long (pieces z x))) (short_stream z b (laid_mini z p slots) e.size (range_with_len long (pieces z x))) large)
          ∙ (ap (λ k. content b (places_of z (starts_of z (range_with_len long (pieces z x))) k)) size
          ∙ long-bytes z v b long (pieces z x) x (ceil_holds z v (length x)) stands.bytes);
    }

empty-size : (x : List ℕ) → is_short x ≡ false → is_long x ≡ false → length x ≡ 0
empty-size [] a b = refl
empty-size (y ∷ x) a b =
    let big = leb-false 4096 (length (y ∷ x)) b in
    let few : ltb (length (y ∷ x)) 4096 ≡ true = lt-ltb (length (y ∷ x)) 4096 big in
    let some : ltb 0 (length (y ∷ x)) ≡ true = lt-ltb 0 (length (y ∷ x)) (omega arith) in
    let both : is_short (y ∷ x) ≡ true = rw (some, few) refl in
    absurd (differ (sym a ∙ both))
  where
    differ : false ≡ true → ⊥
    differ e = absurd (cc)

nothing : (x : List ℕ) → length x ≡ 0 → x ≡ []
nothing [] h = refl
nothing (y ∷ x) h = absurd (omega (arith, h))

pub empty-read : (z : ℕ) (b : List ℕ) (s : Loaded) (e : Entry) (x : List ℕ) → is_short x ≡ false → is_long x ≡ false → e.size ≡ length x → IsRead z b s e [] x
empty-read z b s e x a c size =
    let none = empty-size x a c in
    let gone = nothing x none in
    let zero_size : e.size ≡ 0 = size ∙ none in
    record {
      stream = record {
        empty = λ h. refl;
        short = λ some few. absurd (omega (arith, some, zero_size));
        long = λ big. absurd (omega (arith, big, zero_size));
      };
      bytes = either (leb 4096 e.size) e.size zero_size ∙ sym gone;
    }
  where
    either : (t : Bool) (k : ℕ) → k ≡ 0 → (cond t (long_stream z b k []) (short_stream z b s.mini k [])).bytes ≡ []
    either true k h = rw h refl
    either false k h = rw h refl

-- the stream of an entry
pub slot-read : (z : ℕ) (v : SizeOf z) (p : Plan) (slots : List Slot) (b : List ℕ) (e : Entry) (mini long : ℕ) (s : Slot) → AreParts z p slots b → IsPlan z p slots → (s.kind ≡ 2) ⊎ ((s.kind ≡ 1) × (s.bytes ≡ [])) → e ≡ entry_of_slot s (start_of_slot mini long s) (length s.bytes) → mini + short_need s.bytes ≤ p.sizes.mini_sectors → long + long_need z s.bytes ≤ p.fat + p.difat + rest_of p.sizes
    → (is_short s.bytes ≡ true → Stands 64 (mini_table_of z p slots) b mini (sector_start z (mini_stream_start p) + 64 * mini) s.bytes)
    → (is_long s.bytes ≡ true → Stands z (table_of z p slots) b long (sector_start z long) s.bytes)
    → IsRead z b (laid_loaded z p slots) e (laid_chain z mini long s.bytes) s.bytes
slot-read z v p slots b e mini long s is plan (inr storage) entry mini_fits long_fits short_stands long_stands =
    let size : e.size ≡ length s.bytes = ap (λ (e : Entry). e.size) entry in
    let none : laid_chain z mini long s.bytes ≡ [] = ap (laid_chain z mini long) storage.1 in
    let a : is_short s.bytes ≡ false = ap is_short storage.1 in
    let c : is_long s.bytes ≡ false = ap is_long storage.1 in
    subst (λ k. IsRead z b (laid_loaded z p slots) e k s.bytes) (sym none) (empty-read z b (laid_loaded z p slots) e s.bytes a c size)
slot-read z v p slots b e mini long s is plan (inl stream) entry mini_fits long_fits short_stands long_stands =
    let size : e.size ≡ length s.bytes = ap (λ (e : Entry). e.size) entry in
    let begins : e.start ≡ cond (is_short s.bytes) mini (cond (is_long s.bytes) long 4294967294) = ap (λ (e : Entry). e.start) entry ∙ cond-false (eqb s.kind 1) 0 (cond (is_short s.bytes) mini (cond (is_long s.bytes) long 4294967294)) (rw stream refl) in
    elim (cases_Bool (is_short s.bytes)) [
      | inl short ↦
          let chain : laid_chain z mini long s.bytes ≡ range_with_len mini (pieces 64 s.bytes) = cond-true (is_short s.bytes) _ _ short in
          let need : short_need s.bytes ≡ pieces 64 s.bytes = cond-true (is_short s.bytes) _ _ short in
          subst (λ k. IsRead z b (laid_loaded z p slots) e k s.bytes) (sym chain)
          (short-read z v p slots b e mini s.bytes is plan short (begins ∙ cond-true (is_short s.bytes) _ _ short) size (omega (arith, mini_fits, need)) (short_stands short))
      | inr other ↦
          elim (cases_Bool (is_long s.bytes)) [
            | inl big ↦
                let chain : laid_chain z mini long s.bytes ≡ range_with_len long (pieces z s.bytes) = cond-false (is_short s.bytes) _ _ other ∙ cond-true (is_long s.bytes) _ _ big in
                let need : long_need z s.bytes ≡ pieces z s.bytes = cond-true (is_long s.bytes) _ _ big in
                subst (λ k. IsRead z b (laid_loaded z p slots) e k s.bytes) (sym chain)
                (long-read z v p slots b e long s.bytes is plan big (begins ∙ (cond-false (is_short s.bytes) _ _ other ∙ cond-true (is_long s.bytes) _ _ big)) size (omega (arith, long_fits, need)) (long_stands big))
            | inr neither ↦
                let chain : laid_chain z mini long s.bytes ≡ [] = cond-false (is_short s.bytes) _ _ other ∙ cond-false (is_long s.bytes) _ _ neither in
                subst (λ k. IsRead z b (laid_loaded z p slots) e k s.bytes) (sym chain) (empty-read z b (laid_loaded z p slots) e s.bytes other neither size)
          ]
    ]

-- ---- all streams

-- the chain of each entry from the k-th on
abbrev pub chains_from : ℕ → ℕ → ℕ → ℕ → List Slot → ℕ → List ℕ
chains_from z k mini long [] id = []
chains_from z k mini long (s ∷ slots) id = cond (eqb id k) (laid_chain z mini long s.bytes) (chains_from z (k + 1) (mini_next mini s) (long_next z long s) slots id)

abbrev pub HasChains : ℕ → (ℕ → List ℕ) → ℕ → ℕ → ℕ → List Slot → Type 0
HasChains z f k mini long [] = Unit {0}
HasChains z f k mini long (s ∷ slots) = (f k ≡ laid_chain z mini long s.bytes) × HasChains z f (k + 1) (mini_next mini s) (long_next z long s) slots

chains-same : (z : ℕ) (f g : ℕ → List ℕ) (k mini long : ℕ) (slots : List Slot) → ((i : ℕ) → k ≤ i → g i ≡ f i) → HasChains z f k mini long slots → HasChains z g k mini long slots
chains-same z f g k mini long [] same h = tt
chains-same z f g k mini long (s ∷ slots) same h = (same k (omega arith) ∙ h.0, chains-same z f g (k + 1) (mini_next mini s) (long_next z long s) slots (λ i above. same i (omega (arith, above))) h.1)

pub chains-are : (z : ℕ) (k mini long : ℕ) (slots : List Slot) → HasChains z (chains_from z k mini long slots) k mini long slots
chains-are z k mini long [] = tt
chains-are z k mini long (s ∷ slots) = (
  cond-true (eqb k k) _ _ (eq-eqb k k refl),
  chains-same z (chains_from z (k + 1) (mini_next mini s) (long_next z long s) slots) (chains_from z k mini long (s ∷ slots)) (k + 1) (mini_next mini s) (long_next z long s) slots
      (λ i above. cond-false (eqb i k) (laid_chain z mini long s.bytes) (chains_from z (k + 1) (mini_next mini s) (long_next z long s) slots i) (ne_eqb i k (λ e. absurd (omega (arith, e, above)))))
      (chains-are z (k + 1) (mini_next mini s) (long_next z long s) slots),
)

-- entries of a directory
abbrev pub AreSlotted : ℕ → Directory → ℕ → ℕ → ℕ → List Slot → Type 0
AreSlotted z d k mini long [] = Unit {0}
AreSlotted z d k mini long (s ∷ slots) = (d.entry k ≡ entry_of_slot s (start_of_slot mini long s) (length s.bytes)) × AreSlotted z d (k + 1) (mini_next mini s) (long_next z long s) slots

abbrev pub AreRead : ℕ → List ℕ → Loaded → Directory → (ℕ → List ℕ) → ℕ → List Slot → Type 0
AreRead z b s d f k [] = Unit {0}
AreRead z b s d f k (x ∷ slots) = IsRead z b s (d.entry k) (f k) x.bytes × AreRead z b s d f (k + 1) slots

pub slots-read : (z : ℕ) (v : SizeOf z) (p : Plan) (all : List Slot) (b : List ℕ) (d : Directory) (f : ℕ → List ℕ) (k mini long : ℕ) (slots : List Slot) → AreParts z p all b → IsPlan z p all → AllByRecursion IsGood slots → mini + short_sum slots ≤ p.sizes.mini_sectors → long + long_sum z slots ≤ p.fat + p.difat + rest_of p.sizes → AreLaid z (mini_table_of z p all) (table_of z p all) b mini (sector_start z (mini_stream_start p) + 64 * mini) long (sector_start z long) slots → AreSlotted z d k mini long slots → HasChains z f k mini long slots → AreRead z b (laid_loaded z p all) d f k slots
slots-read z v p all b d f k mini long [] is plan good m l laid slotted chains = tt
slots-read z v p all b d f k mini long (s ∷ slots) is plan good m l laid slotted chains =
    let m2 = mini_next-is mini s in
    let l2 = long_next-is z long s in
    let from : sector_start z (mini_stream_start p) + 64 * mini + 64 * short_need s.bytes ≡ sector_start z (mini_stream_start p) + 64 * mini_next mini s = omega (arith, m2) in
    let at : sector_start z long + z * long_need z s.bytes ≡ sector_start z (long_next z long s) = omega arith ∙ ap (sector_start z) (sym l2) in
    let rest = subst (λ o. AreLaid z (mini_table_of z p all) (table_of z p all) b (mini_next mini s) (sector_start z (mini_stream_start p) + 64 * mini_next mini s) (long_next z long s) o slots) at
    (subst (λ o. AreLaid z (mini_table_of z p all) (table_of z p all) b (mini_next mini s) o (long_next z long s) (sector_start z long + z * long_need z s.bytes) slots) from laid.2) in (
      subst (λ c. IsRead z b (laid_loaded z p all) (d.entry k) c s.bytes) (sym chains.0) (slot-read z v p all b (d.entry k) mini long s is plan good.0.kind slotted.0 (omega (arith, m)) (omega (arith, l)) laid.0 laid.1),
      slots-read z v p all b d f (k + 1) (mini_next mini s) (long_next z long s) slots is plan good.1 (omega (arith, m, m2)) (omega (arith, l, l2)) rest slotted.1 chains.1,
    )

-- ---- what the chains take

-- a test that streams pass, and storages don't
abbrev pub Passes : (ℕ → Bool) → ℕ → List Slot → Type 0
Passes test k [] = Unit {0}
Passes test k (s ∷ slots) = (test k ≡ eqb s.kind 2) × Passes test (k + 1) slots

never : (t : Bool) → (t && false) ≡ false
never true = refl
never false = refl

not-short : (x : List ℕ) → 4096 ≤ length x → is_short x ≡ false
not-short x many = rw (le-ltb (length x) 4096 many) (never (ltb 0 (length x)))

long-taken : (z : ℕ) (e : Entry) (mini long : ℕ) (x : List ℕ) → e.size ≡ length x → long_part e (laid_chain z mini long x) ≡ range_with_len long (long_need z x)
long-taken z e mini long x size =
    elim (cases_Bool (is_long x)) [
      | inl big ↦
          let many = leb-true 4096 (length x) big in
          let other : is_short x ≡ false = not-short x many in
          cond-true (leb 4096 e.size) _ _ (le-leb 4096 e.size (omega (arith, many, size)))
          ∙ (cond-false (is_short x) _ _ other ∙ (cond-true (is_long x) _ _ big ∙ ap (range_with_len long) (sym (cond-true (is_long x) (pieces z x) 0 big))))
      | inr little ↦
          let few = leb-false 4096 (length x) little in
          cond-false (leb 4096 e.size) _ _ (lt-leb 4096 e.size (omega (arith, few, size))) ∙ ap (range_with_len long) (sym (cond-false (is_long x) (pieces z x) 0 little))
    ]

short-taken : (z : ℕ) (e : Entry) (mini long : ℕ) (x : List ℕ) → e.size ≡ length x → short_part e (laid_chain z mini long x) ≡ range_with_len mini (short_need x)
short-taken z e mini long x size =
    elim (cases_Bool (is_long x)) [
      | inl big ↦
          let many = leb-true 4096 (length x) big in
          cond-true (leb 4096 e.size) _ _ (le-leb 4096 e.size (omega (arith, many, size))) ∙ ap (range_with_len mini) (sym (cond-false (is_short x) (pieces 64 x) 0 (not-short x many)))
      | inr little ↦
          let few = leb-false 4096 (length x) little in
          cond-false (leb 4096 e.size) _ _ (lt-leb 4096 e.size (omega (arith, few, size)))
          ∙ elim (cases_Bool (is_short x)) [
            | inl short ↦ cond-true (is_short x) _ _ short ∙ ap (range_with_len mini) (sym (cond-true (is_short x) (pieces 64 x) 0 short))
            | inr other ↦ cond-false (is_short x) _ _ other ∙ (cond-false (is_long x) _ _ little ∙ ap (range_with_len mini) (sym (cond-false (is_short x) (pieces 64 x) 0 other)))
          ]
    ]

pub long-parts : (z : ℕ) (d : Directory) (f : ℕ → List ℕ) (test : ℕ → Bool) (k mini long : ℕ) (slots : List Slot) → AllByRecursion IsGood slots → AreSlotted z d k mini long slots → HasChains z f k mini long slots → Passes test k slots → flat_map (λ id. cond (test id) (long_part (d.entry id) (f id)) []) (range_with_len k (length slots)) ≡ range_with_len long (long_sum z slots)
long-parts z d f test k mini long [] good slotted chains passes = refl
long-parts z d f test k mini long (s ∷ slots) good slotted chains passes =
    let rest = long-parts z d f test (k + 1) (mini_next mini s) (long_next z long s) slots good.1 slotted.1 chains.1 passes.1 in
    let one : cond (test k) (long_part (d.entry k) (f k)) [] ≡ range_with_len long (long_need z s.bytes) = taken good.0.kind in
    ap (λ l. l ++ flat_map (λ id. cond (test id) (long_part (d.entry id) (f id)) []) (range_with_len (k + 1) (length slots))) one
    ∙ (ap (λ l. range_with_len long (long_need z s.bytes) ++ l) (rest ∙ ap (λ a. range_with_len a (long_sum z slots)) (long_next-is z long s))
    ∙ sym (range-append long (long_need z s.bytes) (long_sum z slots)))
  where
    taken : (s.kind ≡ 2) ⊎ ((s.kind ≡ 1) × (s.bytes ≡ [])) → cond (test k) (long_part (d.entry k) (f k)) [] ≡ range_with_len long (long_need z s.bytes)
    taken (inl stream) = cond-true (test k) _ _ (passes.0 ∙ rw stream refl) ∙ (ap (long_part (d.entry k)) chains.0 ∙ long-taken z (d.entry k) mini long s.bytes (ap (λ (e : Entry). e.size) slotted.0))
    taken (inr storage) = cond-false (test k) _ _ (passes.0 ∙ rw storage.0 refl) ∙ ap (λ x. range_with_len long (long_need z x)) (sym storage.1)

pub short-parts : (z : ℕ) (d : Directory) (f : ℕ → List ℕ) (test : ℕ → Bool) (k mini long : ℕ) (slots : List Slot) → AllByRecursion IsGood slots → AreSlotted z d k mini long slots → HasChains z f k mini long slots → Passes test k slots → flat_map (λ id. cond (test id) (short_part (d.entry id) (f id)) []) (range_with_len k (length slots)) ≡ range_with_len mini (short_sum slots)
short-parts z d f test k mini long [] good slotted chains passes = refl
short-parts z d f test k mini long (s ∷ slots) good slotted chains passes =
    let rest = short-parts z d f test (k + 1) (mini_next mini s) (long_next z long s) slots good.1 slotted.1 chains.1 passes.1 in
    let one : cond (test k) (short_part (d.entry k) (f k)) [] ≡ range_with_len mini (short_need s.bytes) = taken good.0.kind in
    ap (λ l. l ++ flat_map (λ id. cond (test id) (short_part (d.entry id) (f id)) []) (range_with_len (k + 1) (length slots))) one
    ∙ (ap (λ l. range_with_len mini (short_need s.bytes) ++ l) (rest ∙ ap (λ a. range_with_len a (short_sum slots)) (mini_next-is mini s))
    ∙ sym (range-append mini (short_need s.bytes) (short_sum slots)))
  where
    taken : (s.kind ≡ 2) ⊎ ((s.kind ≡ 1) × (s.bytes ≡ [])) → cond (test k) (short_part (d.entry k) (f k)) [] ≡ range_with_len mini (short_need s.bytes)
    taken (inl stream) = cond-true (test k) _ _ (passes.0 ∙ rw stream refl) ∙ (ap (short_part (d.entry k)) chains.0 ∙ short-taken z (d.entry k) mini long s.bytes (ap (λ (e : Entry). e.size) slotted.0))
    taken (inr storage) = cond-false (test k) _ _ (passes.0 ∙ rw storage.0 refl) ∙ ap (λ x. range_with_len mini (short_need x)) (sym storage.1)
