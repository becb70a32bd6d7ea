-- Streams that are laid out: their entries, their chains and their bytes.
use Rattle.std.proofs.Common.{◌≡◌, ℕ, ◌+◌, ◌-◌, ◌*◌, ◌<◌, ◌^◌, List, [], ◌∷◌, length, map, replicate, Bool, true, false, cond, eqb, refl, sym, ◌∙◌, ap, subst, arith, ◌⊎◌, add-zero, zero-add, mul-zero}
use Rattle.std.specs.List.{flat_map, AllByRecursion}
use Rattle.std.proofs.lemmas.List.Sums.{sum_by-cons}
use Rattle.carrier_model.specs.Entries.{entry_at}
use Rattle.carrier_model.specs.Layout.{Slot, pieces, all_pieces, filled, is_short, is_long, short_streams, long_streams, slot_bytes, slots_bytes, start_of_slot, run_words, stream_words}
use Rattle.carrier_model.proofs.LaidBytes.{Lies, lies-front, lies-back}
use Rattle.carrier_model.proofs.LaidEntries.{IsSlot, entry_of_slot, entry-lies}
use Rattle.carrier_model.proofs.LaidParts.{slot-length, filled-short, filled-long}
use Rattle.carrier_model.proofs.LaidTables.{run-length}
use Rattle.carrier_model.proofs.Sizes.{SizeOf}

-- how many pieces a stream takes of the mini stream, and how many sectors of its own
abbrev pub short_need : List ℕ → ℕ
short_need x = cond (is_short x) (pieces 64 x) 0

abbrev pub long_need : ℕ → List ℕ → ℕ
long_need z x = cond (is_long x) (pieces z x) 0

abbrev pub short_sum : List Slot → ℕ
short_sum [] = 0
short_sum (s ∷ slots) = short_need s.bytes + short_sum slots

abbrev pub long_sum : ℕ → List Slot → ℕ
long_sum z [] = 0
long_sum z (s ∷ slots) = long_need z s.bytes + long_sum z slots

abbrev sum-kept : (t : Bool) (n : ℕ) (x : List ℕ) (rest : List (List ℕ)) → Type 0
sum-kept t n x rest = all_pieces n (cond t (x ∷ rest) rest) ≡ cond t (pieces n x) 0 + all_pieces n rest

kept : (t : Bool) (n : ℕ) (x : List ℕ) (rest : List (List ℕ)) → sum-kept t n x rest
kept true n x rest = sum_by-cons (λ k. k) (pieces n x) (map (pieces n) rest)
kept false n x rest = sym (zero-add (all_pieces n rest))

pub short-sum : (slots : List Slot) → all_pieces 64 (short_streams slots) ≡ short_sum slots
short-sum [] = refl
short-sum (s ∷ slots) = kept (is_short s.bytes) 64 s.bytes (short_streams slots) ∙ ap (λ k. short_need s.bytes + k) (short-sum slots)

pub long-sum : (z : ℕ) (slots : List Slot) → all_pieces z (long_streams slots) ≡ long_sum z slots
long-sum z [] = refl
long-sum z (s ∷ slots) = kept (is_long s.bytes) z s.bytes (long_streams slots) ∙ ap (λ k. long_need z s.bytes + k) (long-sum z slots)

-- where the next short and the next long stream begin
abbrev pub mini_next : ℕ → Slot → ℕ
mini_next mini s = cond (is_short s.bytes) (mini + pieces 64 s.bytes) mini

abbrev pub long_next : ℕ → ℕ → Slot → ℕ
long_next z long s = cond (is_long s.bytes) (long + pieces z s.bytes) long

next-is : (t : Bool) (at n : ℕ) → cond t (at + n) at ≡ at + cond t n 0
next-is true at n = refl
next-is false at n = sym (add-zero at)

pub mini_next-is : (mini : ℕ) (s : Slot) → mini_next mini s ≡ mini + short_need s.bytes
mini_next-is mini s = next-is (is_short s.bytes) mini (pieces 64 s.bytes)

pub long_next-is : (z : ℕ) (long : ℕ) (s : Slot) → long_next z long s ≡ long + long_need z s.bytes
long_next-is z long s = next-is (is_long s.bytes) long (pieces z s.bytes)

-- ---- where streams lie

-- pieces of streams of one sort, from a word of their table and a place in the file on
pub record Laid (size : ℕ) (T b : List ℕ) (first from : ℕ) (xs : List (List ℕ)) : Type 0 where
  pub words : Lies T first (stream_words size first xs)
  pub bytes : Lies b from (flat_map (filled size) xs)

pub record Stands (size : ℕ) (T b : List ℕ) (first from : ℕ) (x : List ℕ) : Type 0 where
  pub words : Lies T first (run_words first (pieces size x))
  pub bytes : Lies b from x

-- the first of some streams, if it is of this sort, and the others
pub record Step (size : ℕ) (T b : List ℕ) (t : Bool) (first from : ℕ) (x : List ℕ) (rest : List (List ℕ)) : Type 0 where
  pub here : t ≡ true → Stands size T b first from x
  pub next : Laid size T b (cond t (first + pieces size x) first) (from + size * cond t (pieces size x) 0) rest

laid-step : (size : ℕ) (T b : List ℕ) (t : Bool) (first from : ℕ) (x : List ℕ) (rest : List (List ℕ)) → length (filled size x) ≡ size * pieces size x → Laid size T b first from (cond t (x ∷ rest) rest) → Step size T b t first from x rest
laid-step size T b true first from x rest long l = record {
  here = λ e. record {
    words = lies-front T first (run_words first (pieces size x)) (stream_words size (first + pieces size x) rest) l.words;
    bytes = lies-front b from x (replicate (pieces size x * size - length x) 0) (lies-front b from (filled size x) (flat_map (filled size) rest) l.bytes);
  };
  next = record {
    words = lies-back T first (first + pieces size x) (run_words first (pieces size x)) (stream_words size (first + pieces size x) rest) (ap (λ k. first + k) (sym (run-length first (pieces size x)))) l.words;
    bytes = lies-back b from (from + size * pieces size x) (filled size x) (flat_map (filled size) rest) (ap (λ k. from + k) (sym long)) l.bytes;
  };
}
laid-step size T b false first from x rest long l = record {
  here = λ e. absurd (differ e);
  next = record { words = l.words; bytes = subst (λ o. Lies b o (flat_map (filled size) rest)) (sym (none size from)) l.bytes };
}
  where
    differ : false ≡ true → ⊥
    differ e = absurd (cc)

    none : (size from : ℕ) → from + size * 0 ≡ from
    none size from = ap (λ k. from + k) (mul-zero size) ∙ add-zero from

-- all streams of some entries
abbrev pub AreLaid : ℕ → List ℕ → List ℕ → List ℕ → ℕ → ℕ → ℕ → ℕ → List Slot → Type 0
AreLaid z M T b mini from long at [] = Unit {0}
AreLaid z M T b mini from long at (s ∷ slots) =
    (is_short s.bytes ≡ true → Stands 64 M b mini from s.bytes)
    × (is_long s.bytes ≡ true → Stands z T b long at s.bytes)
    × AreLaid z M T b (mini_next mini s) (from + 64 * short_need s.bytes) (long_next z long s) (at + z * long_need z s.bytes) slots

pub streams-laid : (z : ℕ) (v : SizeOf z) (M T b : List ℕ) (mini from long at : ℕ) (slots : List Slot) → Laid 64 M b mini from (short_streams slots) → Laid z T b long at (long_streams slots) → AreLaid z M T b mini from long at slots
streams-laid z v M T b mini from long at [] short long_laid = tt
streams-laid z v M T b mini from long at (s ∷ slots) short long_laid =
    let a = laid-step 64 M b (is_short s.bytes) mini from s.bytes (short_streams slots) (filled-short s.bytes) short in
    let c = laid-step z T b (is_long s.bytes) long at s.bytes (long_streams slots) (filled-long z v s.bytes) long_laid in
    (a.here, c.here, streams-laid z v M T b (mini_next mini s) (from + 64 * short_need s.bytes) (long_next z long s) (at + z * long_need z s.bytes) slots a.next c.next)

-- ---- the entries

-- a stream, or a storage without bytes
pub record IsGood (s : Slot) : Type 0 where
  pub slot : IsSlot s
  pub size : length s.bytes < 2 ^ 28
  pub kind : (s.kind ≡ 2) ⊎ ((s.kind ≡ 1) × (s.bytes ≡ []))

abbrev pub AreEntries : ℕ → List ℕ → ℕ → ℕ → ℕ → List Slot → Type 0
AreEntries z b o mini long [] = Unit {0}
AreEntries z b o mini long (s ∷ slots) = (entry_at z b o ≡ entry_of_slot s (start_of_slot mini long s) (length s.bytes)) × AreEntries z b (o + 128) (mini_next mini s) (long_next z long s) slots

pub start-fits : (mini long : ℕ) (s : Slot) → mini < 2 ^ 32 → long < 2 ^ 32 → start_of_slot mini long s < 2 ^ 32
start-fits mini long s m l = either (eqb s.kind 1) (is_short s.bytes) (is_long s.bytes)
  where
    either : (x y z : Bool) → cond x 0 (cond y mini (cond z long 4294967294)) < 2 ^ 32
    either true y z = omega arith
    either false true z = m
    either false false true = l
    either false false false = omega arith

pub entries-lie : (z : ℕ) (b : List ℕ) (o mini long : ℕ) (slots : List Slot) → AllByRecursion IsGood slots → mini + short_sum slots < 2 ^ 32 → long + long_sum z slots < 2 ^ 32 → Lies b o (slots_bytes z mini long slots) → AreEntries z b o mini long slots
entries-lie z b o mini long [] good m l lies = tt
entries-lie z b o mini long (s ∷ slots) good m l lies =
    let g = good.0 in
    let start = start_of_slot mini long s in
    let rest = slots_bytes z (mini_next mini s) (long_next z long s) slots in
    let m2 = mini_next-is mini s in
    let l2 = long_next-is z long s in (
      entry-lies z b o s start (length s.bytes) g.slot (start-fits mini long s (omega (arith, m)) (omega (arith, l))) (omega (arith, g.size)) (lies-front b o (slot_bytes s start (length s.bytes)) rest lies),
      entries-lie z b (o + 128) (mini_next mini s) (long_next z long s) slots good.1 (omega (arith, m, m2)) (omega (arith, l, l2))
          (lies-back b o (o + 128) (slot_bytes s start (length s.bytes)) rest (ap (λ k. o + k) (sym (slot-length s start (length s.bytes) g.slot.fit))) lies),
    )
