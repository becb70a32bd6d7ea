-- The streams of a share, one entry after the other.
use Rattle.std.proofs.Common.{◌≡◌, ℕ, suc, ◌+◌, ◌-◌, ◌*◌, ◌<◌, ◌≤◌, Bool, true, false, List, [], ◌∷◌, ◌++◌, length, drop, map, replicate, refl, sym, ap, ◌∙◌, arith}
use Rattle.std.specs.Prelude.{cond, slice_get, Some}
use Rattle.std.specs.List.{flat_map}
use Rattle.std.proofs.lemmas.Grind.{div_ceil_times}
use Rattle.std.proofs.lemmas.List.{drop_more}
use Rattle.std.proofs.lemmas.List.Concat.{flat_map-append}
use Rattle.std.proofs.lemmas.List.Sums.{sum_by-cons}
use Rattle.std.proofs.lemmas.Option.{slice_get_within, get_or_from_slice_get}
use Rattle.carrier_model.specs.Bytes.{le32}
use Rattle.carrier_model.specs.Layout.{Slot, pieces, filled, all_pieces, run_words, stream_words, words_bytes, slots_bytes, slot_bytes, start_of_slot, is_short, is_long}
use Rattle.cfb_writer.specs.Shares.{is_of, size_of, streams_of, share_pieces, share_total, share_bytes}
use Rattle.cfb_layout.specs.Versions.{sector_of}
use Rattle.cfb_layout.specs.declared.version.Version.{Version}
use Rattle.cfb_layout.specs.declared.version.Version.TheVariants.{Three, Four}
use Rattle.cfb_writer.specs.declared.streams.Share.{Share}
use Rattle.cfb_writer.specs.declared.streams.Share.TheVariants.{Short, Long}

-- the entry at a place, and those behind it
pub entry_then : (slots : List Slot) (k : ℕ) (s : Slot) → slice_get slots k ≡ Some s → drop k slots ≡ s ∷ drop (k + 1) slots
entry_then slots k s at = drop_more slots k s (slice_get_within slots k s at) ∙ ap (λ (x : Slot). x ∷ drop (k + 1) slots) (get_or_from_slice_get slots k s s at)

pub total_then : (share : Share) (z : ℕ) (s : Slot) (others : List Slot) → share_total share z (s ∷ others) ≡ share_pieces share z s.bytes + share_total share z others
total_then share z s others = by (is_of share s.bytes)
  where
    by : (b : Bool) → all_pieces (size_of share z) (cond b (s.bytes ∷ streams_of share others) (streams_of share others)) ≡ cond b (pieces (size_of share z) s.bytes) 0 + share_total share z others
    by true = sum_by-cons (λ k. k) (pieces (size_of share z) s.bytes) (map (pieces (size_of share z)) (streams_of share others))
    by false = omega arith

chain_then : (share : Share) (z start : ℕ) (s : Slot) (others : List Slot) → stream_words (size_of share z) start (streams_of share (s ∷ others)) ≡ run_words start (share_pieces share z s.bytes) ++ stream_words (size_of share z) (start + share_pieces share z s.bytes) (streams_of share others)
chain_then share z start s others = by (is_of share s.bytes)
  where
    by : (b : Bool) → stream_words (size_of share z) start (cond b (s.bytes ∷ streams_of share others) (streams_of share others)) ≡ run_words start (cond b (pieces (size_of share z) s.bytes) 0) ++ stream_words (size_of share z) (start + cond b (pieces (size_of share z) s.bytes) 0) (streams_of share others)
    by true = refl
    by false = ap (λ (n : ℕ). stream_words (size_of share z) n (streams_of share others)) (omega arith)

-- the words of a stream's chain, and of those behind it
pub words_then : (share : Share) (z start n : ℕ) (left : List Slot) (s : Slot) (others : List Slot) → left ≡ s ∷ others → n ≡ share_pieces share z s.bytes → words_bytes (stream_words (size_of share z) start (streams_of share left)) ≡ words_bytes (run_words start n) ++ words_bytes (stream_words (size_of share z) (start + n) (streams_of share others))
words_then share z start n left s others at e =
    ap (λ (x : List Slot). words_bytes (stream_words (size_of share z) start (streams_of share x))) at
    ∙ ap words_bytes (chain_then share z start s others)
    ∙ ap (λ (m : ℕ). words_bytes (run_words start m ++ stream_words (size_of share z) (start + m) (streams_of share others))) (sym e)
    ∙ flat_map-append le32 (run_words start n) (stream_words (size_of share z) (start + n) (streams_of share others))

-- a stream's bytes, and those behind it
pub bytes_then : (share : Share) (z : ℕ) (left : List Slot) (s : Slot) (others : List Slot) → left ≡ s ∷ others → flat_map (filled (size_of share z)) (streams_of share left) ≡ share_bytes share z s.bytes ++ flat_map (filled (size_of share z)) (streams_of share others)
bytes_then share z left s others at = ap (λ (x : List Slot). flat_map (filled (size_of share z)) (streams_of share x)) at ∙ by (is_of share s.bytes)
  where
    by : (b : Bool) → flat_map (filled (size_of share z)) (cond b (s.bytes ∷ streams_of share others) (streams_of share others)) ≡ cond b (filled (size_of share z) s.bytes) [] ++ flat_map (filled (size_of share z)) (streams_of share others)
    by true = refl
    by false = refl

-- ---- a share that has no pieces

pub some_size : (share : Share) (version : Version) → 0 < size_of share (sector_of version)
some_size Short version = omega arith
some_size Long Three = omega arith
some_size Long Four = omega arith

none_both : (size : ℕ) (x : List ℕ) (xs : List (List ℕ)) → 0 ≡ all_pieces size (x ∷ xs) → (pieces size x ≡ 0) × (0 ≡ all_pieces size xs)
none_both size x xs none =
    let both : all_pieces size (x ∷ xs) ≡ pieces size x + all_pieces size xs = sum_by-cons (λ k. k) (pieces size x) (map (pieces size) xs) in
    (omega (arith, none, both), omega (arith, none, both))

pub no_words : (size start : ℕ) (xs : List (List ℕ)) → 0 ≡ all_pieces size xs → stream_words size start xs ≡ []
no_words size start [] none = refl
no_words size start (x ∷ xs) none =
    let parts = none_both size x xs none in
    ap (λ (n : ℕ). run_words start n ++ stream_words size (start + n) xs) parts.0 ∙ no_words size (start + 0) xs parts.1

none_filled : (size : ℕ) (x : List ℕ) → 0 < size → pieces size x ≡ 0 → filled size x ≡ []
none_filled size [] some none =
    let zero_all : pieces size [] * size ≡ 0 = ap (λ (n : ℕ). n * size) none ∙ omega arith in
    ap (λ (n : ℕ). replicate {A = ℕ} (n - 0) 0) zero_all
none_filled size (y ∷ ys) some none =
    let few : suc (length ys) ≤ pieces size (y ∷ ys) * size = (div_ceil_times (suc (length ys)) size some).0 in
    let zero_all : pieces size (y ∷ ys) * size ≡ 0 = ap (λ (n : ℕ). n * size) none ∙ omega arith in
    absurd (omega (arith, few, zero_all))

pub no_bytes : (size : ℕ) (xs : List (List ℕ)) → 0 < size → 0 ≡ all_pieces size xs → flat_map (filled size) xs ≡ []
no_bytes size [] some none = refl
no_bytes size (x ∷ xs) some none =
    let parts = none_both size x xs none in
    ap (λ (front : List ℕ). front ++ flat_map (filled size) xs) (none_filled size x some parts.0) ∙ no_bytes size xs some parts.1

moved : (b : Bool) (m n : ℕ) → cond b (m + n) m ≡ m + cond b n 0
moved true m n = refl
moved false m n = omega arith

-- an entry's bytes, and those behind it
pub slots_then : (z mini long m l : ℕ) (left : List Slot) (s : Slot) (others : List Slot) → left ≡ s ∷ others → m ≡ mini + share_pieces Short 64 s.bytes → l ≡ long + share_pieces Long z s.bytes → slots_bytes z mini long left ≡ slot_bytes s (start_of_slot mini long s) (length s.bytes) ++ slots_bytes z m l others
slots_then z mini long m l left s others at e f =
    ap (slots_bytes z mini long) at
    ∙ ap (λ (k : ℕ). slot_bytes s (start_of_slot mini long s) (length s.bytes) ++ slots_bytes z k (cond (is_long s.bytes) (long + pieces z s.bytes) long) others) (moved (is_short s.bytes) mini (pieces 64 s.bytes) ∙ sym e)
    ∙ ap (λ (k : ℕ). slot_bytes s (start_of_slot mini long s) (length s.bytes) ++ slots_bytes z m k others) (moved (is_long s.bytes) long (pieces z s.bytes) ∙ sym f)
