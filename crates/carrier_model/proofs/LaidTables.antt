-- The table of a file that is laid out.
use Rattle.std.proofs.Common.{◌≡◌, ℕ, zero, suc, ◌+◌, ◌*◌, ◌/◌, ◌<◌, ◌≤◌, List, [], ◌∷◌, ◌++◌, length, map, take, drop, true, false, refl, sym, ◌∙◌, ap, subst, arith, inl, inr}
use Rattle.std.specs.List.{range_with_len}
use Rattle.std.proofs.lemmas.Bool.{cases_Bool, leb-true, le-leb, cond-true, cond-false}
use Rattle.std.proofs.lemmas.List.{length-append, length-take, length-drop, ext_get_or, take-append-drop}
use Rattle.std.proofs.lemmas.List.FromFn.{length-map-range_with_len, get_or-map-range_with_len}
use Rattle.std.proofs.lemmas.List.Sums.{sum_by-cons}
use Rattle.std.proofs.lemmas.Grind.{flat_map-append}
use Rattle.carrier_model.specs.Bytes.{le32}
use Rattle.carrier_model.specs.Layout.{words_bytes, run_words, stream_words, pieces, all_pieces, suffices, first_that_suffices, fat_count}
use Rattle.carrier_model.specs.Sectors.{u32_of, sector_start, sector_words, table_words}
use Rattle.carrier_model.specs.Tables.{difat_count}
use Rattle.carrier_model.proofs.LaidBytes.{Lies, lies-front, lies-back, AreWords, word-lies}
use Rattle.carrier_model.proofs.Sizes.{SizeOf, words_fill, more_suffice}

pub words-length : (ws : List ℕ) → length (words_bytes ws) ≡ 4 * length ws
words-length [] = refl
words-length (w ∷ ws) = length-append (le32 w) (words_bytes ws) ∙ (ap (λ k. 4 + k) (words-length ws) ∙ omega arith)

-- words that lie there are read
pub words-lie : (b : List ℕ) (at n : ℕ) (ws : List ℕ) → AreWords ws → length ws ≡ n → Lies b at (words_bytes ws) → map (λ i. u32_of b (at + 4 * i)) (range_with_len 0 n) ≡ ws
words-lie b at n ws fit long l =
    ext_get_or 0 _ _ (length-map-range_with_len (λ i. u32_of b (at + 4 * i)) 0 n ∙ sym long)
    (λ i below.
    let inside : i < n = rw (length-map-range_with_len (λ i. u32_of b (at + 4 * i)) 0 n) at below in
    get_or-map-range_with_len (λ i. u32_of b (at + 4 * i)) 0 n i i 0 inside (omega arith) ∙ word-lies b at i ws fit (omega (arith, inside, long)) l)

fit-split : (xs ys : List ℕ) → AreWords (xs ++ ys) → AreWords xs × AreWords ys
fit-split [] ys h = (tt, h)
fit-split (x ∷ xs) ys h = let more = fit-split xs ys h.1 in ((h.0, more.0), more.1)

-- words of whole sectors, one after another
pub table-lies : (z : ℕ) (v : SizeOf z) (b : List ℕ) (s n : ℕ) (ws : List ℕ) → AreWords ws → length ws ≡ z / 4 * n → Lies b (sector_start z s) (words_bytes ws) → table_words z b (range_with_len s n) ≡ ws
table-lies z v b s zero [] fit long l = refl
table-lies z v b s zero (w ∷ ws) fit long l = absurd (omega arith)
table-lies z v b s (suc n) ws fit long l =
    let front = take (z / 4) ws in
    let back = drop (z / 4) ws in
    let whole : front ++ back ≡ ws = take-append-drop (z / 4) ws in
    let parts = fit-split front back (subst AreWords (sym whole) fit) in
    let front_long : length front ≡ z / 4 = simp length-take (omega (arith, long)) in
    let back_long : length back ≡ z / 4 * n = simp length-drop (omega (arith, long)) in
    let both : Lies b (sector_start z s) (words_bytes front ++ words_bytes back) = subst (Lies b (sector_start z s)) (ap words_bytes (sym whole) ∙ flat_map-append le32 front back) l in
    let one : sector_words z b s ≡ front = words-lie b (sector_start z s) (z / 4) front parts.0 front_long (lies-front b _ _ _ both) in
    let rest = table-lies z v b (s + 1) n back parts.1 back_long (lies-back b (sector_start z s) (sector_start z (s + 1)) (words_bytes front) (words_bytes back) (rw (words-length front, front_long) (omega (arith, (words_fill z v).0))) both) in
    ap (λ x. x ++ table_words z b (range_with_len (s + 1) n)) one ∙ (ap (λ y. front ++ y) rest ∙ whole)

-- how many words runs have
pub run-length : (start n : ℕ) → length (run_words start n) ≡ n
run-length start zero = refl
run-length start (suc zero) = refl
run-length start (suc (suc n)) = ap suc (run-length (start + 1) (suc n))

pub streams-length : (size start : ℕ) (xs : List (List ℕ)) → length (stream_words size start xs) ≡ all_pieces size xs
streams-length size start [] = refl
streams-length size start (x ∷ xs) =
    length-append (run_words start (pieces size x)) (stream_words size (start + pieces size x) xs)
    ∙ (rw (run-length start (pieces size x), streams-length size (start + pieces size x) xs) refl
    ∙ sym (sum_by-cons (λ k. k) (pieces size x) (map (pieces size) xs)))

-- the number of a table's sectors suffices
pub first-suffices : (more z rest f g : ℕ) → f ≤ g → g ≤ f + more → suffices z rest g ≡ true → suffices z rest (first_that_suffices more z rest f) ≡ true
first-suffices zero z rest f g low high is = let same : g ≡ f = omega (arith, low, high) in subst (λ k. suffices z rest k ≡ true) same is
first-suffices (suc more) z rest f g low high is =
    elim (cases_Bool (suffices z rest f)) [
      | inl enough ↦ subst (λ k. suffices z rest k ≡ true) (sym (cond-true (suffices z rest f) f (first_that_suffices more z rest (f + 1)) enough)) enough
      | inr less ↦
          let other : f ≡ g → ⊥ = λ e. differ (sym less ∙ (ap (suffices z rest) e ∙ is)) in
          subst (λ k. suffices z rest k ≡ true) (sym (cond-false (suffices z rest f) f (first_that_suffices more z rest (f + 1)) less)) (first-suffices more z rest (f + 1) g (omega (arith, low, other)) (omega (arith, high)) is)
    ]
  where
    differ : false ≡ true → ⊥
    differ e = absurd (cc)

pub fat-suffices : (z : ℕ) (v : SizeOf z) (rest : ℕ) → fat_count z rest + difat_count z (fat_count z rest) + rest ≤ z / 4 * fat_count z rest
fat-suffices z v rest =
    let g = rest + 1 in
    let enough : suffices z rest g ≡ true = le-leb (g + difat_count z g + rest) (z / 4 * g) (more_suffice z v rest) in
    leb-true _ _ (first-suffices (rest + 1) z rest 0 g (omega arith) (omega arith) enough)
