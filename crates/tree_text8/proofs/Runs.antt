-- Runs of bytes in a page of single bytes.
use Rattle.std.proofs.Common.{◌≡◌, ◌∙◌, refl, sym, ap, ℕ, suc, ◌+◌, ◌≤◌, ◌<◌, Bool, true, false, List, [], ◌∷◌, ◌++◌, length, take, drop, get_or, arith, add-zero, take-append-drop, length-take-le, length-drop}
use Rattle.std.specs.Prelude.{Option, Some, None, nat_le, nat_lt, unwrap_or}
use Rattle.std.specs.List.{position_from}
use Rattle.std.proofs.lemmas.Bool.Decides.{nat_tests}
use Rattle.std.proofs.lemmas.List.{map-append, get_or-take, drop-drop}
use Rattle.std.proofs.Math.Seq.{take-add}
use Rattle.std.proofs.lemmas.List.Concat.{flat_map-append}
use Rattle.carrier_model.specs.Bytes.{unit_bytes, le16}
use Rattle.text8_model.specs.Texts.{has_no_unit, bad_by, units_by}
use Rattle.tree_text8.specs.Singles.{unit_of, AreMapped}
use Rattle.tree_text8.specs.declared.singles.SinglePage.{SinglePage}
use Rattle.tree_text8.specs.declared.singles.SinglePage.TheVariants.{Windows1252, Latin1, Ascii}

low_unit : (page : SinglePage) (byte : ℕ) → byte < 128 → unit_of page byte ≡ Some byte
low_unit Windows1252 byte lt = let low : nat_le 0x80 byte ≡ false = grind (arith, nat_tests) in rw low refl
low_unit Latin1 byte lt = refl
low_unit Ascii byte lt = let low : nat_lt byte 0x80 ≡ true = grind (arith, nat_tests) in rw low refl

-- bytes of ASCII are their units
pub low_good : (page : SinglePage) (i : ℕ) (run : List ℕ) → ((k : ℕ) → k < length run → get_or run k 0 < 128) → position_from (has_no_unit (unit_of page)) i run ≡ None
low_good page i [] low = refl
low_good page i (byte ∷ more) low = rw (low_unit page byte (low 0 (omega arith))) (low_good page (i + 1) more (λ k lt. low (suc k) (omega (arith, lt))))

pub low_same : (page : SinglePage) (run : List ℕ) → ((k : ℕ) → k < length run → get_or run k 0 < 128) → units_by (unit_of page) run ≡ run
low_same page [] low = refl
low_same page (byte ∷ more) low = rw (low_unit page byte (low 0 (omega arith))) (ap (λ l. byte ∷ l) (low_same page more (λ k lt. low (suc k) (omega (arith, lt)))))

module _ (f : ℕ → Option ℕ) where
  later_by : (i j byte : ℕ) (run more : List ℕ) (b : Bool) → has_no_unit f byte ≡ b → position_from (has_no_unit f) i (byte ∷ run) ≡ None → (position_from (has_no_unit f) (i + 1) run ≡ None → position_from (has_no_unit f) (j + 1) (run ++ more) ≡ position_from (has_no_unit f) (j + 1 + length run) more) → position_from (has_no_unit f) j (byte ∷ (run ++ more)) ≡ position_from (has_no_unit f) (j + suc (length run)) more
  later_by i j byte run more true t e below = absurd (let wrong : Some i ≡ None = rw t at e in let never : ⊥ = cc in never)
  later_by i j byte run more false t e below =
      let n : j + 1 + length run ≡ j + suc (length run) = omega arith in
      rw t (below (rw t at e) ∙ ap (λ k. position_from (has_no_unit f) k more) n)

  -- behind bytes that have units
  pub bad_later : (i j : ℕ) (run more : List ℕ) → position_from (has_no_unit f) i run ≡ None → position_from (has_no_unit f) j (run ++ more) ≡ position_from (has_no_unit f) (j + length run) more
  bad_later i j [] more e = ap (λ k. position_from (has_no_unit f) k more) (sym (add-zero j))
  bad_later i j (byte ∷ run) more e = later_by i j byte run more (has_no_unit f byte) refl e (bad_later (i + 1) (j + 1) run more)

  -- at a byte without a unit
  pub bad_here : (j byte : ℕ) (more : List ℕ) → f byte ≡ None → position_from (has_no_unit f) j (byte ∷ more) ≡ Some j
  bad_here j byte more e = rw e refl

  pub wide-append : (xs ys : List ℕ) → unit_bytes (units_by f (xs ++ ys)) ≡ unit_bytes (units_by f xs) ++ unit_bytes (units_by f ys)
  wide-append xs ys = ap unit_bytes (map-append (λ byte. unwrap_or (f byte) 0) xs ys) ∙ flat_map-append le16 (units_by f xs) (units_by f ys)

-- a run of ASCII that was appended
pub low_mapped : (page : SinglePage) (n : ℕ) (rest old new : List ℕ) → n ≤ length rest → ((k : ℕ) → k < n → get_or rest k 0 < 128) → new ≡ old ++ unit_bytes (take n rest) → AreMapped page (take n rest) old new
low_mapped page n rest old new le low e =
    let each : (k : ℕ) → k < length (take n rest) → get_or (take n rest) k 0 < 128 = λ k lt. (let under : k < n = omega (arith, lt, length-take-le n rest le) in rw (get_or-take n rest k 0 under) (low k under)) in
    record { good = low_good page 0 (take n rest) each; added = e ∙ ap (λ l. old ++ unit_bytes l) (sym (low_same page (take n rest) each)) }

-- one byte that was appended
pub one_mapped : (page : SinglePage) (rest old new : List ℕ) (unit : ℕ) → 0 < length rest → unit_of page (get_or rest 0 0) ≡ Some unit → new ≡ old ++ le16 unit → AreMapped page (take 1 rest) old new
one_mapped page [] old new unit some e is = absurd (omega (arith, some))
one_mapped page (byte ∷ more) old new unit some e is = record { good = rw e refl; added = is ∙ ap (λ l. old ++ l) (rw e refl) }

-- so far a text was converted, and its first bad byte is that of the rest
pub record IsConverted (page : SinglePage) (bytes made : List ℕ) (at : ℕ) : Type 0 where
  pub in_range : at ≤ length bytes
  pub bad : bad_by (unit_of page) bytes ≡ position_from (has_no_unit (unit_of page)) at (drop at bytes)
  pub wide : made ≡ unit_bytes (units_by (unit_of page) (take at bytes))

pub one_front : (page : SinglePage) (bytes old new : List ℕ) (at n : ℕ) → at ≤ length bytes → bad_by (unit_of page) bytes ≡ position_from (has_no_unit (unit_of page)) at (drop at bytes) → old ≡ unit_bytes (units_by (unit_of page) (take at bytes)) → n ≤ length (drop at bytes) → AreMapped page (take n (drop at bytes)) old new → IsConverted page bytes new (at + n)
one_front page bytes old new at n le bad wide fits mapped =
    let rest = drop at bytes in
    let split : take n rest ++ drop n rest ≡ rest = take-append-drop n rest in
    let more : drop n rest ≡ drop (at + n) bytes = drop-drop n at bytes in
    let long : length (take n rest) ≡ n = length-take-le n rest fits in
    let f = unit_of page in
    record {
      in_range = omega (arith, le, fits, length-drop at bytes);
      bad = bad ∙ (ap (position_from (has_no_unit f) at) (sym split) ∙ (bad_later f 0 at (take n rest) (drop n rest) mapped.good ∙ (λ i. position_from (has_no_unit f) (at + long i) (more i))));
      wide = mapped.added ∙ (ap (λ l. l ++ unit_bytes (units_by f (take n rest))) wide ∙ (sym (wide-append f (take at bytes) (take n rest)) ∙ ap (λ l. unit_bytes (units_by f l)) (sym (take-add at n bytes))));
    }

pub bad_end : (page : SinglePage) (bytes : List ℕ) (at : ℕ) → at < length bytes → bad_by (unit_of page) bytes ≡ position_from (has_no_unit (unit_of page)) at (drop at bytes) → unit_of page (get_or (drop at bytes) 0 0) ≡ None → bad_by (unit_of page) bytes ≡ Some at
bad_end page bytes at lt bad e = bad ∙ by_rest (drop at bytes) (omega (arith, lt, length-drop at bytes)) e
  where
    by_rest : (rest : List ℕ) → 0 < length rest → unit_of page (get_or rest 0 0) ≡ None → position_from (has_no_unit (unit_of page)) at rest ≡ Some at
    by_rest [] some e = absurd (omega (arith, some))
    by_rest (byte ∷ more) some e = bad_here (unit_of page) at byte more e
