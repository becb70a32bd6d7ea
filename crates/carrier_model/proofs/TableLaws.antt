-- The sectors of the DIFAT and of the table, taken one after another, as lists of distinct whole sectors.
use Rattle.std.proofs.Common.{◌≡◌, ℕ, zero, suc, ◌+◌, ◌-◌, ◌<◌, ◌/◌, List, [], ◌∷◌, ◌++◌, length, get_or, map, false, not, eqb, ltb, refl, sym, ◌∙◌, ap, arith, Ok, Result, inl, inr}
use Rattle.std.specs.Prelude.{IsTrue, if◌then◌else◌}
use Rattle.std.specs.List.{range_with_len, IsDistinct, AllByRecursion}
use Rattle.std.proofs.lemmas.Bool.{ne_eqb, not-true, ltb-true, lt-ltb}
use Rattle.std.proofs.lemmas.List.{append_assoc, append-nil}
use Rattle.carrier_model.specs.Trail.{Fault}
use Rattle.carrier_model.specs.Outcomes.{◌>>=◌, check}
use Rattle.carrier_model.specs.Reasons.{SECTOR_OUT_OF_RANGE, CYCLE, SHARED, FILE_TRUNCATED}
use Rattle.carrier_model.specs.Chains.{member}
use Rattle.carrier_model.specs.Links.{AreNew}
use Rattle.carrier_model.specs.Sectors.{is_size, sector_start, sector_count, whole_count, u32_of, table_words}
use Rattle.carrier_model.specs.Tables.{sector_of, difat_of, difat_count, fat_place, fat_sectors_of}
use Rattle.carrier_model.specs.Loads.{Table}
use Rattle.carrier_model.specs.Holds.{AreWhole, IsTable}
use Rattle.carrier_model.proofs.Apart.{distinct-append, distinct-split}
use Rattle.carrier_model.proofs.PlaceLaws.{size_cases}
use Rattle.carrier_model.proofs.VisitLaws.{bind_ok, check_ok}

-- a whole sector is one of the file
pub whole-counted : (z : ℕ) (b : List ℕ) (n : ℕ) → IsTrue (is_size z) → n < whole_count z b → n < sector_count z b
whole-counted z b n h whole =
    elim (size_cases z h) [
      | inl a ↦ let w : n < (length b - 512) / 512 = rw (← a) whole in rw a (omega arith)
      | inr a ↦ let w : n < (length b - 4096) / 4096 = rw (← a) whole in rw a (omega arith)
    ]

-- numbers that are new one after another are distinct, and none of the seen ones
pub new-apart : (seen xs : List ℕ) → IsDistinct eqb seen → AreNew seen xs → IsDistinct eqb (seen ++ xs)
unfolding IsDistinct
new-apart seen [] h k = rw append-nil h
new-apart seen (x ∷ xs) h k =
    rw (← append_assoc seen (x ∷ []) xs) (new-apart (seen ++ x ∷ []) xs (distinct-append seen (x ∷ []) h (tt, tt) (k.0, tt)) k.1)

pub apart-new : (seen xs : List ℕ) → IsDistinct eqb (seen ++ xs) → AreNew seen xs
unfolding IsDistinct
apart-new seen [] h = tt
apart-new seen (x ∷ xs) h =
    ((distinct-split seen (x ∷ xs) h).2.0, apart-new (seen ++ x ∷ []) xs (rw (append_assoc seen (x ∷ []) xs) h))

pub all-append : (P : ℕ → Type 0) (xs ys : List ℕ) → AllByRecursion P xs → AllByRecursion P ys → AllByRecursion P (xs ++ ys)
all-append P [] ys h k = k
all-append P (x ∷ xs) ys h k = (h.0, all-append P xs ys h.1 k)

pub all-split : (P : ℕ → Type 0) (xs ys : List ℕ) → AllByRecursion P (xs ++ ys) → AllByRecursion P xs × AllByRecursion P ys
all-split P [] ys h = (tt, h)
all-split P (x ∷ xs) ys h = let more = all-split P xs ys h.1 in ((h.0, more.0), more.1)

abbrev pub answered : {A : Type 0} → A → Result A Fault
answered x = Ok x

pub same_answer : {A : Type 0} (x y : A) → answered x ≡ answered y → x ≡ y
same_answer x y h = cc

-- one sector
pub sector_of-ok : (z : ℕ) (b : List ℕ) (p why : ℕ) (e : List ℕ) (n : ℕ) → sector_of z b p why e ≡ Ok n → (n ≡ u32_of b p) × (member n e ≡ false) × (n < whole_count z b)
unfolding sector_of
sector_of-ok z b p why e n h =
    let a = check_ok (ltb (u32_of b p) (sector_count z b)) SECTOR_OUT_OF_RANGE p (λ u. check (not (member (u32_of b p) e)) why p >>= λ v. check (ltb (u32_of b p) (whole_count z b)) FILE_TRUNCATED p >>= λ w. Ok (u32_of b p)) n h in
    let f = check_ok (not (member (u32_of b p) e)) why p (λ v. check (ltb (u32_of b p) (whole_count z b)) FILE_TRUNCATED p >>= λ w. Ok (u32_of b p)) n a.1 in
    let w = check_ok (ltb (u32_of b p) (whole_count z b)) FILE_TRUNCATED p (λ w. Ok (u32_of b p)) n f.1 in
    let same : u32_of b p ≡ n = same_answer (u32_of b p) n w.1 in
    rw (← same) (refl, not-true _ f.0, ltb-true _ _ w.0)

pub sector_of-from : (z : ℕ) (b : List ℕ) (p why : ℕ) (e : List ℕ) (n : ℕ) → IsTrue (is_size z) → n ≡ u32_of b p → member n e ≡ false → n < whole_count z b → sector_of z b p why e ≡ Ok n
unfolding sector_of
sector_of-from z b p why e n h is fresh whole =
    let f : member (u32_of b p) e ≡ false = rw (← is) fresh in
    let w : u32_of b p < whole_count z b = rw (← is) whole in
    rw is (rw (lt-ltb (u32_of b p) (sector_count z b) (whole-counted z b (u32_of b p) h w), f, lt-ltb (u32_of b p) (whole_count z b) w) refl)

-- The DIFAT's sectors from a place on, each named by the one before.
abbrev pub Named : ℕ → List ℕ → ℕ → List ℕ → Type 0
Named z b p [] = Unit {0}
Named z b p (n ∷ L) = (n ≡ u32_of b p) × Named z b (sector_start z n + (z - 4)) L

pub difat_of-ok : (k p z : ℕ) (b e L : List ℕ) → difat_of k p z b e ≡ Ok L → (length L ≡ k) × Named z b p L × AreNew e L × AreWhole z b L
unfolding difat_of
difat_of-ok zero p z b e L h = let none : [] ≡ L = same_answer [] L h in rw (← none) (refl, tt, tt, tt)
difat_of-ok (suc k) p z b e L h =
    let one = bind_ok (sector_of z b p CYCLE e) _ L h in
    let n = one.0 in
    let s = sector_of-ok z b p CYCLE e n one.1 in
    let more = bind_ok (difat_of k (sector_start z n + (z - 4)) z b (e ++ n ∷ [])) _ L one.2 in
    let rest = difat_of-ok k (sector_start z n + (z - 4)) z b (e ++ n ∷ []) more.0 more.1 in
    let same : n ∷ more.0 ≡ L = same_answer (n ∷ more.0) L more.2 in
    rw (← same) (rw rest.0 refl, (s.0, rest.1), (s.1, rest.2), (s.2, rest.3))

pub difat_of-from : (k p z : ℕ) (b e L : List ℕ) → IsTrue (is_size z) → length L ≡ k → Named z b p L → AreNew e L → AreWhole z b L → difat_of k p z b e ≡ Ok L
unfolding difat_of
difat_of-from zero p z b e [] h count named new whole = refl
difat_of-from zero p z b e (n ∷ L) h count named new whole = absurd (omega arith)
difat_of-from (suc k) p z b e [] h count named new whole = absurd (omega arith)
difat_of-from (suc k) p z b e (n ∷ L) h count named new whole =
    rw (sector_of-from z b p CYCLE e n h named.0 new.0 whole.0, difat_of-from k (sector_start z n + (z - 4)) z b (e ++ n ∷ []) L h (omega arith) named.1 new.1 whole.1) refl

cons_same : (x y : ℕ) (xs ys : List ℕ) → x ≡ y → xs ≡ ys → x ∷ xs ≡ y ∷ ys
cons_same x y xs ys h k = cc

-- the sectors of the table, by index
pub fat_of-ok : (k i z : ℕ) (b L e A : List ℕ) → fat_sectors_of k i z b L e ≡ Ok A → (A ≡ map (λ j. u32_of b (fat_place z L j)) (range_with_len i k)) × AreNew e A × AreWhole z b A
unfolding fat_sectors_of
fat_of-ok zero i z b L e A h = let none : [] ≡ A = same_answer [] A h in rw (← none) (refl, tt, tt)
fat_of-ok (suc k) i z b L e A h =
    let one = bind_ok (sector_of z b (fat_place z L i) SHARED e) _ A h in
    let n = one.0 in
    let s = sector_of-ok z b (fat_place z L i) SHARED e n one.1 in
    let more = bind_ok (fat_sectors_of k (i + 1) z b L (e ++ n ∷ [])) _ A one.2 in
    let rest = fat_of-ok k (i + 1) z b L (e ++ n ∷ []) more.0 more.1 in
    let same : n ∷ more.0 ≡ A = same_answer (n ∷ more.0) A more.2 in
    rw (← same) (cons_same n (u32_of b (fat_place z L i)) more.0 _ s.0 rest.0, (s.1, rest.1), (s.2, rest.2))

pub fat_of-from : (k i z : ℕ) (b L e A : List ℕ) → IsTrue (is_size z) → A ≡ map (λ j. u32_of b (fat_place z L j)) (range_with_len i k) → AreNew e A → AreWhole z b A → fat_sectors_of k i z b L e ≡ Ok A
unfolding fat_sectors_of
fat_of-from zero i z b L e [] h named new whole = refl
fat_of-from zero i z b L e (n ∷ A) h named new whole = absurd (cc)
fat_of-from (suc k) i z b L e [] h named new whole = absurd (cc)
fat_of-from (suc k) i z b L e (n ∷ A) h named new whole =
    let first : n ≡ u32_of b (fat_place z L i) = cc in
    let rest : A ≡ map (λ j. u32_of b (fat_place z L j)) (range_with_len (i + 1) k) = cc in
    rw (sector_of-from z b (fat_place z L i) SHARED e n h first new.0 whole.0, fat_of-from k (i + 1) z b L (e ++ n ∷ []) A h rest new.1 whole.1) refl

-- where the i-th sector of such a list is named
abbrev place_from : ℕ → ℕ → List ℕ → ℕ → ℕ
place_from z p L i = if eqb i 0 then p else sector_start z (get_or L (i - 1) 0) + (z - 4)

place_next : (z p : ℕ) (L : List ℕ) (i : ℕ) → place_from z p L (suc i) ≡ sector_start z (get_or L (suc i - 1) 0) + (z - 4)
place_next z p L i = rw (ne_eqb (suc i) 0 (λ h. absurd (omega arith))) refl

place_shift : (z p q n : ℕ) (L : List ℕ) (i : ℕ) → place_from z p (n ∷ L) (suc (suc i)) ≡ place_from z q L (suc i)
place_shift z p q n L i =
    let one : suc (suc i) - 1 ≡ suc (suc i - 1) = omega arith in
    place_next z p (n ∷ L) (suc i) ∙ (ap (λ k. sector_start z (get_or (n ∷ L) k 0) + (z - 4)) one ∙ sym (place_next z q L i))

pub named-at : (z : ℕ) (b : List ℕ) (p : ℕ) (L : List ℕ) → Named z b p L → (i : ℕ) → i < length L → get_or L i 0 ≡ u32_of b (place_from z p L i)
named-at z b p [] h i below = absurd (omega arith)
named-at z b p (n ∷ L) h zero below = h.0
named-at z b p (n ∷ L) h (suc zero) below = named-at z b (sector_start z n + (z - 4)) L h.1 zero (omega arith)
named-at z b p (n ∷ L) h (suc (suc i)) below = named-at z b (sector_start z n + (z - 4)) L h.1 (suc i) (omega arith) ∙ ap (u32_of b) (sym (place_shift z p (sector_start z n + (z - 4)) n L i))

pub named-from : (z : ℕ) (b : List ℕ) (p : ℕ) (L : List ℕ) → ((i : ℕ) → i < length L → get_or L i 0 ≡ u32_of b (place_from z p L i)) → Named z b p L
named-from z b p [] h = tt
named-from z b p (n ∷ L) h = (h 0 (omega arith), named-from z b (sector_start z n + (z - 4)) L (λ i below. next i below))
  where
    next : (i : ℕ) → i < length L → get_or L i 0 ≡ u32_of b (place_from z (sector_start z n + (z - 4)) L i)
    next zero below = h 1 (omega arith)
    next (suc i) below = h (suc (suc i)) (omega arith) ∙ ap (u32_of b) (place_shift z p (sector_start z n + (z - 4)) n L i)

pub table_sound : (z : ℕ) (b : List ℕ) (f : ℕ) (L A : List ℕ) → difat_of (difat_count z f) 68 z b [] ≡ Ok L → fat_sectors_of f 0 z b L L ≡ Ok A → IsTable z b f L (record { sectors = A; words = table_words z b A })
unfolding IsDistinct
table_sound z b f L A dl fa =
    let d = difat_of-ok (difat_count z f) 68 z b [] L dl in
    let a = fat_of-ok f 0 z b L L A fa in
    record {
      difat_length = d.0;
      difat_named = named-at z b 68 L d.1;
      named = a.0;
      whole = all-append (λ n. n < whole_count z b) L A d.3 a.2;
      apart = new-apart L A (new-apart [] L tt d.2) a.1;
      words = refl;
    }

pub table_only : (z : ℕ) (b : List ℕ) (f : ℕ) (L : List ℕ) (t : Table) → IsTrue (is_size z) → IsTable z b f L t → (difat_of (difat_count z f) 68 z b [] ≡ Ok L) × (fat_sectors_of f 0 z b L L ≡ Ok t.sectors)
table_only z b f L t h is =
    let w = all-split (λ n. n < whole_count z b) L t.sectors is.whole in
    let d = distinct-split L t.sectors is.apart in
    (difat_of-from (difat_count z f) 68 z b [] L h is.difat_length (named-from z b 68 L is.difat_named) (apart-new [] L d.0) w.0, fat_of-from f 0 z b L L t.sectors h is.named (apart-new L t.sectors is.apart) w.1)
