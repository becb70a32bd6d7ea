-- Lists of sectors that are taken one after another.
use Rattle.std.proofs.Common.{◌≡◌, ℕ, zero, suc, ◌+◌, ◌-◌, ◌<◌, ◌≤◌, List, [], ◌∷◌, ◌++◌, refl, sym, ◌∙◌, ap, arith, Ok, Err, Result}
use Rattle.std.proofs.lemmas.List.{append_assoc, append-nil}
use Rattle.carrier_model.specs.Trail.{Fault}
use Rattle.carrier_model.specs.Outcomes.{◌>>=◌}
use Rattle.carrier_model.specs.Reasons.{SHARED, CYCLE}
use Rattle.carrier_model.specs.Sectors.{sector_start}
use Rattle.carrier_model.specs.Tables.{sector_of, fat_sectors_of, difat_of, fat_place}
use Rattle.carrier_io.specs.declared.reasons.Stop.{Stop}
use Rattle.carrier_io.specs.declared.reasons.Stop.TheVariants as stops
use Rattle.carrier_io.specs.Reads.{Fails}

-- the same with a front before the list
abbrev pub with_front : List ℕ → Result (List ℕ) Fault → Result (List ℕ) Fault
with_front front (Ok rest) = Ok (front ++ rest)
with_front front (Err g) = Err g

pub with_front-twice : (xs ys : List ℕ) (r : Result (List ℕ) Fault) → with_front xs (with_front ys r) ≡ with_front (xs ++ ys) r
with_front-twice xs ys (Ok rest) = ap (λ l. Ok l) (sym (append_assoc xs ys rest))
with_front-twice xs ys (Err f) = refl

pub with_front-none : (r : Result (List ℕ) Fault) → with_front [] r ≡ r
with_front-none (Ok rest) = refl
with_front-none (Err f) = refl

pub fat_more : (k i z : ℕ) (b L e xs : List ℕ) (n : ℕ) → sector_of z b (fat_place z L i) SHARED e ≡ Ok n → with_front xs (fat_sectors_of (suc k) i z b L e) ≡ with_front (xs ++ n ∷ []) (fat_sectors_of k (i + 1) z b L (e ++ n ∷ []))
unfolding fat_sectors_of
fat_more k i z b L e xs n is = rw is (ap (with_front xs) (again (fat_sectors_of k (i + 1) z b L (e ++ n ∷ []))) ∙ with_front-twice xs (n ∷ []) _)
  where
    again : (r : Result (List ℕ) Fault) → (r >>= λ rest. Ok (n ∷ rest)) ≡ with_front (n ∷ []) r
    again (Ok rest) = refl
    again (Err f) = refl

-- what stops one of them stops the whole
pub fat_stop : (k i z : ℕ) (b L e xs : List ℕ) (s : Stop) → Fails s (sector_of z b (fat_place z L i) SHARED e) → Fails s (with_front xs (fat_sectors_of (suc k) i z b L e))
unfolding fat_sectors_of
fat_stop k i z b L e xs stops.NoMemory h = tt
fat_stop k i z b L e xs (stops.Fault f) h = rw h refl

-- The step of a loop that takes FAT sectors, and its exits.
pub fat_step : (z : ℕ) (count i p : ℕ) (b L e xs : List ℕ) (n : ℕ) (r : Result (List ℕ) Fault) → i < count → r ≡ with_front xs (fat_sectors_of (count - i) i z b L (e ++ xs)) → p ≡ fat_place z L i → sector_of z b p SHARED (e ++ xs) ≡ Ok n → r ≡ with_front (xs ++ n ∷ []) (fat_sectors_of (count - (i + 1)) (i + 1) z b L (e ++ (xs ++ n ∷ [])))
fat_step z count i p b L e xs n r below is at here =
    let one : count - i ≡ suc (count - (i + 1)) = omega arith in
    is ∙ (ap (λ k. with_front xs (fat_sectors_of k i z b L (e ++ xs))) one ∙ (fat_more (count - (i + 1)) i z b L (e ++ xs) xs n (rw at at here)
    ∙ ap (λ l. with_front (xs ++ n ∷ []) (fat_sectors_of (count - (i + 1)) (i + 1) z b L l)) (append_assoc e xs (n ∷ []))))

pub fat_halt : (z : ℕ) (count i p : ℕ) (b L e xs : List ℕ) (s : Stop) (r : Result (List ℕ) Fault) → i < count → r ≡ with_front xs (fat_sectors_of (count - i) i z b L (e ++ xs)) → p ≡ fat_place z L i → Fails s (sector_of z b p SHARED (e ++ xs)) → Fails s r
fat_halt z count i p b L e xs s r below is at here =
    let one : count - i ≡ suc (count - (i + 1)) = omega arith in
    rw (is ∙ ap (λ k. with_front xs (fat_sectors_of k i z b L (e ++ xs))) one) (fat_stop (count - (i + 1)) i z b L (e ++ xs) xs s (rw at at here))

pub fat_done : (z : ℕ) (count i : ℕ) (b L e xs : List ℕ) (r : Result (List ℕ) Fault) → count ≤ i → r ≡ with_front xs (fat_sectors_of (count - i) i z b L (e ++ xs)) → r ≡ Ok xs
unfolding fat_sectors_of
fat_done z count i b L e xs r over is =
    let none : count - i ≡ zero = omega arith in
    is ∙ (ap (λ k. with_front xs (fat_sectors_of k i z b L (e ++ xs))) none ∙ ap (λ l. Ok l) (append-nil xs))

front-bind : (n : ℕ) (r : Result (List ℕ) Fault) → (r >>= λ rest. Ok (n ∷ rest)) ≡ with_front (n ∷ []) r
front-bind n (Ok rest) = refl
front-bind n (Err f) = refl

difat_more : (z : ℕ) (k p : ℕ) (b e xs : List ℕ) (n : ℕ) → sector_of z b p CYCLE e ≡ Ok n → with_front xs (difat_of (suc k) p z b e) ≡ with_front (xs ++ n ∷ []) (difat_of k (sector_start z n + (z - 4)) z b (e ++ n ∷ []))
unfolding difat_of
difat_more z k p b e xs n is = rw is (ap (with_front xs) (front-bind n (difat_of k (sector_start z n + (z - 4)) z b (e ++ n ∷ []))) ∙ with_front-twice xs (n ∷ []) _)

difat_stop : (z : ℕ) (k p : ℕ) (b e xs : List ℕ) (s : Stop) → Fails s (sector_of z b p CYCLE e) → Fails s (with_front xs (difat_of (suc k) p z b e))
unfolding difat_of
difat_stop z k p b e xs stops.NoMemory h = tt
difat_stop z k p b e xs (stops.Fault f) h = rw h refl

pub difat_step : (z : ℕ) (count i p q : ℕ) (b e xs : List ℕ) (n : ℕ) (r : Result (List ℕ) Fault) → i < count → r ≡ with_front xs (difat_of (count - i) p z b (e ++ xs)) → q ≡ sector_start z n + (z - 4) → sector_of z b p CYCLE (e ++ xs) ≡ Ok n → r ≡ with_front (xs ++ n ∷ []) (difat_of (count - (i + 1)) q z b (e ++ (xs ++ n ∷ [])))
difat_step z count i p q b e xs n r below is next here =
    let one : count - i ≡ suc (count - (i + 1)) = omega arith in
    is ∙ (ap (λ k. with_front xs (difat_of k p z b (e ++ xs))) one ∙ (difat_more z (count - (i + 1)) p b (e ++ xs) xs n here
    ∙ (ap (λ l. with_front (xs ++ n ∷ []) (difat_of (count - (i + 1)) (sector_start z n + (z - 4)) z b l)) (append_assoc e xs (n ∷ []))
    ∙ ap (λ q. with_front (xs ++ n ∷ []) (difat_of (count - (i + 1)) q z b (e ++ (xs ++ n ∷ [])))) (sym next))))

pub difat_halt : (z : ℕ) (count i p : ℕ) (b e xs : List ℕ) (s : Stop) (r : Result (List ℕ) Fault) → i < count → r ≡ with_front xs (difat_of (count - i) p z b (e ++ xs)) → Fails s (sector_of z b p CYCLE (e ++ xs)) → Fails s r
difat_halt z count i p b e xs s r below is here =
    let one : count - i ≡ suc (count - (i + 1)) = omega arith in
    rw (is ∙ ap (λ k. with_front xs (difat_of k p z b (e ++ xs))) one) (difat_stop z (count - (i + 1)) p b (e ++ xs) xs s here)

pub difat_done : (z : ℕ) (count i p : ℕ) (b e xs : List ℕ) (r : Result (List ℕ) Fault) → count ≤ i → r ≡ with_front xs (difat_of (count - i) p z b (e ++ xs)) → r ≡ Ok xs
unfolding difat_of
difat_done z count i p b e xs r over is =
    let none : count - i ≡ zero = omega arith in
    is ∙ (ap (λ k. with_front xs (difat_of k p z b (e ++ xs))) none ∙ ap (λ l. Ok l) (append-nil xs))
