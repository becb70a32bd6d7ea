-- Units of 16 bits, written and read again.
use Rattle.std.proofs.Common.{◌≡◌, ℕ, zero, suc, ◌+◌, ◌*◌, ◌/◌, ◌<◌, ◌≤◌, ◌^◌, ◌%◌, List, [], ◌∷◌, ◌++◌, refl, ap, arith, length, take, take_all, get_or}
use Rattle.std.specs.Prelude.{All}
use Rattle.carrier_model.specs.Bytes.{units_of, unit_bytes, AllBytes}
use Rattle.std.specs.List.{AllByRecursion}

pub units_again : (units : List ℕ) → All (λ unit. unit < 2 ^ 16) units → units_of (unit_bytes units) ≡ units
units_again [] h = refl
units_again (u ∷ units) h =
    let here : u % 256 + 256 * (u / 256 % 256) ≡ u = let lt : u < 2 ^ 16 = h 0 u (omega arith) in omega arith in
    let rest : units_of (unit_bytes units) ≡ units = units_again units (λ k d lt. h (suc k) d (omega arith)) in
    λ i. here i ∷ rest i

pub length-units : (units : List ℕ) → length (unit_bytes units) ≡ 2 * length units
length-units [] = refl
length-units (u ∷ units) = let h = length-units units in omega arith

pub units_below : (x : List ℕ) → AllBytes x → AllByRecursion (λ unit. unit < 2 ^ 16) (units_of x)
units_below [] h = tt
units_below (low ∷ []) h = tt
units_below (low ∷ high ∷ x) h =
    let a : low < 256 = h 0 in
    let b : high < 256 = h 1 in
    (omega arith, units_below x (λ i. h (suc (suc i))))

-- ---- units that are read one after another

pub units_front : (x : List ℕ) (k : ℕ) → 2 * k + 1 < length x → units_of (take (2 * (k + 1)) x) ≡ units_of (take (2 * k) x) ++ (get_or x (2 * k) 0 + 256 * get_or x (2 * k + 1) 0) ∷ []
units_front [] k h = absurd (omega arith)
units_front (a ∷ []) k h = absurd (omega arith)
units_front (a ∷ b ∷ x) zero h = refl
units_front (a ∷ b ∷ x) (suc k) h =
    let e : 2 * (suc k + 1) ≡ suc (suc (2 * (k + 1))) = omega arith in
    let f : 2 * suc k ≡ suc (suc (2 * k)) = omega arith in
    let g : 2 * suc k + 1 ≡ suc (suc (2 * k + 1)) = omega arith in
    rw (e, g, f) (ap (λ l. (a + 256 * b) ∷ l) (units_front x k (omega arith)))

pub units_whole : (x : List ℕ) (k : ℕ) → length x / 2 ≤ k → units_of (take (2 * k) x) ≡ units_of x
units_whole [] k h = ap units_of (take_all (2 * k) [] (omega arith))
units_whole (a ∷ []) zero h = refl
units_whole (a ∷ []) (suc k) h = ap units_of (take_all (2 * suc k) (a ∷ []) (omega arith))
units_whole (a ∷ b ∷ x) zero h = absurd (omega arith)
units_whole (a ∷ b ∷ x) (suc k) h =
    let f : 2 * suc k ≡ suc (suc (2 * k)) = omega arith in
    rw f (ap (λ l. (a + 256 * b) ∷ l) (units_whole x k (omega arith)))

pub units_halve : (x : List ℕ) → length (units_of x) ≡ length x / 2
units_halve [] = refl
units_halve (low ∷ []) = omega arith
units_halve (low ∷ high ∷ x) = omega (arith, units_halve x)
