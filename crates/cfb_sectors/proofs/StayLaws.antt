-- Marks that stay, and one more that is set.
use Rattle.std.proofs.Common.{◌≡◌, ℕ, zero, suc, List, [], ◌∷◌, get_or, set, Bool, true, false, refl}
use Rattle.cfb_sectors.specs.Stays.{Stay}

stays-set : (m : List Bool) (x n : ℕ) → get_or m n false ≡ true → get_or (set m x true) n false ≡ true
stays-set [] x n h = h
stays-set (b ∷ m) zero zero h = refl
stays-set (b ∷ m) zero (suc n) h = h
stays-set (b ∷ m) (suc x) zero h = h
stays-set (b ∷ m) (suc x) (suc n) h = stays-set m x n h

pub stay-set : (old m : List Bool) (x : ℕ) → Stay old m → Stay old (set m x true)
stay-set old m x stay = λ n h. stays-set m x n (stay n h)
