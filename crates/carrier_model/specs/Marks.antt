-- Marks of sectors, which stand for the lists that took them.
use Rattle.std.specs.Prelude.{◌≡◌, ℕ, ◌<◌, List, [], ◌∷◌, length, get_or, set, Bool, true, false, not, ◌&&◌, nat_lt, cond, ◌+◌}
use Rattle.carrier_model.specs.Chains.{Leads, member}

-- each number of the list marked, in turn
abbrev pub mark_all : List Bool → List ℕ → List Bool
mark_all m [] = m
mark_all m (n ∷ c) = mark_all (set m n true) c

-- below the bound, whole, and not marked
abbrev pub is_free : ℕ → ℕ → List Bool → ℕ → Bool
is_free bound whole m n = nat_lt n bound && (nat_lt n whole && not (get_or m n false))

-- each number is free when its turn comes
abbrev pub AreFree : ℕ → ℕ → List Bool → List ℕ → Type 0
AreFree bound whole m [] = Unit {0}
AreFree bound whole m (n ∷ c) = (is_free bound whole m n ≡ true) × AreFree bound whole (set m n true) c

-- how many are not marked
abbrev pub unmarked : List Bool → ℕ
unmarked [] = 0
unmarked (b ∷ m) = cond b 0 1 + unmarked m

-- The list c is walked from s over sectors that are free, and stops at x, which is not.
pub record Stops (T : List ℕ) (s bound whole : ℕ) (m : List Bool) (c : List ℕ) (x : ℕ) : Type 0 where
  pub linked : Leads T s c x
  pub free : AreFree bound whole m c
  pub stuck : is_free bound whole (mark_all m c) x ≡ false

-- The marks are those of a list, up to n.
abbrev pub Marks : List Bool → List ℕ → Type 0
Marks m earlier = (n : ℕ) → n < length m → get_or m n false ≡ member n earlier
