-- Marks, lists that are walked over them, and one more member.
use Rattle.std.proofs.Common.{◌≡◌, ℕ, zero, suc, ◌+◌, ◌<◌, ◌≤◌, List, [], ◌∷◌, ◌++◌, length, get_or, set, Bool, true, false, refl, ◌∙◌, arith, replicate}
use Rattle.std.proofs.lemmas.Grind.{common_steps}
use Rattle.std.proofs.lemmas.List.{length-set}
use Rattle.carrier_model.specs.Chains.{Leads, word}
use Rattle.carrier_model.specs.Marks.{mark_all, is_free, AreFree, unmarked}

pub mark_all-push : (m : List Bool) (c : List ℕ) (x : ℕ) → mark_all m (c ++ x ∷ []) ≡ set (mark_all m c) x true
mark_all-push m [] x = refl
mark_all-push m (n ∷ c) x = mark_all-push (set m n true) c x

pub length-mark_all : (m : List Bool) (c : List ℕ) → length (mark_all m c) ≡ length m
length-mark_all m [] = refl
length-mark_all m (n ∷ c) = length-mark_all (set m n true) c ∙ length-set m n true

pub Leads-push : (T : List ℕ) (s : ℕ) (c : List ℕ) (x : ℕ) → Leads T s c x → Leads T s (c ++ x ∷ []) (word T x)
Leads-push T s [] x h = (h, refl)
Leads-push T s (n ∷ c) x h = (h.0, Leads-push T (word T n) c x h.1)

pub AreFree-push : (b w : ℕ) (m : List Bool) (c : List ℕ) (x : ℕ) → AreFree b w m c → is_free b w (mark_all m c) x ≡ true → AreFree b w m (c ++ x ∷ [])
AreFree-push b w m [] x h f = (f, tt)
AreFree-push b w m (n ∷ c) x h f = (h.0, AreFree-push b w (set m n true) c x h.1 f)

pub unmarked-set : (m : List Bool) (x : ℕ) → x < length m → get_or m x false ≡ false → unmarked (set m x true) + 1 ≡ unmarked m
unmarked-set [] x l e = absurd (omega arith)
unmarked-set (b ∷ m) zero l e = rw e (omega arith)
unmarked-set (b ∷ m) (suc x) l e = omega (arith, unmarked-set m x (omega arith) e)

pub ruleset steps_of = (mark_all-push, length-mark_all, Leads-push, AreFree-push, unmarked-set)

pub is_free-true : (b w : ℕ) (m : List Bool) (s : ℕ) → s < b → s < w → get_or m s false ≡ false → is_free b w m s ≡ true
is_free-true b w m s below whole free = grind (arith, common_steps)

pub unmarked-replicate : (n : ℕ) → unmarked (replicate n false) ≡ n
unmarked-replicate zero = refl
unmarked-replicate (suc n) = omega (arith, unmarked-replicate n)

pub unmarked-le : (m : List Bool) → unmarked m ≤ length m
unmarked-le [] = omega arith
unmarked-le (true ∷ m) = omega (arith, unmarked-le m)
unmarked-le (false ∷ m) = omega (arith, unmarked-le m)
