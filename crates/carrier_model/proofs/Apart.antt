-- Lists that are apart from one another, as one list without repeats.
use Rattle.std.proofs.Common.{◌≡◌, ℕ, List, [], ◌∷◌, ◌++◌, false, eqb, refl, sym}
use Rattle.std.proofs.lemmas.Bool.{or_parts, or_from, ne_eqb, eqb-false}
use Rattle.std.specs.List.{IsDistinct, AllByRecursion}
use Rattle.carrier_model.specs.Chains.{member}

eqb-swap : (x y : ℕ) → eqb x y ≡ false → eqb y x ≡ false
eqb-swap x y h = ne_eqb y x (λ e. eqb-false x y h (sym e))

all-both : (P : ℕ → Type 0) (xs ys : List ℕ) → AllByRecursion P xs → AllByRecursion P ys → AllByRecursion P (xs ++ ys)
all-both P [] ys h k = k
all-both P (x ∷ xs) ys h k = (h.0, all-both P xs ys h.1 k)

all-left : (P : ℕ → Type 0) (xs ys : List ℕ) → AllByRecursion P (xs ++ ys) → AllByRecursion P xs
all-left P [] ys h = tt
all-left P (x ∷ xs) ys h = (h.0, all-left P xs ys h.1)

all-right : (P : ℕ → Type 0) (xs ys : List ℕ) → AllByRecursion P (xs ++ ys) → AllByRecursion P ys
all-right P [] ys h = h
all-right P (x ∷ xs) ys h = all-right P xs ys h.1

-- the first of a list is none of the others, and the rest is apart from them
apart-head : (x : ℕ) (e c : List ℕ) → AllByRecursion (λ n. member n (x ∷ e) ≡ false) c → AllByRecursion (λ y. eqb x y ≡ false) c × AllByRecursion (λ n. member n e ≡ false) c
apart-head x e [] h = (tt, tt)
apart-head x e (n ∷ c) h =
    let one = or_parts (eqb n x) (member n e) h.0 in
    let more = apart-head x e c h.1 in
    ((eqb-swap n x one.0, more.0), (one.1, more.1))

apart-cons : (x : ℕ) (e c : List ℕ) → AllByRecursion (λ y. eqb x y ≡ false) c → AllByRecursion (λ n. member n e ≡ false) c → AllByRecursion (λ n. member n (x ∷ e) ≡ false) c
apart-cons x e [] h k = tt
apart-cons x e (n ∷ c) h k = (or_from (eqb n x) (member n e) (eqb-swap x n h.0) k.0, apart-cons x e c h.1 k.1)

apart-none : (c : List ℕ) → AllByRecursion (λ n. member n [] ≡ false) c
apart-none [] = tt
apart-none (n ∷ c) = (refl, apart-none c)

pub distinct-append : (e c : List ℕ) → IsDistinct eqb e → IsDistinct eqb c → AllByRecursion (λ n. member n e ≡ false) c → IsDistinct eqb (e ++ c)
unfolding IsDistinct
distinct-append [] c h k a = k
distinct-append (x ∷ e) c h k a =
    let parts = apart-head x e c a in
    (all-both (λ y. eqb x y ≡ false) e c h.0 parts.0, distinct-append e c h.1 k parts.1)

pub distinct-split : (e c : List ℕ) → IsDistinct eqb (e ++ c) → IsDistinct eqb e × IsDistinct eqb c × AllByRecursion (λ n. member n e ≡ false) c
unfolding IsDistinct
distinct-split [] c h = (tt, h, apart-none c)
distinct-split (x ∷ e) c h =
    let rest = distinct-split e c h.1 in
    ((all-left (λ y. eqb x y ≡ false) e c h.0, rest.0), rest.1, apart-cons x e c (all-right (λ y. eqb x y ≡ false) e c h.0) rest.2)
