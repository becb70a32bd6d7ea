-- The turns of a loop that takes a list apart, and what was marked of its elements.
use Rattle.std.proofs.Common.{◌≡◌, ◌∙◌, refl, sym, ap, ℕ, suc, ◌+◌, List, [], ◌∷◌, ◌++◌, take, drop, map, length, get_or, arith}
use Rattle.std.specs.Prelude.{Result, Ok, Err, OnOk, IfErr, Some, slice_get}
use Rattle.std.proofs.lemmas.List.{get_or-map}
use Rattle.std.proofs.lemmas.Option.{get_or_from_slice_get, slice_get_within}

behind_yielded : {A : Type 0} (ys : List A) (x : A) (zs : List A) → slice_get ((ys ++ x ∷ []) ++ zs) (length ys) ≡ Some x
behind_yielded [] x zs = refl
behind_yielded (y ∷ ys) x zs = behind_yielded ys x zs

split : {A : Type 0} (ys : List A) (x : A) (zs : List A) → (ys ++ x ∷ []) ++ zs ≡ ys ++ x ∷ zs
split [] x zs = refl
split (y ∷ ys) x zs = ap (λ l. y ∷ l) (split ys x zs)

pub turn_left : {A : Type 0} (ys : List A) (x : A) (zs rest all : List A) → rest ≡ x ∷ zs → ys ++ rest ≡ all → (ys ++ x ∷ []) ++ zs ≡ all
turn_left ys x zs rest all is left = split ys x zs ∙ (ap (λ l. ys ++ l) (sym is) ∙ left)

longer : {A : Type 0} (ys : List A) (x : A) → length (ys ++ x ∷ []) ≡ suc (length ys)
longer [] x = refl
longer (y ∷ ys) x = ap (λ n. suc n) (longer ys x)

pub turn_count : {A : Type 0} (ys : List A) (x : A) (k : ℕ) → k ≡ length ys → k + 1 ≡ length (ys ++ x ∷ [])
turn_count ys x k count = let one : k + 1 ≡ suc k = omega arith in one ∙ (ap (λ n. suc n) count ∙ sym (longer ys x))

pub turn_counted : {A : Type 0} (x : A) (zs rest : List A) (long left : ℕ) → rest ≡ x ∷ zs → left + 1 ≡ long → length rest ≡ long → length zs ≡ left
turn_counted x zs rest long left is one counted =
    let two : suc (length zs) ≡ length rest = ap length (sym is) in
    omega (arith, one, counted, two)

none_of : {A : Type 0} (rest : List A) → length rest ≡ 0 → rest ≡ []
none_of [] e = refl
none_of (x ∷ rest) e = absurd (let wrong : ⊥ = cc in wrong)

pub end_left : {A : Type 0} (ys rest all : List A) → length rest ≡ 0 → ys ++ rest ≡ all → ys ++ [] ≡ all
end_left ys rest all none left = ap (λ l. ys ++ l) (sym (none_of rest none)) ∙ left

pub next_at : {A : Type 0} (ys : List A) (x : A) (zs all : List A) (k : ℕ) → (ys ++ x ∷ []) ++ zs ≡ all → k ≡ length ys → slice_get all k ≡ Some x
next_at ys x zs all k left count = (λ i. slice_get (sym left i) (count i)) ∙ behind_yielded ys x zs

pub mark_at : {A B : Type 0} (f : A → B) (xs : List A) (k : ℕ) (x : A) (marks : List B) (mark : B) → slice_get xs k ≡ Some x → marks ≡ map f xs → mark ≡ get_or marks k mark → f x ≡ mark
mark_at f xs k x marks mark at made is = sym (is ∙ (ap (λ l. get_or l k mark) made ∙ (get_or-map f xs k x mark (slice_get_within xs k x at) ∙ ap f (get_or_from_slice_get xs k x x at))))

take_front : {A : Type 0} (ys : List A) → take (length ys) (ys ++ []) ≡ ys ++ []
take_front [] = refl
take_front (y ∷ ys) = ap (λ l. y ∷ l) (take_front ys)

drop_front : {A : Type 0} (ys : List A) → drop (length ys) (ys ++ []) ≡ []
drop_front [] = refl
drop_front (y ∷ ys) = drop_front ys

pub whole_taken : {A : Type 0} (ys all : List A) (k : ℕ) → ys ++ [] ≡ all → k ≡ length ys → take k all ≡ all
whole_taken ys all k left count = (λ i. take (count i) (sym left i)) ∙ (take_front ys ∙ left)

pub none_left : {A : Type 0} (ys all : List A) (k : ℕ) → ys ++ [] ≡ all → k ≡ length ys → drop k all ≡ []
none_left ys all k left count = (λ i. drop (count i) (sym left i)) ∙ drop_front ys

-- ---- what follows of a call's result

pub ok_then : {A E : Type 0} {P Q : Type 0} (r : Result A E) → (P → Q) → OnOk r P → OnOk r Q
ok_then (Ok a) f h = f h
ok_then (Err e) f h = tt

pub err_then : {A E : Type 0} {P Q : E → Type 0} (r : Result A E) → ((e : E) → P e → Q e) → IfErr r P → IfErr r Q
err_then (Ok a) f h = tt
err_then (Err e) f h = f e h
