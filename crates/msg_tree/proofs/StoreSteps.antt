-- One turn of a walk over the members of a store.
use Rattle.std.proofs.Common.{◌≡◌, ◌∙◌, ap, refl, sym, subst, ℕ, zero, suc, ◌+◌, ◌≤◌, ◌<◌, List, [], ◌∷◌, ◌++◌, length, take, Some, arith, Bool, true, false}
use Rattle.std.specs.Prelude.{slice_get, IfSome, nat_eq, not}
use Rattle.std.specs.Cmp.Lexicographic.{pointwise}
use Rattle.std.proofs.lemmas.Slice.Eq.{bytes_eq-Decides}
use Rattle.carrier_model.specs.FileTrees.{FileTree, Store, Member, Named, bytes_at, store_at, files_from, files_listed, storage_depth}
use Rattle.carrier_model.proofs.Messages.{taken_at}
use Rattle.msg_tree.specs.Shapes.{MemberFits}
use Rattle.msg_tree.proofs.Stored.{files-listed, listed-files}

-- how deep what stands under a name is
abbrev pub member_depth : Member → ℕ
member_depth (bytes_at bytes) = 0
member_depth (store_at inner) = storage_depth inner.members + 1

depth_from_list : (xs : List Named) (k : ℕ) (x : Named) → slice_get xs k ≡ Some x → member_depth x.1 ≤ storage_depth (files_from xs)
depth_from_list [] k x at = cc
depth_from_list ((name, bytes_at bytes) ∷ xs) zero x at = let e : (name, bytes_at bytes) ≡ x = cc in omega (arith, ap (λ y. member_depth y.1) e)
depth_from_list ((name, store_at inner) ∷ xs) zero x at = let e : (name, store_at inner) ≡ x = cc in omega (arith, ap (λ y. member_depth y.1) e)
depth_from_list ((name, bytes_at bytes) ∷ xs) (suc k) x at = depth_from_list xs k x at
depth_from_list ((name, store_at inner) ∷ xs) (suc k) x at = omega (arith, depth_from_list xs k x at)

-- no member is deeper than all
pub member_depth_le : (f : FileTree) (k : ℕ) (x : Named) → slice_get (files_listed f) k ≡ Some x → member_depth x.1 ≤ storage_depth f
member_depth_le f k x at = omega (arith, depth_from_list (files_listed f) k x at, ap storage_depth (listed-files f))

some_at : (xs : List Named) (k : ℕ) → k < length xs → (x : Named) × (slice_get xs k ≡ Some x)
some_at [] k lt = absurd (omega (arith, lt))
some_at (x ∷ xs) zero lt = (x, refl)
some_at (x ∷ xs) (suc k) lt = some_at xs k (omega (arith, lt))

-- the member at a place has this name and is this
pub named_at : (xs : List Named) (k : ℕ) (n : List ℕ) (m : Member) → k < length xs → IfSome (slice_get xs k) (λ e. e.0 ≡ n) → IfSome (slice_get xs k) (λ e. e.1 ≡ m) → slice_get xs k ≡ Some (n, m)
named_at xs k n m lt a b =
    let (x, at) = some_at xs k lt in
    let p : x.0 ≡ n = subst (λ o. IfSome o (λ (e : Named). e.0 ≡ n)) at a in
    let q : x.1 ≡ m = subst (λ o. IfSome o (λ (e : Named). e.1 ≡ m)) at b in
    at ∙ (λ i. Some (p i, q i))

pub member_at : (xs : List Named) (k : ℕ) (m : Member) → k < length xs → IfSome (slice_get xs k) (λ e. e.1 ≡ m) → (n : List ℕ) × (slice_get xs k ≡ Some (n, m))
member_at xs k m lt b =
    let (x, at) = some_at xs k lt in
    let q : x.1 ≡ m = subst (λ o. IfSome o (λ (e : Named). e.1 ≡ m)) at b in
    (x.0, at ∙ (λ i. Some (x.0, q i)))

-- a store of some members, with one more
pub pushed : (class : List ℕ) (xs : List Named) (new : Store) (x : Named) (k : ℕ) (old : Store) → old ≡ record { class = class; members = files_from (take k xs) } → slice_get xs k ≡ Some x → new ≡ record { class = old.class; members = files_from (files_listed old.members ++ x ∷ []) } → new ≡ record { class = class; members = files_from (take (k + 1) xs) }
pushed class xs new x k old is at e =
    let listed : files_listed old.members ++ x ∷ [] ≡ take (k + 1) xs = ap (λ (s : Store). files_listed s.members ++ x ∷ []) is ∙ (ap (λ l. l ++ x ∷ []) (files-listed (take k xs)) ∙ sym (taken_at xs k x at)) in
    e ∙ (λ i. record { class = (is i).class; members = files_from (listed i) })

pub store_same : (s t : Store) → s.class ≡ t.class → files_listed s.members ≡ files_listed t.members → s ≡ t
store_same s t c l =
    let m : s.members ≡ t.members = sym (listed-files s.members) ∙ (ap files_from l ∙ listed-files t.members) in
    λ i. record { class = c i; members = m i }

-- names that are not the same
pub not_same : (m n : List ℕ) → true ≡ not (pointwise nat_eq m n) → m ≡ n → ⊥
not_same m n e same = by (pointwise nat_eq m n) ((bytes_eq-Decides m n).1 same) e
  where
    by : (b : Bool) → b ≡ true → true ≡ not b → ⊥
    by true p q = absurd cc
    by false p q = absurd cc

pub are_same : (m n : List ℕ) → false ≡ not (pointwise nat_eq m n) → m ≡ n
are_same m n e = (bytes_eq-Decides m n).0 (by (pointwise nat_eq m n) e)
  where
    by : (b : Bool) → false ≡ not b → b ≡ true
    by true p = refl
    by false p = absurd cc

-- what two lists that are one have at a place
pub name_of_two : (xs ys : List Named) (k : ℕ) (m n : List ℕ) → xs ≡ ys → k < length xs → IfSome (slice_get xs k) (λ e. e.0 ≡ m) → IfSome (slice_get ys k) (λ e. e.0 ≡ n) → m ≡ n
name_of_two xs ys k m n e lt a b =
    let (x, at) = some_at xs k lt in
    let p : x.0 ≡ m = subst (λ o. IfSome o (λ (e : Named). e.0 ≡ m)) at a in
    let q : x.0 ≡ n = subst (λ o. IfSome o (λ (e : Named). e.0 ≡ n)) (ap (λ l. slice_get l k) (sym e) ∙ at) b in
    sym p ∙ q

pub member_of_two : (xs ys : List Named) (k : ℕ) (m n : Member) → xs ≡ ys → k < length xs → IfSome (slice_get xs k) (λ e. e.1 ≡ m) → IfSome (slice_get ys k) (λ e. e.1 ≡ n) → m ≡ n
member_of_two xs ys k m n e lt a b =
    let (x, at) = some_at xs k lt in
    let p : x.1 ≡ m = subst (λ o. IfSome o (λ (e : Named). e.1 ≡ m)) at a in
    let q : x.1 ≡ n = subst (λ o. IfSome o (λ (e : Named). e.1 ≡ n)) (ap (λ l. slice_get l k) (sym e) ∙ at) b in
    sym p ∙ q

-- what fits at a place
pub fits_some : (n : ℕ) (xs : List Named) (k : ℕ) (name : List ℕ) (m : Member) → slice_get xs k ≡ Some (name, m) → MemberFits n m → (x : Named) → slice_get xs k ≡ Some x → MemberFits n x.1
fits_some n xs k name m at h x e = subst (λ (y : Named). MemberFits n y.1) (same (sym at ∙ e)) h
  where
    same : {y : Named} → Some (name, m) ≡ Some y → (name, m) ≡ y
    same p = cc
