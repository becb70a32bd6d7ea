-- A store by its members, one by one.
use Rattle.std.proofs.Common.{◌≡◌, ◌∙◌, ap, refl, sym, subst, ℕ, zero, suc, ◌+◌, ◌-◌, ◌≤◌, ◌<◌, List, [], length, get_or, Some, arith}
use Rattle.std.specs.Prelude.{slice_get, IfSome}
use Rattle.std.specs.declared.cmp.Ordering.TheVariants.{Less}
use Rattle.std.proofs.lemmas.List.{get_or_default}
use Rattle.carrier_model.specs.FileTrees as plain
use Rattle.carrier_model.specs.FileTrees.{FileTree, Named, bytes_at, store_at, file_names, files_listed, IsFileName, storage_depth, sibling_cmp}
use Rattle.carrier_model.specs.Sorted.{IsStrictlySorted}
use Rattle.carrier_model.specs.Stores.{AreMembers}
use Rattle.carrier_model.proofs.StoreOrder.{sibling_total}
use Rattle.msg_tree.specs.Shapes.{FitsWithin, MemberFits, RisesAt, ItemFits}
use Rattle.msg_tree.proofs.Places.{names_count, name_is}

-- ---- names that rise one by one

rises_far : (names : List (List ℕ)) → ((k : ℕ) → k < length names → RisesAt names k) → (i m : ℕ) → i + suc m < length names → sibling_cmp (get_or names i []) (get_or names (i + suc m) []) ≡ Less
rises_far names h i zero lt = let e : i + 1 ≡ i + suc zero = omega arith in ap (λ j. sibling_cmp (get_or names i []) (get_or names j [])) (sym e) ∙ h (i + 1) (omega (arith, lt)) i refl
rises_far names h i (suc m) lt =
    let near = rises_far names h i m (omega (arith, lt)) in
    let next = h (i + suc (suc m)) lt (i + suc m) (omega arith) in
    sibling_total.trans (get_or names i []) (get_or names (i + suc m) []) (get_or names (i + suc (suc m)) []) near next

pub all_rise : (names : List (List ℕ)) → ((k : ℕ) → k < length names → RisesAt names k) → IsStrictlySorted sibling_cmp names
all_rise names h i j d lt in_range =
    let e : i + suc (j - i - 1) ≡ j = omega (arith, lt) in
    let far : sibling_cmp (get_or names i []) (get_or names j []) ≡ Less = subst (λ k. sibling_cmp (get_or names i []) (get_or names k []) ≡ Less) e (rises_far names h i (j - i - 1) (omega (arith, lt, in_range, e))) in
    (λ k. sibling_cmp (get_or_default names i d [] (omega (arith, lt, in_range)) k) (get_or_default names j d [] in_range k)) ∙ far

pub one_rises : (names : List (List ℕ)) (k : ℕ) → IsStrictlySorted sibling_cmp names → k < length names → RisesAt names k
one_rises names k sorted lt i e = sorted i k [] (omega (arith, e)) lt

-- ---- members

abbrev ByItself : ℕ → FileTree → ℕ → Type 0
ByItself n f k = IsFileName (get_or (file_names f) k []) × ((x : Named) → slice_get (files_listed f) k ≡ Some x → MemberFits n x.1)

all_members : (n : ℕ) (f : FileTree) → ((k : ℕ) → k < length (files_listed f) → ByItself n f k) → AreMembers f × (storage_depth f ≤ n)
all_members n plain.no_file h = (tt, omega arith)
all_members n (plain.stream name bytes others) h =
    let rest = all_members n others (λ k lt. h (suc k) (omega (arith, lt))) in
    (((h 0 (omega arith)).0, rest.0), rest.1)
all_members n (plain.storage name class inside others) h =
    let rest = all_members n others (λ k lt. h (suc k) (omega (arith, lt))) in
    let first = h 0 (omega arith) in
    let inner = first.1 (name, store_at (record { class = class; members = inside })) refl in
    ((first.0, inner.0.class, inner.0.order, inner.0.members, rest.0), omega (arith, inner.1, rest.1))

one_member : (n : ℕ) (f : FileTree) (k : ℕ) → AreMembers f → storage_depth f ≤ n → k < length (files_listed f) → ByItself n f k
one_member n plain.no_file k m le lt = absurd (omega (arith, lt))
one_member n (plain.stream name bytes others) zero m le lt = (m.0, λ x e. subst (λ (y : Named). MemberFits n y.1) (let same : (name, bytes_at bytes) ≡ x = cc in same) tt)
one_member n (plain.storage name class inside others) zero m le lt = (
  m.0,
  λ x e. subst (λ (y : Named). MemberFits n y.1) (let same : (name, store_at (record { class = class; members = inside })) ≡ x = cc in same) (record { class = m.1; order = m.2; members = m.3; depth = omega (arith, le) }, omega (arith, le)),
)
one_member n (plain.stream name bytes others) (suc k) m le lt = one_member n others k m.1 le (omega (arith, lt))
one_member n (plain.storage name class inside others) (suc k) m le lt = one_member n others k m.4 (omega (arith, le)) (omega (arith, lt))

pub items_fit : (n : ℕ) (s : plain.Store) → length s.class ≡ 16 → ((k : ℕ) → k < length (files_listed s.members) → ItemFits n s.members k) → FitsWithin n s
items_fit n s class h =
    let all = all_members n s.members (λ k lt. ((h k lt).name, (h k lt).member)) in
    record { class = class; order = all_rise (file_names s.members) (λ k lt. (h k (omega (arith, lt, names_count s.members))).rises); members = all.0; depth = all.1 }

pub item_of : (n : ℕ) (s : plain.Store) (k : ℕ) → FitsWithin n s → k < length (files_listed s.members) → ItemFits n s.members k
item_of n s k h lt =
    let one = one_member n s.members k h.members h.depth lt in
    record { name = one.0; rises = one_rises (file_names s.members) k h.order (omega (arith, lt, names_count s.members)); member = one.1 }

-- the order of a name and the one before it
pub rising_names : (f : FileTree) (k i : ℕ) (m n : List ℕ) → k ≡ i + 1 → k < length (files_listed f) → IfSome (slice_get (files_listed f) (k - 1)) (λ e. e.0 ≡ m) → IfSome (slice_get (files_listed f) k) (λ e. e.0 ≡ n) → sibling_cmp (get_or (file_names f) i []) (get_or (file_names f) k []) ≡ sibling_cmp m n
rising_names f k i m n e lt a b =
    let back : k - 1 ≡ i = omega (arith, e) in
    let before : IfSome (slice_get (files_listed f) i) (λ e. e.0 ≡ m) = subst (λ j. IfSome (slice_get (files_listed f) j) (λ e. e.0 ≡ m)) back a in
    λ j. sibling_cmp (name_is f i m [] (omega (arith, e, lt)) before j) (name_is f k n [] lt b j)
