-- Numbered storages that are sorted are in their order.
use Rattle.std.proofs.Common.{◌≡◌, ℕ, zero, suc, ◌<◌, List, [], ◌∷◌, length, get_or, map, Bool, false, true, refl, sym, ap, subst, ◌∙◌, add-one, arith}
use Rattle.std.specs.Prelude.{IsPermutation}
use Rattle.std.specs.Cmp.{IsTotalOrder, IsStrictWeakOrder}
use Rattle.std.specs.List.{AllByRecursion, IsDistinct}
use Rattle.std.specs.List.Sorted.{IsSortedBy}
use Rattle.std.specs.Ordering.{is_lt, nat_cmp, ordering_reverse}
use Rattle.std.specs.declared.cmp.Ordering.{Ordering}
use Rattle.std.specs.declared.cmp.Ordering.TheVariants.{Less, Equal, Greater}
use Rattle.std.proofs.lemmas.Cmp.{nat_cmp_total}
use Rattle.std.proofs.lemmas.List.Sorted.{IsPermutation-map, IsPermutation-sym, IsPermutation-trans, ranks_by, sorted_far}
use Rattle.carrier_model.specs.Files as plain
use Rattle.carrier_model.specs.Sorted.{IsStrictlySorted, choose}
use Rattle.carrier_model.proofs.SortedElements.{equal_by, permuted_distinct}
use Rattle.carrier_model.proofs.SortedLists.{same_sorted}
use Rattle.cfb_directory.specs.Found.{storage_seen}
use Rattle.cfb_directory.specs.declared.files.Files.{Files}
use Rattle.msg_model.specs.MsgMessage.{in_order, number_cmp}
use Rattle.msg_model.proofs.WrittenChildren.{number_total}
use Rattle.msg_storage.specs.Numbered.{numbered_seen}
use Rattle.msg_storage.specs.declared.storages.Numbered.{Numbered}

all_at : {A : Type 0} (P : A → Type 0) (xs : List A) (j : ℕ) (d : A) → AllByRecursion P xs → j < length xs → P (get_or xs j d)
all_at P [] j d all lt = absurd (omega (arith, lt))
all_at P (x ∷ xs) zero d all lt = all.0
all_at P (x ∷ xs) (suc j) d all lt = all_at P xs j d all.1 (omega arith)

module _ {X A : Type 0} {R : A → A → Ordering} (o : IsTotalOrder R) (f : X → A) where
  abbrev before : X → X → Bool
  before x y = is_lt (R (f x) (f y))

  above : (a b : A) → is_lt (R b a) ≡ false → equal_by R a b ≡ false → R a b ≡ Less
  above a b h e = by (R b a) refl h e
    where
      by : (c : Ordering) → R b a ≡ c → is_lt c ≡ false → choose c false true false ≡ false → R a b ≡ Less
      by Less q g d = absurd cc
      by Equal q g d = absurd cc
      by Greater q g d = o.antisymm a b ∙ ap ordering_reverse q

  each_above : (x : X) (xs : List X) → ((k : ℕ) (d : X) → k < length xs → before (get_or xs k d) x ≡ false) → AllByRecursion (λ b. equal_by R (f x) b ≡ false) (map f xs) → AllByRecursion (λ b. R (f x) b ≡ Less) (map f xs)
  each_above x [] h e = tt
  each_above x (y ∷ ys) h e = (above (f x) (f y) (h 0 y (omega arith)) e.0, each_above x ys (λ k d lt. h (suc k) d (omega (arith, lt))) e.1)

  cons_sorted : (y : A) (l : List A) → AllByRecursion (λ z. R y z ≡ Less) l → IsStrictlySorted R l → IsStrictlySorted R (y ∷ l)
  cons_sorted y l all s zero zero d lt in_range = absurd (omega arith)
  cons_sorted y l all s zero (suc j) d lt in_range = all_at (λ z. R y z ≡ Less) l j d all (omega arith)
  cons_sorted y l all s (suc i) zero d lt in_range = absurd (omega arith)
  cons_sorted y l all s (suc i) (suc j) d lt in_range = s i j d (omega arith) (omega arith)

  tail_up : (y : X) (ys : List X) → IsSortedBy before (y ∷ ys) → IsSortedBy before ys
  tail_up y ys h k d low high =
      subst (λ (m : ℕ). before (get_or ys m d) (get_or ys k d) ≡ false) (sym (add-one k)) (subst (λ (m : ℕ). before (get_or (y ∷ ys) m d) (get_or ys k d) ≡ false) (add-one (suc k)) (h (suc k) d (omega arith) (omega (arith, high))))

  -- elements that are sorted, and of which no two are equal
  strict : (xs : List X) → IsSortedBy before xs → IsDistinct (equal_by R) (map f xs) → IsStrictlySorted R (map f xs)
  unfolding IsDistinct
  strict [] up d = λ i j e lt in_range. absurd (omega (arith, in_range))
  strict (x ∷ xs) up d = cons_sorted (f x) (map f xs) (each_above x xs (λ k e lt. sorted_far before (ranks_by o f) (x ∷ xs) up 0 (suc k) e (omega arith) (omega (arith, lt))) d.0) (strict xs (tail_up x xs up) d.1)

abbrev pub numbered_before : Numbered → Numbered → Bool
numbered_before x y = is_lt (nat_cmp x.number y.number)

pub numbered_ranks : IsStrictWeakOrder numbered_before
numbered_ranks = ranks_by nat_cmp_total (λ (x : Numbered). x.number)

pub sorted_storages : (f : Files) (old new : List Numbered) (all : List (ℕ × plain.Files)) → map (numbered_seen f) old ≡ all → IsPermutation old new → IsSortedBy numbered_before new
    → IsStrictlySorted number_cmp (in_order all) × IsPermutation all (in_order all) → map (numbered_seen f) new ≡ in_order all
sorted_storages f old new all seen p up law =
    let found : IsPermutation all (map (numbered_seen f) new) = subst (λ (l : List (ℕ × plain.Files)). IsPermutation l (map (numbered_seen f) new)) seen (IsPermutation-map (numbered_seen f) old new p) in
    let back : IsPermutation (map (numbered_seen f) new) (in_order all) = IsPermutation-trans (map (numbered_seen f) new) all (in_order all) (IsPermutation-sym all (map (numbered_seen f) new) found) law.1 in
    same_sorted number_total all (in_order all) (map (numbered_seen f) new) law.1 found law.0
    (strict number_total (numbered_seen f) new up (permuted_distinct number_total (map (numbered_seen f) new) (in_order all) back law.0))

pub storages_listed : (f : Files) (l : List Numbered) → map (λ p. p.1) (map (numbered_seen f) l) ≡ map (λ n. storage_seen f n.storage) l
storages_listed f [] = refl
storages_listed f (n ∷ l) = ap (λ r. storage_seen f n.storage ∷ r) (storages_listed f l)
