-- A name's place among the names of a store, and a member put there.
use Rattle.std.proofs.Common.{◌≡◌, ◌⊎◌, ◌∙◌, ap, refl, sym, subst, ℕ, zero, suc, ◌+◌, ◌≤◌, ◌<◌, List, [], ◌∷◌, length, get_or, arith, inl, inr}
use Rattle.std.specs.Prelude.{slice_get, IfSome}
use Rattle.std.specs.List.{insert}
use Rattle.std.specs.Ordering.{ordering_reverse}
use Rattle.std.specs.declared.cmp.Ordering.TheVariants.{Less, Equal, Greater}
use Rattle.std.proofs.lemmas.Bool.{cases_lt}
use Rattle.carrier_model.specs.FileTrees as plain
use Rattle.carrier_model.specs.FileTrees.{FileTree, Member, bytes_at, store_at, file_names, files_from, files_listed, with_member, in_front, sibling_cmp}
use Rattle.carrier_model.specs.Places.{IsGap, IsPlace}
use Rattle.carrier_model.specs.Sorted.{IsStrictlySorted}
use Rattle.carrier_model.specs.Stores.{AreInOrder}
use Rattle.carrier_model.proofs.Place.{sorted_insert}
use Rattle.carrier_model.proofs.StoreOrder.{sibling_total, equal_folded, folded_equal}
use Rattle.msg_tree.specs.Inserting.{HasName}
use Rattle.msg_tree.proofs.Stored.{listed-files}

pub names_count : (f : FileTree) → length (file_names f) ≡ length (files_listed f)
names_count plain.no_file = refl
names_count (plain.stream name bytes others) = ap suc (names_count others)
names_count (plain.storage name class inside others) = ap suc (names_count others)

-- the name at a place
pub name_is : (f : FileTree) (k : ℕ) (n d : List ℕ) → k < length (files_listed f) → IfSome (slice_get (files_listed f) k) (λ e. e.0 ≡ n) → get_or (file_names f) k d ≡ n
name_is plain.no_file k n d lt e = absurd (omega (arith, lt))
name_is (plain.stream name bytes others) zero n d lt e = e
name_is (plain.storage name class inside others) zero n d lt e = e
name_is (plain.stream name bytes others) (suc k) n d lt e = name_is others k n d (omega (arith, lt)) e
name_is (plain.storage name class inside others) (suc k) n d lt e = name_is others k n d (omega (arith, lt)) e

-- the names up to a place are below a name
abbrev pub AllBelow : List (List ℕ) → List ℕ → ℕ → Type 0
AllBelow names name k = (j : ℕ) (d : List ℕ) → j < k → sibling_cmp (get_or names j d) name ≡ Less

pub none_below : (names : List (List ℕ)) (name : List ℕ) → AllBelow names name 0
none_below names name j d lt = absurd (omega (arith, lt))

pub one_below : (names : List (List ℕ)) (name n : List ℕ) (k : ℕ) → AllBelow names name k → ((d : List ℕ) → get_or names k d ≡ n) → sibling_cmp n name ≡ Less → AllBelow names name (k + 1)
one_below names name n k below is less j d lt = elim (cases_lt j k) [
  | inl under ↦ below j d under
  | inr from ↦ let e : j ≡ k = omega (arith, lt, from) in ap (λ i. sibling_cmp (get_or names i d) name) e ∙ (ap (λ x. sibling_cmp x name) (is d) ∙ less)
]

reversed : (m n : List ℕ) → sibling_cmp m n ≡ Greater → sibling_cmp n m ≡ Less
reversed m n e = sibling_total.antisymm n m ∙ ap ordering_reverse e

reversed_less : (m n : List ℕ) → sibling_cmp m n ≡ Less → sibling_cmp n m ≡ Greater
reversed_less m n e = sibling_total.antisymm n m ∙ ap ordering_reverse e

pub gap_at : (names : List (List ℕ)) (name n : List ℕ) (k : ℕ) → IsStrictlySorted sibling_cmp names → k < length names → AllBelow names name k → ((d : List ℕ) → get_or names k d ≡ n) → sibling_cmp n name ≡ Greater → IsGap sibling_cmp names name k
gap_at names name n k sorted lt below is greater = record {
  in_range = omega (arith, lt);
  below = below;
  above = λ j d le in_range. above j d (cases_lt k j) le in_range;
}
  where
    above : (j : ℕ) (d : List ℕ) → (k < j) ⊎ (j ≤ k) → k ≤ j → j < length names → sibling_cmp (get_or names j d) name ≡ Greater
    above j d (inl over) le in_range =
        let behind : sibling_cmp n (get_or names j d) ≡ Less = ap (λ x. sibling_cmp x (get_or names j d)) (sym (is d)) ∙ sorted k j d over in_range in
        reversed_less name (get_or names j d) (sibling_total.trans name n (get_or names j d) (reversed n name greater) behind)
    above j d (inr here) le in_range = let e : j ≡ k = omega (arith, le, here) in ap (λ i. sibling_cmp (get_or names i d) name) e ∙ (ap (λ x. sibling_cmp x name) (is d) ∙ greater)

pub gap_end : (names : List (List ℕ)) (name : List ℕ) (k : ℕ) → k ≡ length names → AllBelow names name k → IsGap sibling_cmp names name k
gap_end names name k e below = record { in_range = omega (arith, e); below = below; above = λ j d le lt. absurd (omega (arith, e, le, lt)) }

pub place_at : (names : List (List ℕ)) (name n : List ℕ) (k : ℕ) → k < length names → ((d : List ℕ) → get_or names k d ≡ n) → sibling_cmp n name ≡ Equal → IsPlace sibling_cmp names name k
place_at names name n k lt is e = record { in_range = lt; equal = λ d. ap (λ x. sibling_cmp x name) (is d) ∙ e }

-- ---- insertions

inner_gap : (n name : List ℕ) (names : List (List ℕ)) (i : ℕ) → IsGap sibling_cmp (n ∷ names) name (suc i) → IsGap sibling_cmp names name i
inner_gap n name names i g = record { in_range = omega (arith, g.in_range); below = λ j d lt. g.below (suc j) d (omega (arith, lt)); above = λ j d le lt. g.above (suc j) d (omega (arith, le)) (omega (arith, lt)) }

abbrev put_in : FileTree → ℕ → List ℕ → Member → FileTree
put_in f i name m = files_from (insert (files_listed f) i (name, m))

-- a member in its place is a member in the gap
pub with_member_gap : (f : FileTree) (name : List ℕ) (m : Member) (i : ℕ) → IsGap sibling_cmp (file_names f) name i → with_member name m f ≡ put_in f i name m
with_member_gap plain.no_file name (bytes_at bytes) zero g = refl
with_member_gap plain.no_file name (store_at inner) zero g = refl
with_member_gap plain.no_file name m (suc i) g = absurd (omega (arith, g.in_range))
with_member_gap (plain.stream n x others) name (bytes_at bytes) zero g = rw (g.above 0 n (omega arith) (omega arith), listed-files others) refl
with_member_gap (plain.stream n x others) name (store_at inner) zero g = rw (g.above 0 n (omega arith) (omega arith), listed-files others) refl
with_member_gap (plain.storage n class inside others) name (bytes_at bytes) zero g = rw (g.above 0 n (omega arith) (omega arith), listed-files others) refl
with_member_gap (plain.storage n class inside others) name (store_at inner) zero g = rw (g.above 0 n (omega arith) (omega arith), listed-files others) refl
with_member_gap (plain.stream n x others) name (bytes_at bytes) (suc i) g = rw (g.below 0 n (omega arith)) (ap (plain.stream n x) (with_member_gap others name (bytes_at bytes) i (inner_gap n name (file_names others) i g)))
with_member_gap (plain.stream n x others) name (store_at inner) (suc i) g = rw (g.below 0 n (omega arith)) (ap (plain.stream n x) (with_member_gap others name (store_at inner) i (inner_gap n name (file_names others) i g)))
with_member_gap (plain.storage n class inside others) name (bytes_at bytes) (suc i) g = rw (g.below 0 n (omega arith)) (ap (plain.storage n class inside) (with_member_gap others name (bytes_at bytes) i (inner_gap n name (file_names others) i g)))
with_member_gap (plain.storage n class inside others) name (store_at inner) (suc i) g = rw (g.below 0 n (omega arith)) (ap (plain.storage n class inside) (with_member_gap others name (store_at inner) i (inner_gap n name (file_names others) i g)))

names_front : (name : List ℕ) (m : Member) (f : FileTree) → file_names (in_front name m f) ≡ name ∷ file_names f
names_front name (bytes_at bytes) f = refl
names_front name (store_at inner) f = refl

put_names : (f : FileTree) (i : ℕ) (name : List ℕ) (m : Member) → i ≤ length (file_names f) → file_names (put_in f i name m) ≡ insert (file_names f) i name
put_names f zero name m le = names_front name m (files_from (files_listed f)) ∙ ap (λ g. name ∷ file_names g) (listed-files f)
put_names plain.no_file (suc i) name m le = absurd (omega (arith, le))
put_names (plain.stream n x others) (suc i) name m le = ap (λ l. n ∷ l) (put_names others i name m (omega (arith, le)))
put_names (plain.storage n class inside others) (suc i) name m le = ap (λ l. n ∷ l) (put_names others i name m (omega (arith, le)))

pub put_order : (f : FileTree) (i : ℕ) (name : List ℕ) (m : Member) → AreInOrder f → IsGap sibling_cmp (file_names f) name i → AreInOrder (put_in f i name m)
put_order f i name m sorted g = subst (IsStrictlySorted sibling_cmp) (sym (put_names f i name m g.in_range)) (sorted_insert sibling_total (file_names f) name i sorted g)

-- a name in a gap is none of the names, and one at a place is
pub gap_is_new : (f : FileTree) (name : List ℕ) (i : ℕ) → IsGap sibling_cmp (file_names f) name i → HasName f name → ⊥
gap_is_new f name i g (other, (k, lt, is), e) = elim (cases_lt k i) [
  | inl under ↦ (let wrong : Less ≡ Equal = sym (g.below k other under) ∙ (ap (λ x. sibling_cmp x name) is ∙ folded_equal other name e) in cc)
  | inr from ↦ (let wrong : Greater ≡ Equal = sym (g.above k other from lt) ∙ (ap (λ x. sibling_cmp x name) is ∙ folded_equal other name e) in cc)
]

pub place_has : (f : FileTree) (name : List ℕ) (i : ℕ) → IsPlace sibling_cmp (file_names f) name i → HasName f name
place_has f name i p = (get_or (file_names f) i [], (i, p.in_range, same (file_names f) i p.in_range), equal_folded (get_or (file_names f) i []) name (p.equal []))
  where
    same : (xs : List (List ℕ)) (k : ℕ) → k < length xs → get_or xs k (get_or xs k []) ≡ get_or xs k []
    same [] k lt = absurd (omega (arith, lt))
    same (x ∷ xs) zero lt = refl
    same (x ∷ xs) (suc k) lt = by_tail x xs k
      where
        by_tail : (x : List ℕ) (xs : List (List ℕ)) (k : ℕ) → get_or xs k (get_or xs k []) ≡ get_or xs k []
        by_tail x [] k = refl
        by_tail x (y ∷ ys) zero = refl
        by_tail x (y ∷ ys) (suc k) = by_tail y ys k
