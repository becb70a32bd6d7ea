-- Names that rise are apart, and each has one place.
use Rattle.std.proofs.Common.{◌≡◌, ℕ, zero, suc, ◌+◌, ◌-◌, ◌<◌, ◌≤◌, List, [], ◌∷◌, ◌++◌, length, get_or, drop, map, true, false, nat_eq, refl, sym, ◌∙◌, ap, subst, arith, inl, inr, Option, None, Some, Ok}
use Rattle.std.specs.Char.{to_ascii_lowercase}
use Rattle.std.specs.Cmp.{IsTotalOrder}
use Rattle.std.specs.Cmp.Lexicographic.{pointwise, slice_cmp}
use Rattle.std.specs.Option.{option_map}
use Rattle.std.specs.Ordering.{is_lt, nat_cmp, ordering_reverse}
use Rattle.std.specs.declared.cmp.Ordering.{Ordering}
use Rattle.std.specs.declared.cmp.Ordering.TheVariants.{Less, Equal, Greater}
use Rattle.std.proofs.lemmas.Bool.{cases_Bool, cases_eq, cases_lt}
use Rattle.std.proofs.lemmas.Cmp.{nat_cmp_total, nat_list_cmp_total, nat_list_eq_equiv, on_total, then_total}
use Rattle.std.proofs.lemmas.Map.Lookups.{exact_bytes}
use Rattle.std.proofs.Math.Seq.{get_or-append_seam}
use Rattle.std.proofs.lemmas.List.{append_assoc, length-append, length-map, get_or-map, map-append, get_or_append_left}
use Rattle.std.proofs.lemmas.Slice.Eq.{bytes_eq-Decides}
use Rattle.carrier_model.specs.Files.{folded, family_names}
use Rattle.carrier_model.specs.Links.{Directory}
use Rattle.carrier_model.proofs.Orders.{both_equal}
use Rattle.carrier_model.proofs.Pairs.{equal_to_itself}
use Rattle.cfb_directory.specs.Named.{key_of, first_named, name_at}
use Rattle.cfb_directory.specs.ByName.{at_place}
use Rattle.cfb_directory.specs.Rising.{key_cmp, Rise, place_among}
use Rattle.cfb_directory.proofs.NameLaws.{name_step}

pub key_total : IsTotalOrder key_cmp
key_total = then_total (on_total length nat_cmp_total) nat_list_cmp_total

-- ---- the order of two names, unit by unit

abbrev pub names_from : List ℕ → List ℕ → ℕ → Ordering
names_from one other k = slice_cmp nat_cmp (map to_ascii_lowercase (drop k one)) (map to_ascii_lowercase (drop k other))

abbrev pub key_from : List ℕ → List ℕ → ℕ → Ordering
key_from name key k = slice_cmp nat_cmp (map to_ascii_lowercase (drop k name)) (drop k key)

-- ---- names that rise

differ : (x y : List ℕ) (o : Ordering) → key_cmp x y ≡ o → (o ≡ Equal → ⊥) → x ≡ y → ⊥
differ x y o is unequal same = unequal (sym is ∙ (ap (λ z. key_cmp z y) same ∙ equal_to_itself key_total y))

-- one more name that comes after the last one
pub rise_more : (keys : List (List ℕ)) (k : ℕ) → 0 < k → ((i j : ℕ) → i < j → j < k → key_cmp (get_or keys i []) (get_or keys j []) ≡ Less) → key_cmp (get_or keys (k - 1) []) (get_or keys k []) ≡ Less → (i j : ℕ) → i < j → j < k + 1 → key_cmp (get_or keys i []) (get_or keys j []) ≡ Less
rise_more keys k some before last i j lt below =
    elim (cases_eq j k) [
      | inl newest ↦ subst (λ n. key_cmp (get_or keys i []) (get_or keys n []) ≡ Less) (sym newest) (elim (cases_eq i (k - 1)) [
        | inl near ↦ subst (λ n. key_cmp (get_or keys n []) (get_or keys k []) ≡ Less) (sym near) last
        | inr far ↦ key_total.trans (get_or keys i []) (get_or keys (k - 1) []) (get_or keys k []) (before i (k - 1) (omega (arith, lt, newest, far)) (omega (arith, some))) last
      ])
      | inr earlier ↦ before i j lt (omega (arith, below, earlier))
    ]

-- ---- the place of a name

same_place : (q k : List ℕ) → q ≡ k → pointwise nat_eq q k ≡ true
same_place q k is = subst (λ z. pointwise nat_eq q z ≡ true) is (nat_list_eq_equiv.refl q)

other_place : (q k : List ℕ) → (q ≡ k → ⊥) → pointwise nat_eq q k ≡ false
other_place q k differs =
    elim (cases_Bool (pointwise nat_eq q k)) [
      | inl same ↦ absurd (differs ((bytes_eq-Decides q k).0 same))
      | inr other ↦ other
    ]

pub no_place : (keys : List (List ℕ)) (q : List ℕ) → ((i : ℕ) → i < length keys → get_or keys i [] ≡ q → ⊥) → place_among keys q ≡ None
no_place [] q none = refl
no_place (k ∷ keys) q none = rw (other_place q k (λ e. none 0 (omega arith) (sym e)), no_place keys q (λ i lt. none (suc i) (omega (arith, lt)))) refl

pub one_place : (keys : List (List ℕ)) (q : List ℕ) (k : ℕ) → Rise keys → k < length keys → get_or keys k [] ≡ q → place_among keys q ≡ Some k
one_place [] q k rise lt is = absurd (omega (arith, lt))
one_place (x ∷ keys) q zero rise lt is = rw (same_place q x (sym is)) refl
one_place (x ∷ keys) q (suc k) rise lt is =
    let first : key_cmp x q ≡ Less = subst (λ z. key_cmp x z ≡ Less) is (rise 0 (suc k) (omega arith) lt) in
    rw (other_place q x (λ e. differ x q Less first (λ h. cc) (sym e)), one_place keys q k (λ i j a b. rise (suc i) (suc j) (omega (arith, a)) (omega (arith, b))) (omega (arith, lt)) is) refl

-- what a search has found: the name itself, or that none is left
pub found_place : (keys : List (List ℕ)) (q : List ℕ) (k : ℕ) → Rise keys → k < length keys → key_cmp (get_or keys k []) q ≡ Equal → place_among keys q ≡ Some k
found_place keys q k rise lt is = one_place keys q k rise lt (exact_bytes _ _ (both_equal (nat_cmp (length (get_or keys k [])) (length q)) (slice_cmp nat_cmp (get_or keys k []) q) is).1)

pub none_left : (keys : List (List ℕ)) (q : List ℕ) (low high : ℕ) → high ≤ low → ((i : ℕ) → i < low → key_cmp (get_or keys i []) q ≡ Less) → ((i : ℕ) → high ≤ i → i < length keys → key_cmp (get_or keys i []) q ≡ Greater) → place_among keys q ≡ None
none_left keys q low high met below above = no_place keys q (λ i lt. elim (cases_lt i low) [
  | inl under ↦ differ (get_or keys i []) q Less (below i under) (λ h. cc)
  | inr over ↦ differ (get_or keys i []) q Greater (above i (omega (arith, met, over)) lt) (λ h. cc)
])

-- all before a name that is below, and all behind one that is above
pub all_below : (keys : List (List ℕ)) (q : List ℕ) (k : ℕ) → Rise keys → k < length keys → key_cmp (get_or keys k []) q ≡ Less → (i : ℕ) → i < k + 1 → key_cmp (get_or keys i []) q ≡ Less
all_below keys q k rise lt is i under =
    elim (cases_eq i k) [
      | inl same ↦ subst (λ n. key_cmp (get_or keys n []) q ≡ Less) (sym same) is
      | inr before ↦ key_total.trans (get_or keys i []) (get_or keys k []) q (rise i k (omega (arith, under, before)) lt) is
    ]

pub all_above : (keys : List (List ℕ)) (q : List ℕ) (k : ℕ) → Rise keys → key_cmp (get_or keys k []) q ≡ Greater → (i : ℕ) → k ≤ i → i < length keys → key_cmp (get_or keys i []) q ≡ Greater
all_above keys q k rise is i over lt =
    elim (cases_eq k i) [
      | inl same ↦ subst (λ n. key_cmp (get_or keys n []) q ≡ Greater) same is
      | inr behind ↦ turned (get_or keys i []) q (key_total.trans q (get_or keys k []) (get_or keys i []) (turned_less (get_or keys k []) q is) (rise k i (omega (arith, over, behind)) lt))
    ]
  where
    turned_less : (x y : List ℕ) → key_cmp x y ≡ Greater → key_cmp y x ≡ Less
    turned_less x y e = key_total.antisymm y x ∙ ap ordering_reverse e

    turned : (x y : List ℕ) → key_cmp y x ≡ Less → key_cmp x y ≡ Greater
    turned x y e = key_total.antisymm x y ∙ ap ordering_reverse e

-- what is compared are the names in lower case
pub order_at : (names : List (List ℕ)) (k : ℕ) (x key : List ℕ) (o r : Ordering) → k < length names → x ≡ get_or names k [] → o ≡ key_cmp (folded x) key → o ≡ r → key_cmp (get_or (map folded names) k []) key ≡ r
order_at names k x key o r lt is order answer = ap (λ n. key_cmp n key) (get_or-map folded names k [] [] lt ∙ ap folded (sym is)) ∙ (sym order ∙ answer)

pub next_rises : (names : List (List ℕ)) (k : ℕ) (x y : List ℕ) (o : Ordering) → 0 < k → k < length names → x ≡ get_or names (k - 1) [] → y ≡ get_or names k [] → o ≡ key_cmp (folded x) (folded y) → is_lt o ≡ true → key_cmp (get_or (map folded names) (k - 1) []) (get_or (map folded names) k []) ≡ Less
next_rises names k x y o some lt one other order less =
    ap (key_cmp (get_or (map folded names) (k - 1) [])) (get_or-map folded names k [] [] lt ∙ ap folded (sym other))
    ∙ order_at names (k - 1) x (folded y) o Less (omega (arith, some, lt)) one order (is_less o less)
  where
    is_less : (o : Ordering) → is_lt o ≡ true → o ≡ Less
    is_less Less e = refl
    is_less Equal e = absurd (cc)
    is_less Greater e = absurd (cc)

-- ---- siblings whose names rise

none_before : (key : ℕ → List ℕ) (k : List ℕ) (xs : List ℕ) → ((i : ℕ) → i < length xs → key (get_or xs i 0) ≡ k → ⊥) → first_named key k xs ≡ None
none_before key k [] none = refl
none_before key k (x ∷ xs) none = rw (other_place k (key x) (λ e. none 0 (omega arith) (sym e)), none_before key k xs (λ i lt. none (suc i) (omega (arith, lt)))) refl

less_than : (key : ℕ → List ℕ) (before rest : List ℕ) (x i : ℕ) → Rise (map key (before ++ x ∷ rest)) → i < length before → key_cmp (key (get_or before i 0)) (key x) ≡ Less
less_than key before rest x i rise lt =
    let all = before ++ x ∷ rest in
    let inside : length before < length all = rw (length-append before (x ∷ rest)) (omega arith) in
    let far : length before < length (map key all) = rw (length-map all key) inside in
    let one : get_or (map key all) i [] ≡ key (get_or before i 0) = get_or-map key all i 0 [] (omega (arith, lt, inside)) ∙ ap key (get_or_append_left before (x ∷ rest) 0 i lt) in
    let other : get_or (map key all) (length before) [] ≡ key x = get_or-map key all (length before) 0 [] inside ∙ ap key (get_or-append_seam before x rest 0) in
    (λ k. key_cmp (sym one k) (sym other k)) ∙ rise i (length before) lt far

apart_after : (d : Directory) (before rest : List ℕ) → Rise (map (key_of d) (before ++ rest)) → family_names d rest (map (key_of d) before) ≡ Ok tt
unfolding family_names
apart_after d before [] rise = refl
apart_after d before (x ∷ rest) rise =
    let none : first_named (key_of d) (key_of d x) before ≡ None = none_before (key_of d) (key_of d x) before (λ i lt. differ (key_of d (get_or before i 0)) (key_of d x) Less (less_than (key_of d) before rest x i rise lt) (λ h. cc)) in
    name_step d before rest x _ refl none
    ∙ (ap (family_names d rest) (sym (map-append (key_of d) before (x ∷ [])))
    ∙ apart_after d (before ++ x ∷ []) rest (subst (λ l. Rise (map (key_of d) l)) (sym (append_assoc before (x ∷ []) rest)) rise))

keys_are : (d : Directory) (ids : List ℕ) → map folded (map (name_at d) ids) ≡ map (key_of d) ids
keys_are d [] = refl
keys_are d (x ∷ ids) = λ i. key_of d x ∷ keys_are d ids i

behind_first : (x : ℕ) (ids : List ℕ) (r : Option ℕ) → at_place (x ∷ ids) (option_map (λ n. suc n) r) ≡ at_place ids r
behind_first x ids None = refl
behind_first x ids (Some k) = refl

at_first : (key : ℕ → List ℕ) (q ids : List ℕ) → at_place ids (place_among (map key ids) q) ≡ first_named key q ids
at_first key q [] = refl
at_first key q (x ∷ ids) =
    elim (cases_Bool (pointwise nat_eq q (key x))) [
      | inl same ↦ rw same refl
      | inr other ↦ rw other (behind_first x ids (place_among (map key ids) q) ∙ at_first key q ids)
    ]

pub rising_found : (d : Directory) (names : List (List ℕ)) (ids q : List ℕ) → names ≡ map (name_at d) ids → at_place ids (place_among (map folded names) q) ≡ first_named (key_of d) q ids
rising_found d names ids q is = ap (λ l. at_place ids (place_among l q)) (ap (map folded) is ∙ keys_are d ids) ∙ at_first (key_of d) q ids

pub rising_apart : (d : Directory) (names : List (List ℕ)) (ids : List ℕ) → names ≡ map (name_at d) ids → Rise (map folded names) → family_names d ids [] ≡ Ok tt
rising_apart d names ids is rise = apart_after d [] ids (subst Rise (ap (map folded) is ∙ keys_are d ids) rise)
