-- The property lists of samples are in order.
use Rattle.std.proofs.Common.{◌≡◌, ℕ, zero, suc, ◌+◌, ◌<◌, ◌%◌, List, [], ◌∷◌, map, refl, sym, arith}
use Rattle.std.specs.Cmp.{nat_cmp_is}
use Rattle.std.specs.List.{range_with_len}
use Rattle.std.specs.Prelude.{All, codes}
use Rattle.std.specs.declared.cmp.Ordering.{Ordering}
use Rattle.std.specs.declared.cmp.Ordering.TheVariants.{Less}
use Rattle.std.proofs.lemmas.List.FromFn.{length-map-range_with_len, get_or-map-range_with_len}
use Rattle.carrier_model.specs.Keys.{id}
use Rattle.carrier_model.specs.SmallTrees.{integer32, string_prop}
use Rattle.carrier_model.specs.Sorted.{IsStrictlySorted}
use Rattle.carrier_model.specs.Values.{Prop, prop_cmp, bytes}
use Rattle.text_model.specs.SampleTrees.{named_prop, sample_props}
use Rattle.text_model.specs.TreeTexts.{counted}

-- one in front of others that are all above it
sorted_front : {A : Type 0} (R : A → A → Ordering) (x : A) (xs : List A) → All (λ y. R x y ≡ Less) xs → IsStrictlySorted R xs → IsStrictlySorted R (x ∷ xs)
sorted_front R x xs below s zero zero d lt in_range = absurd (omega (arith, lt))
sorted_front R x xs below s zero (suc j) d lt in_range = below j d (omega (arith, in_range))
sorted_front R x xs below s (suc i) zero d lt in_range = absurd (omega (arith, lt))
sorted_front R x xs below s (suc i) (suc j) d lt in_range = s i j d (omega (arith, lt)) (omega (arith, in_range))

all_front : {A : Type 0} (P : A → Type 0) (x : A) (xs : List A) → P x → All P xs → All P (x ∷ xs)
all_front P x xs one all zero d lt = one
all_front P x xs one all (suc k) d lt = all k d (omega (arith, lt))

pub nothing_sorted : {A : Type 0} (R : A → A → Ordering) → IsStrictlySorted R []
nothing_sorted R i j d lt in_range = absurd (omega (arith, in_range))

pub one_sorted : {A : Type 0} (R : A → A → Ordering) (x : A) → IsStrictlySorted R (x ∷ [])
one_sorted R x = sorted_front R x [] (λ k d lt. absurd (omega (arith, lt))) (nothing_sorted R)

-- one property is above another
abbrev Above : Prop → Prop → Type 0
Above p q = prop_cmp p q ≡ Less

-- ---- the named ones

named_rise : (i j : ℕ) → i < j → prop_cmp (named_prop i) (named_prop j) ≡ Less
named_rise i j lt = rw (sym (nat_cmp_is (0x8500 + i) (0x8500 + j) Less (omega (arith, lt)))) refl

names_sorted : (n : ℕ) → IsStrictlySorted prop_cmp (map named_prop (range_with_len 0 n))
names_sorted n i j d lt in_range =
    let few : j < n = omega (arith, in_range, length-map-range_with_len named_prop 0 n) in
    rw (get_or-map-range_with_len named_prop 0 n i i d (omega (arith, lt, few)) (omega arith), get_or-map-range_with_len named_prop 0 n j j d few (omega arith)) (named_rise i j lt)

names_above : (p : Prop) (n : ℕ) → ((i : ℕ) → prop_cmp p (named_prop i) ≡ Less) → All (Above p) (map named_prop (range_with_len 0 n))
names_above p n below k d lt =
    let few : k < n = omega (arith, lt, length-map-range_with_len named_prop 0 n) in
    rw (get_or-map-range_with_len named_prop 0 n k k d few (omega arith)) (below k)

-- ---- the lists

pub sample_sorted : (n : ℕ) → IsStrictlySorted prop_cmp (sample_props n)
sample_sorted n =
    let names : List Prop = map named_prop (range_with_len 0 n) in
    let a : Prop = integer32 0x0017 (n % 3) in
    let b : Prop = string_prop 0x001A (codes "IPM.Note") in
    let c : Prop = string_prop 0x0037 (counted (codes "sample") n) in
    sorted_front prop_cmp a (b ∷ c ∷ names) (all_front (Above a) b (c ∷ names) refl (all_front (Above a) c names refl (names_above a n (λ i. refl))))
    (sorted_front prop_cmp b (c ∷ names) (all_front (Above b) c names refl (names_above b n (λ i. refl)))
    (sorted_front prop_cmp c names (names_above c n (λ i. refl)) (names_sorted n)))

pub data_sorted : (x : List ℕ) → IsStrictlySorted prop_cmp (record { key = id 0x3701; value = bytes 0x0102 x } ∷ integer32 0x3705 1 ∷ [])
data_sorted x =
    let a : Prop = record { key = id 0x3701; value = bytes 0x0102 x } in
    let b : Prop = integer32 0x3705 1 in
    sorted_front prop_cmp a (b ∷ []) (all_front (Above a) b [] refl (λ k d lt. absurd (omega (arith, lt)))) (one_sorted prop_cmp b)
