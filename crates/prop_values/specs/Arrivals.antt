-- Properties in the order in which they came.
use Rattle.std.specs.Prelude.{◌≡◌, ℕ, ◌<◌, ◌≤◌, ◌+◌, ◌-◌, ◌++◌, List, [], length, map, take, slice_get, slice_index_or, Option, Some, None, IfSome, AllPairs, IsSorted}
use Rattle.std.specs.Ordering.{nat_cmp, on, then_cmp}
use Rattle.std.specs.declared.cmp.Ordering.{Ordering}
use Rattle.std.specs.declared.cmp.Ordering.TheVariants.{Less, Equal}
use Rattle.prop_values.specs.Ends.{HasPairOf}
use Rattle.prop_values.specs.declared.arrivals.SettleEnd.{SettleEnd}
use Rattle.prop_values.specs.declared.arrivals.SettleEnd.TheVariants.{Duplicate, NoMemory}
use Rattle.prop_values.specs.declared.sorting.Order.{Order}
use Rattle.prop_values.specs.declared.sorting.Order.TheVariants.{Places, Double}
use Rattle.prop_values.specs.Arranged.{ArePlaces, AreInverse}
use Rattle.carrier_model.specs.Sorted.{IsStrictlySorted, with_elements}
use Rattle.carrier_model.specs.Values.{Prop, prop_cmp}

-- no two of them have one key and one kind
abbrev pub AreDifferent : List Prop → Type 0
AreDifferent ps = AllPairs (λ p q. prop_cmp p q ≡ Equal → ⊥) ps

-- the one at place k has the key and the kind of an earlier one, and those before it are different
pub record IsFirstDouble (ps : List Prop) (k : ℕ) : Type 0 where
  pub in_range : k < length ps
  pub prop : Prop
  pub here : slice_get ps k ≡ Some prop
  pub double : HasPairOf (take k ps) prop
  pub before : AreDifferent (take k ps)

-- the mark of the first double, where each has a mark
pub record IsDoubleWith (ps : List Prop) (marks : List ℕ) (mark : ℕ) : Type 0 where
  pub place : ℕ
  pub first : IsFirstDouble ps place
  pub here : slice_get marks place ≡ Some mark

-- the mark of the first double; or there was no memory
abbrev pub IsDoubleOf : List Prop → List ℕ → SettleEnd → Type 0
IsDoubleOf ps marks (Duplicate mark) = IsDoubleWith ps marks mark
IsDoubleOf ps marks NoMemory = Unit {0}

-- ---- what is kept of them

-- the properties, and the marks of the last of them
pub record Came : Type 0 where
  pub props : List Prop
  pub marks : List ℕ

-- a mark for each property, of which the last are kept
pub record AreMarksOf (c : Came) (all : List ℕ) : Type 0 where
  pub each : length all ≡ length c.props
  pub front : List ℕ
  pub parts : all ≡ front ++ c.marks

-- those without a mark come first, and are in order
pub record RiseAtFront (ps : List Prop) (marks : List ℕ) : Type 0 where
  pub few : length marks ≤ length ps
  pub rise : IsStrictlySorted prop_cmp (take (length ps - length marks) ps)

-- a property is the first, or above the last one
abbrev pub IsAboveLast : List Prop → Prop → Type 0
IsAboveLast ps p = (k : ℕ) (q : Prop) → k + 1 ≡ length ps → slice_get ps k ≡ Some q → prop_cmp q p ≡ Less

-- ---- elements with a property and a place

-- each one's place is where it stands
abbrev pub AreInPlace : {X : Type 0} → List X → (X → ℕ) → Type 0
AreInPlace {X} xs place = (k : ℕ) (d : X) → k < length xs → place (slice_index_or xs k d) ≡ k

-- by key and kind, and where these are the same by place
abbrev pub pair_cmp : {X : Type 0} → (X → Prop) → (X → ℕ) → X → X → Ordering
pair_cmp prop place = then_cmp (on prop prop_cmp) (on place nat_cmp)

abbrev pub IsSortedByPair : {X : Type 0} → List X → (X → Prop) → (X → ℕ) → Type 0
IsSortedByPair xs prop place = IsSorted (pair_cmp prop place) xs

-- the element at k + 1 has the place p, and the key and kind of the one at k
pub record IsDoubleAt {X : Type 0} (xs : List X) (prop : X → Prop) (place : X → ℕ) (k p : ℕ) : Type 0 where
  pub in_range : k + 1 < length xs
  pub equal : (d : X) → prop_cmp (prop (slice_index_or xs k d)) (prop (slice_index_or xs (k + 1) d)) ≡ Equal
  pub place_is : (d : X) → place (slice_index_or xs (k + 1) d) ≡ p

-- there is a place, and it is at most p
abbrev pub IsAtMost : Option ℕ → ℕ → Type 0
IsAtMost None p = ⊥
IsAtMost (Some least) p = least ≤ p

-- the least place of a double among the first n elements, or that there is none
pub record IsLeastDouble {X : Type 0} (xs : List X) (prop : X → Prop) (place : X → ℕ) (n : ℕ) (least : Option ℕ) : Type 0 where
  pub found : IfSome least (λ p. (k : ℕ) × (k + 1 < n) × IsDoubleAt xs prop place k p)
  pub all : (k p : ℕ) → k + 1 < n → IsDoubleAt xs prop place k p → IsAtMost least p

-- ---- their order

-- no two are equal, and each has its place in the sorted list
pub record AreOrdered (ps : List Prop) (places : List ℕ) : Type 0 where
  pub different : AreDifferent ps
  pub places_are : ArePlaces places
  pub each : length places ≡ length ps
  pub sorted : (d : Prop) → map (λ k. slice_index_or ps k d) places ≡ with_elements prop_cmp [] ps

-- the places, with the ranks of these among them; or the first double
abbrev pub IsOrderOf : List Prop → Order → Type 0
IsOrderOf ps (Places places ranks) = AreOrdered ps places.items × AreInverse places.items ranks.items
IsOrderOf ps (Double k) = IsFirstDouble ps k
