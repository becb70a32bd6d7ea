-- Properties as they come: those at the front rise, and the marks of the others are kept.
use Rattle.std.proofs.Common.{◌≡◌, inl, inr, ℕ, ◌+◌, ◌-◌, ◌<◌, ◌≤◌, List, [], ◌∷◌, ◌++◌, length, get_or, map, take, refl, sym, ap, subst, ◌∙◌, append_assoc, arith}
use Rattle.std.specs.Prelude.{slice_get, Some}
use Rattle.std.proofs.lemmas.Bool.{cases_lt}
use Rattle.std.proofs.lemmas.List.{append-nil, length-append, length-map, length-take-le, take_all, take_at, take-append-le, get_or_append_left, get_or-append-add, get_or_default, get_or-take}
use Rattle.std.proofs.lemmas.List.Sorted.{IsPermutation-refl}
use Rattle.std.proofs.lemmas.Option.{slice_get_read, get_or_from_slice_get}
use Rattle.std.specs.declared.cmp.Ordering.TheVariants.{Less, Equal}
use Rattle.carrier_io.proofs.Joined.{slice_get-append_past}
use Rattle.carrier_model.specs.Places.{IsGap}
use Rattle.carrier_model.specs.Sorted.{IsStrictlySorted, with_elements}
use Rattle.carrier_model.specs.Values.{Prop, prop_cmp}
use Rattle.carrier_model.proofs.Orders.{prop_total}
use Rattle.carrier_model.proofs.SortedElements.{elements_good, sorted_distinct}
use Rattle.carrier_model.proofs.SortedLists.{same_sorted}
use Rattle.prop_values.specs.Arrivals.{AreDifferent, AreMarksOf, AreOrdered, Came, IsAboveLast, IsDoubleWith, IsFirstDouble, RiseAtFront}
use Rattle.prop_values.specs.Ends.{HasPairOf}
use Rattle.prop_values.proofs.Doubles.{different_distinct}

read_at : {A : Type 0} (xs : List A) (i : ℕ) (d : A) → i < length xs → slice_get xs i ≡ Some (get_or xs i d)
read_at xs i d lt = slice_get_read xs (length xs) i (get_or xs i d) refl lt (get_or_default xs i d (get_or xs i d) lt)

pub nothing_in : (xs : List ℕ) → length xs ≡ 0 → xs ≡ []
nothing_in [] e = refl
nothing_in (x ∷ xs) e = absurd (omega (arith, e))

-- ---- one more

-- what is above the last one is above each
below_all : (ps : List Prop) (p : Prop) → IsStrictlySorted prop_cmp ps → IsAboveLast ps p → (i : ℕ) (d : Prop) → i < length ps → prop_cmp (get_or ps i d) p ≡ Less
below_all ps p s above i d i_in = elim (cases_lt (i + 1) (length ps)) [
  | inl earlier ↦
      let n : ℕ = length ps - 1 in
      let n_in : n < length ps = omega (arith, i_in) in
      prop_total.trans (get_or ps i d) (get_or ps n d) p (s i n d (omega (arith, earlier)) n_in)
      (above n (get_or ps n d) (omega (arith, i_in)) (read_at ps n d n_in))
  | inr last ↦ above i (get_or ps i d) (omega (arith, i_in, last)) (read_at ps i d i_in)
]

pub gap_past : (ps : List Prop) (p : Prop) → IsStrictlySorted prop_cmp ps → IsAboveLast ps p → IsGap prop_cmp ps p (length ps)
gap_past ps p s above = record { in_range = omega arith; below = λ j d lt. below_all ps p s above j d lt; above = λ j d le lt. absurd (omega (arith, le, lt)) }

sorted_push : (ps : List Prop) (p : Prop) → IsStrictlySorted prop_cmp ps → IsAboveLast ps p → IsStrictlySorted prop_cmp (ps ++ p ∷ [])
sorted_push ps p s above i j d lt in_range = elim (cases_lt j (length ps)) [
  | inl before ↦
      subst (λ (q : Prop). prop_cmp (get_or (ps ++ p ∷ []) i d) q ≡ Less) (sym (get_or_append_left ps (p ∷ []) d j before))
      (subst (λ (q : Prop). prop_cmp q (get_or ps j d) ≡ Less) (sym (get_or_append_left ps (p ∷ []) d i (omega (arith, lt, before)))) (s i j d lt before))
  | inr from ↦
      let last : j ≡ length ps = omega (arith, from, in_range, length-append ps (p ∷ [])) in
      let at_last : get_or (ps ++ p ∷ []) j d ≡ p = subst (λ (n : ℕ). get_or (ps ++ p ∷ []) n d ≡ p) (omega (arith, last)) (get_or-append-add ps (p ∷ []) 0 d) in
      subst (λ (q : Prop). prop_cmp (get_or (ps ++ p ∷ []) i d) q ≡ Less) (sym at_last)
      (subst (λ (q : Prop). prop_cmp q p ≡ Less) (sym (get_or_append_left ps (p ∷ []) d i (omega (arith, lt, last)))) (below_all ps p s above i d (omega (arith, lt, last))))
]

all_rise : (ps : List Prop) → RiseAtFront ps [] → IsStrictlySorted prop_cmp ps
all_rise ps r = subst (IsStrictlySorted prop_cmp) (take_all (length ps - 0) ps (omega arith)) r.rise

pub risen : (ps : List Prop) (marks : List ℕ) (p : Prop) → marks ≡ [] → RiseAtFront ps marks → IsAboveLast ps p → RiseAtFront (ps ++ p ∷ []) marks
risen ps marks p e r above = subst (RiseAtFront (ps ++ p ∷ [])) (sym e) (record {
  few = omega arith;
  rise = subst (IsStrictlySorted prop_cmp) (sym (take_all (length (ps ++ p ∷ []) - 0) (ps ++ p ∷ []) (omega arith))) (sorted_push ps p (all_rise ps (subst (RiseAtFront ps) e r)) above);
})

pub marked : (ps : List Prop) (marks : List ℕ) (p : Prop) (mark : ℕ) → RiseAtFront ps marks → RiseAtFront (ps ++ p ∷ []) (marks ++ mark ∷ [])
marked ps marks p mark r =
    let n : ℕ = length ps - length marks in
    let same : n ≡ length (ps ++ p ∷ []) - length (marks ++ mark ∷ []) = omega (arith, length-append ps (p ∷ []), length-append marks (mark ∷ []), r.few) in
    record {
      few = omega (arith, length-append ps (p ∷ []), length-append marks (mark ∷ []), r.few);
      rise = subst (λ (m : ℕ). IsStrictlySorted prop_cmp (take m (ps ++ p ∷ []))) same (subst (IsStrictlySorted prop_cmp) (sym (take-append-le n ps (p ∷ []) (omega arith))) r.rise);
    }

-- a mark that is not kept, where none is
pub marks_past : (old new : Came) (p : Prop) (mark : ℕ) → old.marks ≡ [] → new.marks ≡ [] → new.props ≡ old.props ++ p ∷ [] → (all : List ℕ) → AreMarksOf old all → AreMarksOf new (all ++ mark ∷ [])
marks_past old new p mark e f g all a = record {
  each = omega (arith, length-append all (mark ∷ []), a.each, ap length g, length-append old.props (p ∷ []));
  front = all ++ mark ∷ [];
  parts = sym (append-nil (all ++ mark ∷ [])) ∙ ap (λ (z : List ℕ). (all ++ mark ∷ []) ++ z) (sym f);
}

pub marks_more : (old new : Came) (p : Prop) (mark : ℕ) → new.marks ≡ old.marks ++ mark ∷ [] → new.props ≡ old.props ++ p ∷ [] → (all : List ℕ) → AreMarksOf old all → AreMarksOf new (all ++ mark ∷ [])
marks_more old new p mark f g all a = record {
  each = omega (arith, length-append all (mark ∷ []), a.each, ap length g, length-append old.props (p ∷ []));
  front = a.front;
  parts = ap (λ (z : List ℕ). z ++ mark ∷ []) a.parts ∙ (append_assoc a.front old.marks (mark ∷ []) ∙ ap (λ (z : List ℕ). a.front ++ z) (sym f));
}

-- ---- all of them

sorted_different : (ps : List Prop) → IsStrictlySorted prop_cmp ps → AreDifferent ps
sorted_different ps s i j d lt in_range e = let h : Less ≡ Equal = sym (s i j d lt in_range) ∙ e in cc

-- those that came in order are their own sorted list
pub in_order : (ps : List Prop) (marks : List ℕ) → marks ≡ [] → RiseAtFront ps marks → IsStrictlySorted prop_cmp ps
in_order ps marks e r = all_rise ps (subst (RiseAtFront ps) e r)

pub settled_in_order : (ps : List Prop) → IsStrictlySorted prop_cmp ps → (ps ≡ with_elements prop_cmp [] ps) × AreDifferent ps
settled_in_order ps s =
    let good = elements_good prop_total ps (sorted_distinct prop_total ps s) in
    (same_sorted prop_total ps (with_elements prop_cmp [] ps) ps good.1 (IsPermutation-refl ps) good.0 s, sorted_different ps s)

-- the first double is none of those at the front
pub double_past : (ps : List Prop) (marks : List ℕ) (k : ℕ) → RiseAtFront ps marks → IsFirstDouble ps k → length ps - length marks ≤ k
double_past ps marks k r f = elim (cases_lt k (length ps - length marks)) [
  | inl under ↦ absurd (clash under f.double)
  | inr from ↦ from
]
  where
    clash : k < length ps - length marks → HasPairOf (take k ps) f.prop → ⊥
    clash under (i, q, lt, e, same) =
        let i_in : i < k = omega (arith, lt, length-take-le k ps (omega (arith, f.in_range))) in
        let m : ℕ = length ps - length marks in
        let k_in : k < length (take m ps) = omega (arith, under, length-take-le m ps (omega arith)) in
        let here : get_or ps k q ≡ f.prop = get_or_from_slice_get ps k f.prop q f.here in
        let there : get_or ps i q ≡ q = sym (get_or-take k ps i q i_in) ∙ e in
        let rises : prop_cmp (get_or (take m ps) i q) (get_or (take m ps) k q) ≡ Less = r.rise i k q i_in k_in in
        let left : get_or (take m ps) i q ≡ q = get_or-take m ps i q (omega (arith, i_in, under)) ∙ there in
        let right : get_or (take m ps) k q ≡ f.prop = get_or-take m ps k q under ∙ here in
        let h : Less ≡ Equal = sym (subst (λ (z : Prop). prop_cmp z f.prop ≡ Less) left (subst (λ (z : Prop). prop_cmp (get_or (take m ps) i q) z ≡ Less) right rises)) ∙ same in
        cc

-- its mark is kept
pub double_marked : (ps : List Prop) (marks : List ℕ) (k m d : ℕ) → RiseAtFront ps marks → IsFirstDouble ps k → m ≡ k - (length ps - length marks) → (all : List ℕ) → AreMarksOf (record { props = ps; marks = marks }) all → IsDoubleWith ps all (get_or marks m d)
double_marked ps marks k m d r f at all a =
    let past : length ps - length marks ≤ k = double_past ps marks k r f in
    let many : length a.front ≡ length ps - length marks = omega (arith, a.each, ap length a.parts, length-append a.front marks, r.few) in
    let there : m < length marks = omega (arith, at, past, f.in_range, r.few) in
    record {
      place = k;
      first = f;
      here = ap (λ (z : List ℕ). slice_get z k) a.parts ∙ (subst (λ (n : ℕ). slice_get (a.front ++ marks) n ≡ slice_get marks m) (omega (arith, at, many, past)) (slice_get-append_past a.front marks m) ∙ read_at marks m d there);
    }

-- those that are put in order
pub arranged : (ps list rest : List Prop) (places : List ℕ) (n : ℕ) (d : Prop) → AreOrdered ps places → list ≡ map (λ k. get_or ps k d) places → n ≡ length ps → take n (list ++ rest) ≡ with_elements prop_cmp [] ps
arranged ps list rest places n d o at many = take_at list rest n (omega (arith, ap length at, length-map places (λ k. get_or ps k d), o.each, many)) ∙ (at ∙ o.sorted d)

pub arranged_sorted : (ps list : List Prop) → list ≡ with_elements prop_cmp [] ps → AreDifferent ps → IsStrictlySorted prop_cmp list
arranged_sorted ps list e d = subst (IsStrictlySorted prop_cmp) (sym e) (elements_good prop_total ps (different_distinct ps d)).0
