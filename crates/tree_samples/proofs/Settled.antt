-- Properties that came in order.
use Rattle.std.proofs.Common.{◌≡◌, ℕ, ◌-◌, ◌<◌, List, [], ◌++◌, length, get_or, replicate, take, refl, sym, subst, ◌∙◌, arith}
use Rattle.std.proofs.lemmas.List.{length-append, length-replicate, length-take-le, get_or-take}
use Rattle.std.proofs.lemmas.List.Sorted.{IsPermutation-refl}
use Rattle.std.proofs.lemmas.Option.{get_or_from_slice_get}
use Rattle.std.specs.declared.cmp.Ordering.TheVariants.{Less, Equal}
use Rattle.carrier_model.specs.Sorted.{IsStrictlySorted, with_elements}
use Rattle.carrier_model.specs.Values.{Prop, prop_cmp}
use Rattle.carrier_model.proofs.Orders.{prop_total}
use Rattle.carrier_model.proofs.SortedElements.{elements_good, sorted_distinct}
use Rattle.carrier_model.proofs.SortedLists.{same_sorted}
use Rattle.prop_values.specs.Arrivals.{AreMarksOf, Came, IsDoubleWith, IsFirstDouble, RiseAtFront}

-- they are their own sorted list
pub settled : (ps : List Prop) → IsStrictlySorted prop_cmp ps → with_elements prop_cmp [] ps ≡ ps
settled ps s =
    let good = elements_good prop_total ps (sorted_distinct prop_total ps s) in
    sym (same_sorted prop_total ps (with_elements prop_cmp [] ps) ps good.1 (IsPermutation-refl ps) good.0 s)

-- none of them has the key and the kind of an earlier one
apart : (ps : List Prop) (k : ℕ) → IsStrictlySorted prop_cmp ps → IsFirstDouble ps k → ⊥
apart ps k s f = clash f.double
  where
    clash : (i : ℕ) × (q : Prop) × (i < length (take k ps)) × (get_or (take k ps) i q ≡ q) × (prop_cmp q f.prop ≡ Equal) → ⊥
    clash (i, q, lt, e, same) =
        let i_in : i < k = omega (arith, lt, length-take-le k ps (omega (arith, f.in_range))) in
        let here : get_or ps k q ≡ f.prop = get_or_from_slice_get ps k f.prop q f.here in
        let there : get_or ps i q ≡ q = sym (get_or-take k ps i q i_in) ∙ e in
        let rises : prop_cmp (get_or ps i q) (get_or ps k q) ≡ Less = s i k q i_in f.in_range in
        let h : Less ≡ Equal = sym (subst (λ (z : Prop). prop_cmp z f.prop ≡ Less) there (subst (λ (z : Prop). prop_cmp (get_or ps i q) z ≡ Less) here rises)) ∙ same in
        cc

-- so there is no mark of a double
pub no_double : (c : Came) (mark : ℕ) → RiseAtFront c.props c.marks → IsStrictlySorted prop_cmp c.props → ((marks : List ℕ) → AreMarksOf c marks → IsDoubleWith c.props marks mark) → ⊥
no_double c mark r s double =
    let front : List ℕ = replicate (length c.props - length c.marks) 0 in
    let d = double (front ++ c.marks) (record {
      each = omega (arith, length-append front c.marks, length-replicate {A = ℕ} (length c.props - length c.marks) 0, r.few);
      front = front;
      parts = refl;
    }) in
    apart c.props d.place s d.first
