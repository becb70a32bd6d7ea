-- One turn of a walk: what is unmapped so far is nothing, or the first is found.
use Rattle.std.proofs.Common.{◌≡◌, ◌∙◌, refl, sym, ap, subst, ℕ, ◌+◌, Bool, true, false, List, [], ◌∷◌, ◌++◌, drop, map, add_assoc}
use Rattle.std.specs.Prelude.{◌||◌, Some, slice_get, if◌then◌else◌}
use Rattle.std.specs.List.{list_any}
use Rattle.carrier_model.specs.Lists.{first_of_list}
use Rattle.carrier_model.specs.Values.{Prop}
use Rattle.carrier_model.proofs.Trees.{drop_at}
use Rattle.text8_model.specs.Pages.{page_of}
use Rattle.text8_model.specs.Unmapped as told
use Rattle.text8_model.specs.Unicode.{is_to_convert, value_by, bad_value, converted_prop, bad_prop, bad_from}
use Rattle.tree_text8.specs.Ends.{IsEndOf}
use Rattle.tree_text8.specs.declared.ends.TextEnd.{TextEnd}
use Rattle.tree_text8.specs.declared.ends.TextEnd.TheVariants.{Unmapped, NoMemory}
use Rattle.tree_text8.specs.Walks.{AreOne}
use Rattle.tree_text8.proofs.Numbers.{prop_one}

-- the end of a part that comes first
pub first_part : (xs ys : List told.Unmapped) (u : told.Unmapped) → first_of_list xs ≡ Some u → first_of_list (xs ++ ys) ≡ Some u
first_part [] ys u e = absurd (let wrong : ⊥ = cc in wrong)
first_part (x ∷ xs) ys u e = e

pub end_first : (xs ys : List told.Unmapped) (e : TextEnd) → IsEndOf xs e → IsEndOf (xs ++ ys) e
end_first xs ys (Unmapped u) h = first_part xs ys _ h
end_first xs ys NoMemory h = tt

-- the end of a part behind one in which nothing is unmapped
pub end_later : (xs ys : List told.Unmapped) (e : TextEnd) → xs ≡ [] → IsEndOf ys e → IsEndOf (xs ++ ys) e
end_later xs ys e none h = subst (λ (l : List told.Unmapped). IsEndOf (l ++ ys) e) (sym none) h

pub end_as : (xs ys : List told.Unmapped) (e : TextEnd) → xs ≡ ys → IsEndOf xs e → IsEndOf ys e
end_as xs ys e same h = subst (λ (l : List told.Unmapped). IsEndOf l e) same h

-- ---- properties of a list

module _ (code : ℕ) (props : List Prop) (first k number : ℕ) (p : Prop) (at : slice_get props k ≡ Some p) (one : AreOne number (first + k)) where
  turn : bad_from code props (first + k) (drop k props) ≡ bad_prop code props number p ++ bad_from code props (first + (k + 1)) (drop (k + 1) props)
  turn = ap (bad_from code props (first + k)) (drop_at props k p at) ∙ (λ i. sym (prop_one code props number (first + k) p one) i ++ bad_from code props (add_assoc first k 1 i) (drop (k + 1) props))

  pub list_good : bad_prop code props number p ≡ [] → bad_from code props first props ≡ bad_from code props (first + k) (drop k props) → bad_from code props first props ≡ bad_from code props (first + (k + 1)) (drop (k + 1) props)
  list_good good so_far = so_far ∙ (turn ∙ ap (λ l. l ++ bad_from code props (first + (k + 1)) (drop (k + 1) props)) good)

  pub list_end : (e : TextEnd) → IsEndOf (bad_prop code props number p) e → bad_from code props first props ≡ bad_from code props (first + k) (drop k props) → IsEndOf (bad_from code props first props) e
  list_end e h so_far = end_as _ _ e (sym (so_far ∙ turn)) (end_first (bad_prop code props number p) (bad_from code props (first + (k + 1)) (drop (k + 1) props)) e h)

-- ---- lists in which nothing is converted

pub neither : (a b : Bool) → (a || b) ≡ false → (a ≡ false) × (b ≡ false)
neither true b h = absurd cc
neither false b h = (refl, h)

when_not : (b : Bool) (code : ℕ) (p : Prop) → b ≡ false → (if b then record { key = p.key; value = value_by (page_of code) p.value } else p) ≡ p
when_not b code p e = rw e refl

pub none_converted : (code : ℕ) (props ps : List Prop) → list_any (is_to_convert props) ps ≡ false → map (converted_prop code props) ps ≡ ps
none_converted code props [] none = refl
none_converted code props (p ∷ ps) none =
    let (here, behind) = neither (is_to_convert props p) (list_any (is_to_convert props) ps) none in
    let one = when_not (is_to_convert props p) code p here in
    let rest = none_converted code props ps behind in
    λ i. one i ∷ rest i

pub none_bad : (code : ℕ) (props : List Prop) (n : ℕ) (ps : List Prop) → list_any (is_to_convert props) ps ≡ false → bad_from code props n ps ≡ []
none_bad code props n [] none = refl
none_bad code props n (p ∷ ps) none =
    let (here, behind) = neither (is_to_convert props p) (list_any (is_to_convert props) ps) none in
    let one : bad_prop code props n p ≡ [] = ap (λ b. if b then bad_value code n (page_of code) p.value else []) here in
    let rest = none_bad code props (n + 1) ps behind in
    λ i. one i ++ rest i
