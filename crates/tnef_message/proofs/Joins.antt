-- Properties put into their places in a sorted list.
use Rattle.std.proofs.Common.{◌≡◌, ℕ, Bool, true, false, List, [], ◌∷◌, ◌++◌, refl, sym, ap, ◌∙◌}
use Rattle.std.specs.Prelude.{Any, ◌&&◌, not, filter, cond}
use Rattle.std.proofs.lemmas.List.Elements.{at_read, filter_agree}
use Rattle.std.specs.declared.cmp.Ordering.TheVariants.{Equal}
use Rattle.carrier_model.specs.Places.{IsPlace}
use Rattle.carrier_model.specs.Sorted.{IsStrictlySorted, with_element, with_elements}
use Rattle.carrier_model.specs.Keys.{is_id}
use Rattle.tnef_model.specs.TnefMessage.{has_key_of}
use Rattle.tnef_message.specs.Sections.{beside_if, stays}
use Rattle.carrier_model.specs.Values.{Prop, prop_cmp}
use Rattle.carrier_model.proofs.Orders.{prop_total}
use Rattle.carrier_model.proofs.Place.{with_element_there}
use Rattle.carrier_model.proofs.Trees.{with_elements-append}

place_of : (l : List Prop) (p : Prop) → Any (λ q. prop_cmp q p ≡ Equal) l → (i : ℕ) × IsPlace prop_cmp l p i
place_of l p (i, q, lt, e, same) = (i, record { in_range = lt; equal = at_read l (λ (z : Prop). prop_cmp z p ≡ Equal) i q lt (sym e) same })

-- a property that is there changes nothing
pub there : (l : List Prop) (p : Prop) → IsStrictlySorted prop_cmp l → Any (λ q. prop_cmp q p ≡ Equal) l → l ≡ with_element prop_cmp l p
there l p s h = let at = place_of l p h in sym (with_element_there prop_total l p at.0 s at.1)

pub more_elements : (l now next done : List Prop) (p : Prop) → now ≡ with_elements prop_cmp l done → next ≡ with_element prop_cmp now p → next ≡ with_elements prop_cmp l (done ++ p ∷ [])
more_elements l now next done p e f = f ∙ ap (λ (z : List Prop). with_element prop_cmp z p) e ∙ sym (with_elements-append prop_cmp l done (p ∷ []))

filter_both : {A : Type 0} (p q : A → Bool) (xs : List A) → filter (λ x. p x && q x) xs ≡ filter p (filter q xs)
filter_both p q [] = refl
filter_both {A} p q (x ∷ xs) = by (p x) (q x) refl (filter_both p q xs)
  where
    by : (a b : Bool) → p x ≡ a → filter (λ x. p x && q x) xs ≡ filter p (filter q xs) → cond (a && b) (x ∷ filter (λ x. p x && q x) xs) (filter (λ x. p x && q x) xs) ≡ filter p (cond b (x ∷ filter q xs) (filter q xs))
    by true true e h = rw e (ap (λ (z : List A). x ∷ z) h)
    by true false e h = h
    by false true e h = rw e h
    by false false e h = h

and_true : (a : Bool) → (a && true) ≡ a
and_true true = refl
and_true false = refl

pub stays_beside : (embeds : Bool) (props more : List Prop) → filter (stays embeds props) more ≡ filter (λ p. not (has_key_of props p)) (beside_if embeds more)
stays_beside true props more = filter_both (λ (p : Prop). not (has_key_of props p)) (λ (p : Prop). not (is_id 0x3701 p.key)) more
stays_beside false props more = filter_agree (stays false props) (λ (p : Prop). not (has_key_of props p)) (λ (p : Prop). and_true (not (has_key_of props p))) more
