-- What is equal by the orders of names, keys and properties.
use Rattle.std.proofs.Common.{◌≡◌, sym, subst, ◌∙◌}
use Rattle.std.specs.Prelude.{◌↔◌}
use Rattle.std.proofs.lemmas.Map.Lookups.{CmpEqualImpliesEq, exact_unsigned}
use Rattle.std.specs.Cmp.{IsTotalOrder}
use Rattle.std.specs.Ordering.{nat_cmp, ordering_then}
use Rattle.std.specs.declared.cmp.Ordering.{Ordering}
use Rattle.std.specs.declared.cmp.Ordering.TheVariants.{Equal}
use Rattle.carrier_model.specs.Keys.{Name, Key, name_cmp, key_cmp}
use Rattle.carrier_model.specs.Values.{Prop, kind_of, prop_cmp}
use Rattle.carrier_model.proofs.Orders.{both_equal, name_total, name_exact, key_total, key_exact, prop_total}
use Rattle.carrier_model.proofs.Pairs.{equal_to_itself}

exactly : {A : Type 0} {R : A → A → Ordering} → IsTotalOrder R → CmpEqualImpliesEq R → (x y : A) → (R x y ≡ Equal) ↔ (x ≡ y)
exactly {A} {R} o exact x y = (exact x y, λ e. subst (λ (z : A). R x z ≡ Equal) e (equal_to_itself o x))

pub names_exactly : (x y : Name) → (name_cmp x y ≡ Equal) ↔ (x ≡ y)
names_exactly = exactly name_total name_exact

pub keys_exactly : (x y : Key) → (key_cmp x y ≡ Equal) ↔ (x ≡ y)
keys_exactly = exactly key_total key_exact

pub props_exactly : (p q : Prop) → (prop_cmp p q ≡ Equal) ↔ ((p.key ≡ q.key) × (kind_of p.value ≡ kind_of q.value))
props_exactly p q = (
  λ h. let same = both_equal (key_cmp p.key q.key) (nat_cmp (kind_of p.value) (kind_of q.value)) h in (key_exact _ _ same.0, exact_unsigned _ _ same.1),
  λ e. (λ i. ordering_then (key_cmp (e.0 i) q.key) (nat_cmp (e.1 i) (kind_of q.value))) ∙ equal_to_itself prop_total q,
)

-- an answer that is the order's is equal where the two are one
pub name_equal : (r : Ordering) (x y : Name) → r ≡ name_cmp x y → (r ≡ Equal) ↔ (x ≡ y)
name_equal r x y e = subst (λ (a : Ordering). (a ≡ Equal) ↔ (x ≡ y)) (sym e) (names_exactly x y)

pub key_equal : (r : Ordering) (x y : Key) → r ≡ key_cmp x y → (r ≡ Equal) ↔ (x ≡ y)
key_equal r x y e = subst (λ (a : Ordering). (a ≡ Equal) ↔ (x ≡ y)) (sym e) (keys_exactly x y)

pub pair_equal : (r : Ordering) (p q : Prop) → r ≡ prop_cmp p q → (r ≡ Equal) ↔ ((p.key ≡ q.key) × (kind_of p.value ≡ kind_of q.value))
pair_equal r p q e = subst (λ (a : Ordering). (a ≡ Equal) ↔ ((p.key ≡ q.key) × (kind_of p.value ≡ kind_of q.value))) (sym e) (props_exactly p q)
