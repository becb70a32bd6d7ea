-- The place of an attachment's object in a list of properties.
use Rattle.std.proofs.Common.{◌≡◌, ℕ, zero, suc, List, [], ◌∷◌, Bool, true, false, take, drop, not, refl, ap, arith}
use Rattle.std.specs.Prelude.{filter, nat_lt}
use Rattle.std.specs.Ordering.{nat_cmp, ordering_then}
use Rattle.std.specs.declared.cmp.Ordering.{Ordering}
use Rattle.std.specs.declared.cmp.Ordering.TheVariants.{Less, Equal, Greater}
use Rattle.std.proofs.lemmas.Cmp.{ranked}
use Rattle.std.proofs.lemmas.Bool.{lt-ltb}
use Rattle.std.proofs.lemmas.Bool.Decides.{nat_tests}
use Rattle.std.proofs.Math.Seq.{take-nil, drop-nil}
use Rattle.carrier_model.specs.Keys.{id, key_cmp}
use Rattle.carrier_model.specs.Places.{IsCut}
use Rattle.carrier_model.specs.Sorted.{choose}
use Rattle.carrier_model.specs.Kinds.{comes_before_object}
use Rattle.carrier_model.specs.Values.{Prop, prop_cmp, kind_of, with_pair}

pub record Parted {A : Type 0} (f : A → Bool) (l : List A) (n : ℕ) : Type 0 where
  pub front : take n l ≡ filter f l
  pub back : drop n l ≡ filter (λ p. not (f p)) l

cut_parts : {A : Type 0} (R : A → A → Ordering) (f : A → Bool) (x : A) → ((p : A) → R p x ≡ Less → f p ≡ true) → ((p : A) → (R p x ≡ Less → ⊥) → f p ≡ false) → (l : List A) (n : ℕ) → IsCut R l x n → Parted f l n
cut_parts R f x when other [] n c = record { front = take-nil n; back = drop-nil n }
cut_parts R f x when other (p ∷ l) zero c =
    let is = other p (c.others 0 p (omega arith) (omega arith)) in
    let rest = cut_parts R f x when other l zero (record { in_range = omega arith; below = λ j d lt. absurd (omega arith); others = λ j d le lt. c.others (suc j) d (omega arith) (omega arith) }) in
    record { front = rw is rest.front; back = rw is (ap (λ (z : List _). p ∷ z) rest.back) }
cut_parts R f x when other (p ∷ l) (suc n) c =
    let is = when p (c.below 0 p (omega arith)) in
    let rest = cut_parts R f x when other l n (record { in_range = omega (arith, c.in_range); below = λ j d lt. c.below (suc j) d (omega arith); others = λ j d le lt. c.others (suc j) d (omega arith) (omega arith) }) in
    record { front = rw is (ap (λ (z : List _). p ∷ z) rest.front); back = rw is rest.back }

before_object : (p : Prop) → prop_cmp p (with_pair (id 0x3701) 0x000D) ≡ Less → comes_before_object p ≡ true
before_object p e = by (key_cmp p.key (id 0x3701)) e
  where
    kinds : (o : Ordering) → o ≡ nat_cmp (kind_of p.value) 0x000D → o ≡ Less → nat_lt (kind_of p.value) 0x000D ≡ true
    kinds Less is e = lt-ltb (kind_of p.value) 0x000D (ranked (kind_of p.value) 0x000D Less is)
    kinds Equal is e = absurd cc
    kinds Greater is e = absurd cc

    by : (o : Ordering) → ordering_then o (nat_cmp (kind_of p.value) 0x000D) ≡ Less → choose o true (nat_lt (kind_of p.value) 0x000D) false ≡ true
    by Less e = refl
    by Equal e = kinds (nat_cmp (kind_of p.value) 0x000D) refl e
    by Greater e = absurd cc

not_before_object : (p : Prop) → (prop_cmp p (with_pair (id 0x3701) 0x000D) ≡ Less → ⊥) → comes_before_object p ≡ false
not_before_object p differs = by (key_cmp p.key (id 0x3701)) differs
  where
    kinds : (o : Ordering) → o ≡ nat_cmp (kind_of p.value) 0x000D → (o ≡ Less → ⊥) → nat_lt (kind_of p.value) 0x000D ≡ false
    kinds Less is n = absurd (n refl)
    kinds Equal is n = let h = ranked (kind_of p.value) 0x000D Equal is in grind (arith, nat_tests)
    kinds Greater is n = let h = ranked (kind_of p.value) 0x000D Greater is in grind (arith, nat_tests)

    by : (o : Ordering) → (ordering_then o (nat_cmp (kind_of p.value) 0x000D) ≡ Less → ⊥) → choose o true (nat_lt (kind_of p.value) 0x000D) false ≡ false
    by Less n = absurd (n refl)
    by Equal n = kinds (nat_cmp (kind_of p.value) 0x000D) refl n
    by Greater n = refl

pub object_parts : (l : List Prop) (n : ℕ) → IsCut prop_cmp l (with_pair (id 0x3701) 0x000D) n → Parted comes_before_object l n
object_parts l n c = cut_parts prop_cmp comes_before_object (with_pair (id 0x3701) 0x000D) before_object not_before_object l n c
