-- A form's bytes mean one thing, have one first fault, and not both.
use Rattle.std.proofs.Common.{◌≡◌, ◌⊎◌, inl, inr, ℕ, zero, suc, ◌+◌, Bool, true, false, List, [], ◌∷◌, ◌++◌, length, take, refl, sym, ap, subst, ◌∙◌, append_assoc, arith}
use Rattle.std.proofs.lemmas.List.{length-append, append_cancel_left, take_at}
use Rattle.carrier_model.specs.Trail.{Fault, IsExact}
use Rattle.carrier_model.specs.Grammar.{Form, Means, gives, field, InTurn, FailsNext, and_then, FailsTest, such, placed, choice, repeat, Whole, inside}

pub record Lawful {X : Type 0} (f : Form X) : Type 0 where
  pub one : (at : ℕ) (a b : X) (s t x y : List ℕ) → f.spells at a s → f.spells at b t → s ++ x ≡ t ++ y → (b ≡ a) × (t ≡ s)
  pub single : (at : ℕ) (bytes : List ℕ) (g h : Fault) → f.fails at bytes g → f.fails at bytes h → h ≡ g
  pub apart : (at : ℕ) (a : X) (s x : List ℕ) (g : Fault) → f.spells at a s → f.fails at (s ++ x) g → ⊥

-- texts of one length at the front of the same bytes are one
same_front : (s t x y : List ℕ) → length s ≡ length t → s ++ x ≡ t ++ y → t ≡ s
same_front s t x y len e = sym (sym (take_at s x (length s) refl) ∙ ap (take (length s)) e ∙ take_at t y (length s) (sym len))

-- what is left of the same bytes behind equal texts
same_back : (s t x y : List ℕ) → t ≡ s → s ++ x ≡ t ++ y → x ≡ y
same_back s t x y same e = append_cancel_left s x y (e ∙ ap (λ (z : List ℕ). z ++ y) same)

same_faults : (reason at : ℕ) (g h : Fault) → g ≡ (reason, at) → h ≡ (reason, at) → h ≡ g
same_faults reason at g h p q = q ∙ sym p

pub gives_lawful : {X : Type 0} (a : X) → Lawful (gives a)
gives_lawful a = record {
  one = λ at b c s t x y p q e. (q.0 ∙ sym p.0, q.1 ∙ sym p.1);
  single = λ at bytes g h p q. absurd p;
  apart = λ at b s x g p q. q;
}

pub field_lawful : (n reason : ℕ) → Lawful (field n reason)
field_lawful n reason = record {
  one = λ at a b s t x y p q e. (
      let same : t ≡ s = same_front s t x y (p.1 ∙ sym q.1) e in
      (q.0 ∙ same ∙ sym p.0, same));
  single = λ at bytes g h p q. same_faults reason at g h p.1 q.1;
  apart = λ at a s x g p q. omega (arith, p.1, q.0, length-append s x);
}

module _ {X Y : Type 0} (f : Form X) (next : X → Form Y) (lf : Lawful f) (ln : (x : X) → Lawful (next x)) where
  then_one : (at : ℕ) (a b : Y) (s t x y : List ℕ) → InTurn f next at a s → InTurn f next at b t → s ++ x ≡ t ++ y → (b ≡ a) × (t ≡ s)
  then_one at a b s t x y p q e =
      let whole : p.front ++ (p.back ++ x) ≡ q.front ++ (q.back ++ y) =
      sym (ap (λ (z : List ℕ). z ++ x) p.parts ∙ append_assoc p.front p.back x) ∙ e ∙ (ap (λ (z : List ℕ). z ++ y) q.parts ∙ append_assoc q.front q.back y) in
      let o = lf.one at p.x q.x p.front q.front (p.back ++ x) (q.back ++ y) p.first q.first whole in
      let behind : p.back ++ x ≡ q.back ++ y = same_back p.front q.front (p.back ++ x) (q.back ++ y) o.1 whole in
      let there : (next p.x).spells (at + length p.front) b q.back =
      subst (λ (z : X). (next z).spells (at + length p.front) b q.back) o.0 (subst (λ (z : List ℕ). (next q.x).spells (at + length z) b q.back) o.1 q.second) in
      let r = (ln p.x).one (at + length p.front) a b p.back q.back x y p.second there behind in
      (r.0, q.parts ∙ ap (λ (z : List ℕ). z ++ q.back) o.1 ∙ ap (λ (z : List ℕ). p.front ++ z) r.1 ∙ sym p.parts)

  -- both faults behind the first form are one
  next_single : (at : ℕ) (bytes : List ℕ) (g h : Fault) → FailsNext f next at bytes g → FailsNext f next at bytes h → h ≡ g
  next_single at bytes g h p q =
      let whole : p.front ++ p.rest ≡ q.front ++ q.rest = sym p.parts ∙ q.parts in
      let o = lf.one at p.x q.x p.front q.front p.rest q.rest p.first q.first whole in
      let rest : p.rest ≡ q.rest = same_back p.front q.front p.rest q.rest o.1 whole in
      let there : (next p.x).fails (at + length p.front) p.rest h =
      subst (λ (z : List ℕ). (next p.x).fails (at + length p.front) z h) (sym rest)
      (subst (λ (z : X). (next z).fails (at + length p.front) q.rest h) o.0 (subst (λ (z : List ℕ). (next q.x).fails (at + length z) q.rest h) o.1 q.fails)) in
      (ln p.x).single (at + length p.front) p.rest g h p.fails there

  then_single : (at : ℕ) (bytes : List ℕ) (g h : Fault) → (f.fails at bytes g ⊎ FailsNext f next at bytes g) → (f.fails at bytes h ⊎ FailsNext f next at bytes h) → h ≡ g
  then_single at bytes g h (inl p) (inl q) = lf.single at bytes g h p q
  then_single at bytes g h (inl p) (inr q) = absurd (lf.apart at q.x q.front q.rest g q.first (subst (λ (z : List ℕ). f.fails at z g) q.parts p))
  then_single at bytes g h (inr p) (inl q) = absurd (lf.apart at p.x p.front p.rest h p.first (subst (λ (z : List ℕ). f.fails at z h) p.parts q))
  then_single at bytes g h (inr p) (inr q) = next_single at bytes g h p q

  then_apart : (at : ℕ) (a : Y) (s x : List ℕ) (g : Fault) → InTurn f next at a s → (f.fails at (s ++ x) g ⊎ FailsNext f next at (s ++ x) g) → ⊥
  then_apart at a s x g p (inl q) =
      let whole : s ++ x ≡ p.front ++ (p.back ++ x) = ap (λ (z : List ℕ). z ++ x) p.parts ∙ append_assoc p.front p.back x in
      lf.apart at p.x p.front (p.back ++ x) g p.first (subst (λ (z : List ℕ). f.fails at z g) whole q)
  then_apart at a s x g p (inr q) =
      let whole : p.front ++ (p.back ++ x) ≡ q.front ++ q.rest = sym (ap (λ (z : List ℕ). z ++ x) p.parts ∙ append_assoc p.front p.back x) ∙ q.parts in
      let o = lf.one at p.x q.x p.front q.front (p.back ++ x) q.rest p.first q.first whole in
      let rest : p.back ++ x ≡ q.rest = same_back p.front q.front (p.back ++ x) q.rest o.1 whole in
      let there : (next p.x).fails (at + length p.front) (p.back ++ x) g =
      subst (λ (z : List ℕ). (next p.x).fails (at + length p.front) z g) (sym rest)
      (subst (λ (z : X). (next z).fails (at + length p.front) q.rest g) o.0 (subst (λ (z : List ℕ). (next q.x).fails (at + length z) q.rest g) o.1 q.fails)) in
      (ln p.x).apart (at + length p.front) a p.back x g p.second there

  pub then_lawful : Lawful (and_then f next)
  then_lawful = record { one = then_one; single = then_single; apart = then_apart }

true_or_false : (b : Bool) → b ≡ true → b ≡ false → ⊥
true_or_false b p q = cc

module _ {X : Type 0} (f : Form X) (ok : X → Bool) (reason : ℕ) (lf : Lawful f) where
  such_single : (at : ℕ) (bytes : List ℕ) (g h : Fault) → (f.fails at bytes g ⊎ FailsTest f ok reason at bytes g) → (f.fails at bytes h ⊎ FailsTest f ok reason at bytes h) → h ≡ g
  such_single at bytes g h (inl p) (inl q) = lf.single at bytes g h p q
  such_single at bytes g h (inl p) (inr q) = absurd (lf.apart at q.x q.front q.rest g q.first (subst (λ (z : List ℕ). f.fails at z g) q.parts p))
  such_single at bytes g h (inr p) (inl q) = absurd (lf.apart at p.x p.front p.rest h p.first (subst (λ (z : List ℕ). f.fails at z h) p.parts q))
  such_single at bytes g h (inr p) (inr q) = same_faults reason at g h p.fault q.fault

  such_apart : (at : ℕ) (a : X) (s x : List ℕ) (g : Fault) → (f.spells at a s × (ok a ≡ true)) → (f.fails at (s ++ x) g ⊎ FailsTest f ok reason at (s ++ x) g) → ⊥
  such_apart at a s x g p (inl q) = lf.apart at a s x g p.0 q
  such_apart at a s x g p (inr q) =
      let o = lf.one at a q.x s q.front x q.rest p.0 q.first q.parts in
      true_or_false (ok a) p.1 (sym (ap ok o.0) ∙ q.refused)

  pub such_lawful : Lawful (such f ok reason)
  such_lawful = record {
    one = λ at a b s t x y p q e. lf.one at a b s t x y p.0 q.0 e;
    single = such_single;
    apart = such_apart;
  }

pub placed_lawful : {X : Type 0} (f : Form X) → Lawful f → Lawful (placed f)
placed_lawful {X} f lf = record {
  one = λ at a b s t x y p q e. (
      let o = lf.one at a.1 b.1 s t x y p.1 q.1 e in
      (same_pair a b (q.0 ∙ sym p.0) o.0, o.1));
  single = lf.single;
  apart = λ at a s x g p q. lf.apart at a.1 s x g p.1 q;
}
  where
    same_pair : (a b : ℕ × X) → b.0 ≡ a.0 → b.1 ≡ a.1 → b ≡ a
    same_pair a b p q = λ i. (p i, q i)

pub choice_lawful : {X : Type 0} (b : Bool) (f g : Form X) → Lawful f → Lawful g → Lawful (choice b f g)
choice_lawful true f g lf lg = lf
choice_lawful false f g lf lg = lg

pub repeat_lawful : {X : Type 0} (n : ℕ) (item : List X → Form X) (before : List X) → ((l : List X) → Lawful (item l)) → Lawful (repeat n item before)
unfolding repeat
repeat_lawful zero item before law = gives_lawful before
repeat_lawful (suc n) item before law = then_lawful (item before) (λ x. repeat n item (before ++ x ∷ [])) (law before) (λ x. repeat_lawful n item (before ++ x ∷ []) law)

-- ---- wholes

abbrev pub IsExactWhole : {X : Type 0} → Whole X → Type 0
IsExactWhole w = (at : ℕ) (bytes : List ℕ) → IsExact (w.means at bytes) (w.fails at bytes)

pub inside_lawful : {X : Type 0} (w : Whole X) (place : ℕ) (bytes : List ℕ) → IsExactWhole w → Lawful (inside w place bytes)
inside_lawful w place bytes law = record {
  one = λ at a b s t x y p q e. ((law place bytes).one a b p.0 q.0, q.1 ∙ sym p.1);
  single = λ at rest g h p q. (law place bytes).single g h p q;
  apart = λ at a s x g p q. (law place bytes).apart a g p.0 q;
}

-- what bytes begin with is exact
pub means_exact : {X : Type 0} (f : Form X) → Lawful f → (at : ℕ) (bytes : List ℕ) → IsExact (Means f at bytes) (f.fails at bytes)
means_exact f law at bytes = record {
  one = λ x y p q. (law.one at x y p.1.text q.1.text p.0 q.0 p.1.spelled q.1.spelled (sym p.1.parts ∙ q.1.parts)).0;
  single = law.single at bytes;
  apart = λ x g p q. law.apart at x p.1.text p.0 g p.1.spelled (subst (λ (z : List ℕ). f.fails at z g) p.1.parts q);
}
