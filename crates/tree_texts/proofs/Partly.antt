-- Texts that are appended bit by bit: what stands there, and what is to come.
use Rattle.std.proofs.Common.{◌≡◌, ℕ, List, [], ◌++◌, Option, Result, Ok, Err, refl, sym, ap, subst, ◌∙◌, append_assoc}
use Rattle.std.specs.Result.{IsErr}
use Rattle.std.proofs.lemmas.List.{append-nil}
use Rattle.carrier_io.specs.Known.{Writes}
use Rattle.carrier_io.proofs.Known.{Did, did, did_nothing, did_then, exits, done}

-- a front of the text stands there, and the rest is to come
pub record Partly (a b : Option (List ℕ)) (n m : ℕ) (all rest : List ℕ) : Type 0 where
  pub front : List ℕ
  pub parts : all ≡ front ++ rest
  pub did : Did a b n m front

pub partly_start : (a : Option (List ℕ)) (n : ℕ) (all : List ℕ) → Partly a a n n all all
partly_start a n all = record { front = []; parts = refl; did = did_nothing a n }

-- the same with another form of what is to come
pub partly_as : {a b : Option (List ℕ)} {n m : ℕ} {all rest : List ℕ} (more : List ℕ) → rest ≡ more → Partly a b n m all rest → Partly a b n m all more
partly_as {a} {b} {n} {m} {all} more e p = subst (λ (z : List ℕ). Partly a b n m all z) e p

pub partly_more : {E : Type 0} {a b c : Option (List ℕ)} {n m k : ℕ} {all rest : List ℕ} (x more : List ℕ) → rest ≡ x ++ more → Partly a b n m all rest → Writes {E = E} b c m k (Ok tt) x → Partly a c n k all more
partly_more {E} {a} {b} {c} {n} {m} {k} x more e p w = record {
  front = p.front ++ x;
  parts = p.parts ∙ ap (λ (z : List ℕ). p.front ++ z) e ∙ sym (append_assoc p.front x more);
  did = did_then a b c n m k p.front x p.did (did b c m k x w);
}

pub partly_stops : {E F : Type 0} {a b c : Option (List ℕ)} {n m k : ℕ} {all rest : List ℕ} {r : Result (Unit {0}) F} {e : E} (x more : List ℕ) → rest ≡ x ++ more → IsErr r → Partly a b n m all rest → Writes {E = E} b c m k (Err e) x → Writes {E = F} a c n k r all
partly_stops {E} {F} {a} {b} {c} {n} {m} {k} {all} {rest} {r} {e} x more is err p w =
    let whole : all ≡ p.front ++ (x ++ more) = p.parts ∙ ap (λ (z : List ℕ). p.front ++ z) is in
    subst (λ (z : List ℕ). Writes {E = F} a c n k r z) (sym whole) (exits a b c n m k r e p.front x more err p.did w)

pub partly_ends : {E : Type 0} {a b : Option (List ℕ)} {n m : ℕ} {all rest : List ℕ} → rest ≡ [] → Partly a b n m all rest → Writes {E = E} a b n m (Ok tt) all
partly_ends {E} {a} {b} {n} {m} {all} is p =
    let whole : all ≡ p.front = p.parts ∙ ap (λ (z : List ℕ). p.front ++ z) is ∙ append-nil p.front in
    subst (λ (z : List ℕ). Writes {E = E} a b n m (Ok tt) z) (sym whole) (done a b n m p.front p.did)

-- the same calls with another form of the text
pub writes_as : {E : Type 0} {a b : Option (List ℕ)} {n m : ℕ} {r : Result (Unit {0}) E} {x : List ℕ} (y : List ℕ) → x ≡ y → Writes {E = E} a b n m r x → Writes {E = E} a b n m r y
writes_as {E} {a} {b} {n} {m} {r} y e w = subst (λ (z : List ℕ). Writes {E = E} a b n m r z) e w
