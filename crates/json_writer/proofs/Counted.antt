-- Calls that append and count, one after the other.
use Rattle.std.proofs.Common.{◌≡◌, ℕ, List, [], ◌++◌, length, Option, Result, Ok, Err, refl, sym, ap, subst, ◌∙◌, append_assoc, arith, length-append}
use Rattle.std.specs.Result.{IsErr}
use Rattle.std.proofs.lemmas.List.{append-nil}
use Rattle.carrier_io.specs.Steps.{stepped}
use Rattle.carrier_io.proofs.Known as known
use Rattle.carrier_io.proofs.Known.{Did, did, did_nothing, did_then, done, exits}
use Rattle.json_writer.specs.Counted.{Counts}

stepped_twice : (s t u : ℕ) (x y : List ℕ) → t ≡ stepped s (length x) → u ≡ stepped t (length y) → u ≡ stepped s (length (x ++ y))
stepped_twice s t u x y e f = omega (arith, e, f, length-append x y)

-- a call that appended its bytes, and then another, whose answer counts
pub andthen : {E F : Type 0} {a b c : Option (List ℕ)} {n m k s t u : ℕ} {r : Result (Unit {0}) F} {x y : List ℕ} → Counts {E = E} a b n m s t (Ok tt) x → Counts {E = F} b c m k t u r y → Counts {E = F} a c n k s u r (x ++ y)
andthen {s = s} {t = t} {u = u} {r = Ok v} {x = x} {y = y} p q = record { writes = known.andthen p.writes q.writes; counted = stepped_twice s t u x y p.counted q.counted }
andthen {r = Err e} p q = record { writes = known.andthen p.writes q.writes; counted = tt }

-- a call that failed, and its exit: z was to come
pub failing : {E F : Type 0} {a b : Option (List ℕ)} {n m s t u : ℕ} {r : Result (Unit {0}) F} {e : E} {y : List ℕ} (z : List ℕ) → IsErr r → Counts {E = E} a b n m s t (Err e) y → Counts {E = F} a b n m s u r (y ++ z)
failing {r = Ok v} z err p = absurd cc
failing {r = Err f} z err p = record { writes = known.failing z err p.writes; counted = tt }

-- the same calls with another form of the text
pub counts_as : {E : Type 0} {a b : Option (List ℕ)} {n m s t : ℕ} {r : Result (Unit {0}) E} {x : List ℕ} (y : List ℕ) → x ≡ y → Counts {E = E} a b n m s t r x → Counts {E = E} a b n m s t r y
counts_as {E} {a} {b} {n} {m} {s} {t} {r} y e w = subst (λ (z : List ℕ). Counts {E = E} a b n m s t r z) e w

-- ---- a front of a text

-- these bytes were appended and counted
pub record SoFar (a b : Option (List ℕ)) (n m s t : ℕ) (x : List ℕ) : Type 0 where
  pub did : Did a b n m x
  pub counted : t ≡ stepped s (length x)

pub at_first : (a : Option (List ℕ)) (n s : ℕ) → SoFar a a n n s s []
at_first a n s = record { did = did_nothing a n; counted = omega arith }

pub so_far_as : {a b : Option (List ℕ)} {n m s t : ℕ} {x : List ℕ} (y : List ℕ) → x ≡ y → SoFar a b n m s t x → SoFar a b n m s t y
so_far_as {a} {b} {n} {m} {s} {t} y e p = subst (λ (z : List ℕ). SoFar a b n m s t z) e p

pub one_more : {E : Type 0} {a b c : Option (List ℕ)} {n m k s t u : ℕ} {x y : List ℕ} → SoFar a b n m s t x → Counts {E = E} b c m k t u (Ok tt) y → SoFar a c n k s u (x ++ y)
one_more {E} {a} {b} {c} {n} {m} {k} {s} {t} {u} {x} {y} p w = record {
  did = did_then a b c n m k x y p.did (did b c m k y w.writes);
  counted = stepped_twice s t u x y p.counted w.counted;
}

-- the exit of a call that failed
pub stops : {E F : Type 0} {a b c : Option (List ℕ)} {n m k s t u v : ℕ} {x y : List ℕ} {r : Result (Unit {0}) F} {e : E} (all z : List ℕ) → all ≡ x ++ (y ++ z) → IsErr r → SoFar a b n m s t x → Counts {E = E} b c m k t u (Err e) y → Counts {E = F} a c n k s v r all
stops {r = Ok w} all z is err p q = absurd cc
stops {F = F} {a = a} {b = b} {c = c} {n = n} {m = m} {k = k} {s = s} {v = v} {x = x} {y = y} {r = Err f} {e = e} all z is err p q =
    subst (λ (l : List ℕ). Counts {E = F} a c n k s v (Err f) l) (sym is) (record { writes = exits a b c n m k (Err f) e x y z err p.did q.writes; counted = tt })

pub all_done : {E : Type 0} {a b : Option (List ℕ)} {n m s t : ℕ} {x : List ℕ} (all : List ℕ) → x ≡ all → SoFar a b n m s t x → Counts {E = E} a b n m s t (Ok tt) all
all_done {E} {a} {b} {n} {m} {s} {t} {x} all is p = counts_as all is (record { writes = done a b n m x p.did; counted = p.counted })

-- ---- what stands there, and what is to come

pub record Partly (a b : Option (List ℕ)) (n m s t : ℕ) (all rest : List ℕ) : Type 0 where
  pub front : List ℕ
  pub parts : all ≡ front ++ rest
  pub so_far : SoFar a b n m s t front

pub partly_start : (a : Option (List ℕ)) (n s : ℕ) (all : List ℕ) → Partly a a n n s s all all
partly_start a n s all = record { front = []; parts = refl; so_far = at_first a n s }

pub partly_more : {E : Type 0} {a b c : Option (List ℕ)} {n m k s t u : ℕ} {all rest : List ℕ} (x more : List ℕ) → rest ≡ x ++ more → Partly a b n m s t all rest → Counts {E = E} b c m k t u (Ok tt) x → Partly a c n k s u all more
partly_more x more e p w = record {
  front = p.front ++ x;
  parts = p.parts ∙ ap (λ (z : List ℕ). p.front ++ z) e ∙ sym (append_assoc p.front x more);
  so_far = one_more p.so_far w;
}

pub partly_stops : {E F : Type 0} {a b c : Option (List ℕ)} {n m k s t u v : ℕ} {all rest : List ℕ} {r : Result (Unit {0}) F} {e : E} (x more : List ℕ) → rest ≡ x ++ more → IsErr r → Partly a b n m s t all rest → Counts {E = E} b c m k t u (Err e) x → Counts {E = F} a c n k s v r all
partly_stops {all = all} x more is err p w = stops all more (p.parts ∙ ap (λ (z : List ℕ). p.front ++ z) is) err p.so_far w

pub partly_ends : {E : Type 0} {a b : Option (List ℕ)} {n m s t : ℕ} {all rest : List ℕ} → rest ≡ [] → Partly a b n m s t all rest → Counts {E = E} a b n m s t (Ok tt) all
partly_ends {all = all} is p = all_done all (sym (p.parts ∙ ap (λ (z : List ℕ). p.front ++ z) is ∙ append-nil p.front)) p.so_far
