-- Tests without a fault.
use Rattle.std.proofs.Common.{◌≡◌, true, List, [], ◌∷◌, None, refl, Bool, false, cond, Option, Some}
use Rattle.carrier_model.specs.Trail.{Test, first_fault, Fault}

abbrev pub AllHold : List Test → Type 0
AllHold [] = Unit {0}
AllHold (t ∷ ts) = (t.holds ≡ true) × AllHold ts

pub passed : (ts : List Test) → AllHold ts → first_fault ts ≡ None
passed [] h = refl
passed (t ∷ ts) h = let here = h.0 in let others = passed ts h.1 in rw (here, others) refl

pub passing : (ts : List Test) → first_fault ts ≡ None → AllHold ts
passing [] e = tt
passing (t ∷ ts) e = let p = parts t.holds (first_fault ts) e in (p.0, passing ts p.1)
  where
    parts : (b : Bool) (o : Option Fault) → cond b o (Some (t.reason, t.offset)) ≡ None → (b ≡ true) × (o ≡ None)
    parts true o e = (refl, e)
    parts false o e = absurd cc
