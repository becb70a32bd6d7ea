-- A list that was read, within the bytes of an attribute.
use Rattle.std.proofs.Common.{◌≡◌, ℕ, ◌+◌, ◌-◌, ◌≤◌, Bool, List, ◌++◌, length, take, drop, sym, ap, subst, ◌∙◌, append_assoc, arith}
use Rattle.std.proofs.lemmas.List.{length-append, length-drop, take-append-drop, drop_at}
use Rattle.carrier_io.specs.Reads.{OnFault, MeansOnly, FaultOnly}
use Rattle.carrier_io.specs.declared.reasons.Stop.{Stop}
use Rattle.carrier_io.proofs.Sides.{on_fault, reads_ok, reads_fault}
use Rattle.carrier_model.specs.Grammar.{Form, Spans, Means}
use Rattle.tnef_model.specs.TnefLists.{PropList, prop_list}
use Rattle.carrier_model.proofs.Grammar.{means_exact}
use Rattle.tnef_model.proofs.TnefLists.{prop_list_lawful}

pub list_alone : (b : Bool) (at : ℕ) (bytes : List ℕ) (x : PropList) → Means (prop_list b) at bytes x → MeansOnly (Means (prop_list b) at bytes) ((prop_list b).fails at bytes) x
list_alone b at bytes x m =
    let e = means_exact (prop_list b) (prop_list_lawful b) at bytes in
    reads_ok (Means (prop_list b) at bytes) ((prop_list b).fails at bytes) x e.one e.apart m

pub list_fault : (b : Bool) (at : ℕ) (bytes : List ℕ) (s : Stop) → OnFault ((prop_list b).fails at bytes) s → OnFault (FaultOnly (Means (prop_list b) at bytes) ((prop_list b).fails at bytes)) s
list_fault b at bytes s p =
    let e = means_exact (prop_list b) (prop_list_lawful b) at bytes in
    on_fault ((prop_list b).fails at bytes) (FaultOnly (Means (prop_list b) at bytes) ((prop_list b).fails at bytes))
    (λ g f. reads_fault (Means (prop_list b) at bytes) ((prop_list b).fails at bytes) g e.single e.apart f) s p

-- the place behind the list
pub spans_end : {X : Type 0} (f : Form X) (bytes : List ℕ) (from at : ℕ) (x : X) (after : ℕ) (rest : List ℕ) (end : ℕ) → from ≤ length bytes → end ≡ length bytes - length rest → Spans f (at + from) (drop from bytes) x after rest
    → Spans f (at + from) (drop from bytes) x (at + end) (drop end bytes)
spans_end f bytes from at x after rest end le e s =
    let text = s.begins.text in
    let whole : bytes ≡ (take from bytes ++ text) ++ rest = sym (take-append-drop from bytes) ∙ ap (λ (z : List ℕ). take from bytes ++ z) s.begins.parts ∙ sym (append_assoc (take from bytes) text rest) in
    let len : length (take from bytes ++ text) ≡ end = omega (arith, e, ap length whole, length-append (take from bytes ++ text) rest) in
    let behind : drop end bytes ≡ rest = ap (drop end) whole ∙ drop_at (take from bytes ++ text) rest end len in
    let place : after ≡ at + end = omega (arith, e, s.place, le, length-drop from bytes, ap length s.begins.parts, length-append text rest) in
    subst (λ (z : List ℕ). Spans f (at + from) (drop from bytes) x (at + end) z) (sym behind) (subst (λ (n : ℕ). Spans f (at + from) (drop from bytes) x n rest) place s)
