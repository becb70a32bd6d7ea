-- A stream means one list of attributes, or has one first fault.
use Rattle.std.proofs.Common.{◌≡◌, inl, inr, ℕ, ◌+◌, ◌≤◌, List, [], ◌++◌, length, take, drop, Option, Some, None, sym, ap, ◌∙◌, arith}
use Rattle.std.specs.List.{flat_map}
use Rattle.std.proofs.lemmas.List.{append-nil, length-append, length-take, length-drop, drop_at, drop-drop, take-append-drop}
use Rattle.std.proofs.lemmas.Bool.{leb-true, le-leb, eqb-true, eq-eqb, and_parts, and_from}
use Rattle.carrier_model.specs.Trail.{Fault, first_fault, IsExact}
use Rattle.carrier_model.specs.Bytes.{AllBytes, number32, le32}
use Rattle.carrier_model.specs.Items.{Spells}
use Rattle.tnef_model.specs.Attributes.{Attr, spelling, attrs, SIGNATURE, Attrs, AttrsFault, head_tests}
use Rattle.carrier_model.proofs.Numbers.{number32-le32, number32-front}
use Rattle.carrier_model.proofs.Items.{same_to_end, same_fault, no_fault_before_end}
use Rattle.carrier_model.proofs.Tests.{passed, passing}
use Rattle.tnef_model.proofs.Attributes.{attrs_lawful}

pub record Parts (at : ℕ) (bytes : List ℕ) (l : List Attr) : Type 0 where
  pub head : first_fault (head_tests at bytes) ≡ None
  pub spelled : Spells attrs (at + 6) (drop 6 bytes) l []

pub parts_of : (at : ℕ) (bytes : List ℕ) (l : List Attr) → Attrs at bytes l → Parts at bytes l
parts_of at bytes l a =
    let body = a.key ++ flat_map spelling l in
    let len : length bytes ≡ 6 + length (flat_map spelling l) = ap length a.parts ∙ omega (arith, a.key_len, length-append a.key (flat_map spelling l)) in
    let signed : number32 bytes ≡ SIGNATURE = ap number32 a.parts ∙ number32-le32 SIGNATURE body (omega arith) in
    let behind : drop 6 bytes ≡ flat_map spelling l ++ [] = ap (drop 6) a.parts ∙ drop_at a.key (flat_map spelling l) 2 a.key_len ∙ sym (append-nil (flat_map spelling l)) in
    record {
      head = passed (head_tests at bytes) (and_from _ _ (le-leb 4 (length bytes) (omega arith)) (eq-eqb _ _ signed), (le-leb 6 (length bytes) (omega arith), tt));
      spelled = record { parts = behind; good = a.good };
    }

pub from_parts : (at : ℕ) (bytes : List ℕ) (l : List Attr) → AllBytes bytes → Parts at bytes l → Attrs at bytes l
from_parts at bytes l fits p =
    let t = passing (head_tests at bytes) p.head in
    let signed : number32 bytes ≡ SIGNATURE = eqb-true _ _ (and_parts _ _ t.0).1 in
    let long : 6 ≤ length bytes = leb-true 6 (length bytes) t.1.0 in
    let front : bytes ≡ le32 SIGNATURE ++ drop 4 bytes = number32-front bytes (omega arith) fits ∙ ap (λ (n : ℕ). le32 n ++ drop 4 bytes) signed in
    let behind : drop 4 bytes ≡ take 2 (drop 4 bytes) ++ flat_map spelling l =
    sym (take-append-drop 2 (drop 4 bytes)) ∙ ap (λ (z : List ℕ). take 2 (drop 4 bytes) ++ z) (drop-drop 2 4 bytes ∙ p.spelled.parts ∙ append-nil (flat_map spelling l)) in
    record {
      key = take 2 (drop 4 bytes);
      key_len = omega (arith, length-take 2 (drop 4 bytes), length-drop 4 bytes);
      parts = front ∙ ap (λ (z : List ℕ). le32 SIGNATURE ++ z) behind;
      good = p.spelled.good;
    }

one_fault : (o : Option Fault) (g h : Fault) → o ≡ Some g → o ≡ Some h → h ≡ g
one_fault o g h p q = cc

none_or_fault : (o : Option Fault) (g : Fault) → o ≡ None → o ≡ Some g → ⊥
none_or_fault o g p q = cc

single : (at : ℕ) (bytes : List ℕ) (g h : Fault) → AttrsFault at bytes g → AttrsFault at bytes h → h ≡ g
single at bytes g h (inl p) (inl q) = one_fault (first_fault (head_tests at bytes)) g h p q
single at bytes g h (inl p) (inr q) = absurd (none_or_fault (first_fault (head_tests at bytes)) g q.0 p)
single at bytes g h (inr p) (inl q) = absurd (none_or_fault (first_fault (head_tests at bytes)) h p.0 q)
single at bytes g h (inr p) (inr q) = same_fault attrs attrs_lawful (at + 6) (drop 6 bytes) p.1.before q.1.before p.1.rest q.1.rest g h p.1.fault q.1.fault

apart : (at : ℕ) (bytes : List ℕ) (l : List Attr) (g : Fault) → Attrs at bytes l → AttrsFault at bytes g → ⊥
apart at bytes l g a (inl p) = none_or_fault (first_fault (head_tests at bytes)) g (parts_of at bytes l a).head p
apart at bytes l g a (inr p) = no_fault_before_end attrs attrs_lawful (at + 6) (drop 6 bytes) l p.1.before p.1.rest g (parts_of at bytes l a).spelled p.1.fault p.1.some

pub attrs_exact : (at : ℕ) (bytes : List ℕ) → IsExact (Attrs at bytes) (AttrsFault at bytes)
attrs_exact at bytes = record {
  one = λ l m a b. same_to_end attrs attrs_lawful (at + 6) (drop 6 bytes) l m (parts_of at bytes l a).spelled (parts_of at bytes m b).spelled;
  single = single at bytes;
  apart = apart at bytes;
}

pub head_passes : (at : ℕ) (bytes : List ℕ) → 6 ≤ length bytes → number32 bytes ≡ SIGNATURE → first_fault (head_tests at bytes) ≡ None
head_passes at bytes long signed = passed (head_tests at bytes) (and_from _ _ (le-leb 4 (length bytes) (omega arith)) (eq-eqb _ _ signed), (le-leb 6 (length bytes) long, tt))
