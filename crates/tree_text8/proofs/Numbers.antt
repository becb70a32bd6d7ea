-- Property numbers that stay at the greatest.
use Rattle.std.proofs.Common.{◌≡◌, ◌∙◌, refl, sym, ap, subst, ℕ, ◌+◌, ◌^◌, ◌-◌, List, [], ◌∷◌, ◌++◌, length, min, arith}
use Rattle.std.specs.Prelude.{Option, Some, None, sum_by, if◌then◌else◌}
use Rattle.carrier_model.specs.Totals.{capped}
use Rattle.carrier_model.specs.Tree.{Message, message, Attachments, no_more, attached, Body, nothing, embedded, stored}
use Rattle.carrier_model.specs.Values.{Value, number, guid, bytes, numbers, guids, parts, Prop}
use Rattle.text8_model.specs.Pages.{Page, page_of}
use Rattle.text8_model.specs.Texts.{bad_place}
use Rattle.text8_model.specs.Unmapped.{at_page, at_byte}
use Rattle.text8_model.specs.Unicode.{page_in, is_to_convert, bad_byte, bad_elements, bad_value, bad_prop, bad_from, bad_props, bad_recipients, bad_in, bad_below, bad_body, props_in_body}
use Rattle.tree_text8.specs.Walks.{AreOne}

least_more : (m n k c : ℕ) → min m c ≡ min n c → min (m + k) c ≡ min (n + k) c
least_more m n k c e = omega (arith, e)

pub one_more : (m n k : ℕ) → AreOne m n → AreOne (m + k) (n + k)
one_more m n k e = record { one = least_more m n k (2 ^ 64 - 1) e.one }

pub one_after : (m n o : ℕ) → AreOne m n → AreOne n o → AreOne m o
one_after m n o a b = record { one = a.one ∙ b.one }

pub one_capped : (n : ℕ) → AreOne (capped n) n
one_capped n = record { one = twice n (2 ^ 64 - 1) }
  where
    twice : (n c : ℕ) → min (min n c) c ≡ min n c
    twice n c = omega arith

byte_one : (code m n element : ℕ) (o : Option ℕ) → AreOne m n → bad_byte code m element o ≡ bad_byte code n element o
byte_one code m n element None e = refl
byte_one code m n element (Some at) e = ap (λ p. record { why = at_byte; property = p; element = element; at = at; page = code } ∷ []) e.one

elements_one : (code m n : ℕ) (page : Page) (element : ℕ) (xs : List (List ℕ)) → AreOne m n → bad_elements code m page element xs ≡ bad_elements code n page element xs
elements_one code m n page element [] e = refl
elements_one code m n page element (x ∷ xs) e =
    let here = byte_one code m n element (bad_place page x) e in
    let rest = elements_one code m n page (element + 1) xs e in
    λ i. here i ++ rest i

value_one : (code m n : ℕ) (o : Option Page) (v : Value) → AreOne m n → bad_value code m o v ≡ bad_value code n o v
value_one code m n None v e = ap (λ p. record { why = at_page; property = p; element = 0; at = 0; page = code } ∷ []) e.one
value_one code m n (Some page) (number kind bits) e = refl
value_one code m n (Some page) (guid set) e = refl
value_one code m n (Some page) (bytes kind x) e = byte_one code m n 0 (bad_place page x) e
value_one code m n (Some page) (numbers kind list) e = refl
value_one code m n (Some page) (guids list) e = refl
value_one code m n (Some page) (parts kind xs) e = elements_one code m n page 0 xs e

pub prop_one : (code : ℕ) (props : List Prop) (m n : ℕ) (p : Prop) → AreOne m n → bad_prop code props m p ≡ bad_prop code props n p
prop_one code props m n p e = ap (λ l. if is_to_convert props p then l else []) (value_one code m n (page_of code) p.value e)

from_one : (code : ℕ) (props : List Prop) (m n : ℕ) (ps : List Prop) → AreOne m n → bad_from code props m ps ≡ bad_from code props n ps
from_one code props m n [] e = refl
from_one code props m n (p ∷ ps) e =
    let here = prop_one code props m n p e in
    let rest = from_one code props (m + 1) (n + 1) ps (one_more m n 1 e) in
    λ i. here i ++ rest i

pub props_one : (code m n : ℕ) (ps : List Prop) → AreOne m n → bad_props code m ps ≡ bad_props code n ps
props_one code m n ps e = from_one code ps m n ps e

pub recipients_one : (code m n : ℕ) (rs : List (List Prop)) → AreOne m n → bad_recipients code m rs ≡ bad_recipients code n rs
recipients_one code m n [] e = refl
recipients_one code m n (r ∷ rs) e =
    let here = props_one code m n r e in
    let rest = recipients_one code (m + length r) (n + length r) rs (one_more m n (length r) e) in
    λ i. here i ++ rest i

mutual
  pub message_one : (code m n : ℕ) (t : Message) → AreOne m n → bad_in code m t ≡ bad_in code n t
  message_one code m n (message ps rs xs) e =
      let own = props_one (page_in code ps) m n ps e in
      let theirs = recipients_one (page_in code ps) (m + length ps) (n + length ps) rs (one_more m n (length ps) e) in
      let below = attachments_one (page_in code ps) (m + (length ps + sum_by length rs)) (n + (length ps + sum_by length rs)) xs (one_more m n (length ps + sum_by length rs) e) in
      λ i. own i ++ (theirs i ++ below i)

  pub attachments_one : (code m n : ℕ) (xs : Attachments) → AreOne m n → bad_below code m xs ≡ bad_below code n xs
  attachments_one code m n no_more e = refl
  attachments_one code m n (attached ps x more) e =
      let own = props_one code m n ps e in
      let held = body_one code (m + length ps) (n + length ps) x (one_more m n (length ps) e) in
      let rest = attachments_one code (m + (length ps + props_in_body x)) (n + (length ps + props_in_body x)) more (one_more m n (length ps + props_in_body x) e) in
      λ i. (own i ++ held i) ++ rest i

  pub body_one : (code m n : ℕ) (x : Body) → AreOne m n → bad_body code m x ≡ bad_body code n x
  body_one code m n nothing e = refl
  body_one code m n (embedded t) e = message_one code m n t e
  body_one code m n (stored s) e = refl

-- the number that a saturating sum is
pub told_at : (first k told : ℕ) → told ≡ capped (first + k) → AreOne told (first + k)
told_at first k told e = subst (λ (n : ℕ). AreOne n (first + k)) (sym e) (one_capped (first + k))
