-- Whether an attribute may stand behind those that were read.
use Rattle.std.proofs.Common.{◌≡◌, ℕ, Bool, true, false, List, [], ◌∷◌, Option, Some, None, eqb, eq-eqb, refl, sym, ap, ◌∙◌}
use Rattle.std.specs.Prelude.{not, ◌||◌, ◌&&◌, ◌==◌, if◌then◌else◌, take_while, reverse}
use Rattle.std.specs.List.{list_any}
use Rattle.std.proofs.lemmas.Bool.{eqb-true}
use Rattle.std.proofs.lemmas.List.Folds.{list_any-append}
use Rattle.carrier_model.specs.Reasons.{NO_ATTACHMENT, DOUBLE_ATTRIBUTE}
use Rattle.carrier_model.specs.Trail.{Fault, Test, test, first_fault}
use Rattle.tnef_model.specs.Attributes.{Attr}
use Rattle.tnef_model.specs.LegacyAttributes.{RENDERING, is_message_id, is_attachment_id}
use Rattle.tnef_model.specs.TnefMessage.{Read, has_attr, place_tests}
use Rattle.carrier_model.specs.Tree.{Attached, Body}
use Rattle.carrier_model.specs.Values.{Prop}
use Rattle.tnef_message.specs.Drafts.{attrs_of, begins, own_of, OneOpen, NoneYet}
use Rattle.tnef_message.specs.Sections.{IsSection}
use Rattle.tnef_message.proofs.Groups.{seen_of, since_last, any_reverse, any_attrs}

-- the tests, by what they look at
tests_by : Bool → Bool → Bool → Bool → Bool → Bool → ℕ → List Test
tests_by m at r any own since offset =
    test (not at || (r || any)) NO_ATTACHMENT offset
    ∷ test (r || not (if m then own else (at && since))) DOUBLE_ATTRIBUTE offset
    ∷ []

of_message : (m at r any own since : Bool) (offset : ℕ) → m ≡ true → at ≡ false → r ≡ false → first_fault (tests_by m at r any own since offset) ≡ (if own then Some (DOUBLE_ATTRIBUTE, offset) else None)
unfolding tests_by
of_message true false false any true since offset p q s = refl
of_message true false false any false since offset p q s = refl
of_message true false true any own since offset p q s = absurd cc
of_message true true r any own since offset p q s = absurd cc
of_message false at r any own since offset p q s = absurd cc

of_attachment : (m at r any own since : Bool) (offset : ℕ) → m ≡ false → at ≡ true → r ≡ false → any ≡ true → first_fault (tests_by m at r any own since offset) ≡ (if since then Some (DOUBLE_ATTRIBUTE, offset) else None)
unfolding tests_by
of_attachment false true false true own true offset p q s t = refl
of_attachment false true false true own false offset p q s t = refl
of_attachment false true false false own since offset p q s t = absurd cc
of_attachment false true true any own since offset p q s t = absurd cc
of_attachment false false r any own since offset p q s t = absurd cc
of_attachment true at r any own since offset p q s t = absurd cc

without_any : (m at r any own since : Bool) (offset : ℕ) → at ≡ true → r ≡ false → any ≡ false → first_fault (tests_by m at r any own since offset) ≡ Some (NO_ATTACHMENT, offset)
unfolding tests_by
without_any m true false false own since offset p q s = refl
without_any m true false true own since offset p q s = absurd cc
without_any m true true any own since offset p q s = absurd cc
without_any m false r any own since offset p q s = absurd cc

module _ (reads : List Read) (a : Attr) where
  tests_are : place_tests (attrs_of reads) a ≡ tests_by (is_message_id a.id) (is_attachment_id a.id) (a.id == RENDERING) (list_any (has_attr RENDERING) (attrs_of reads)) (list_any (has_attr a.id) (attrs_of reads)) (list_any (has_attr a.id) (take_while (λ b. not (has_attr RENDERING b)) (reverse (attrs_of reads)))) a.offset
  unfolding tests_by
  tests_are = refl

  pub message_tests : (list_id : ℕ) (seen : List ℕ) (list derived : List Prop) (r : Option Fault) → is_message_id a.id ≡ true → is_attachment_id a.id ≡ false → (a.id == RENDERING) ≡ false → IsSection list_id (own_of reads) seen list derived
      → r ≡ (if list_any (λ n. n == a.id) seen then Some (DOUBLE_ATTRIBUTE, a.offset) else None) → first_fault (place_tests (attrs_of reads) a) ≡ r
  message_tests list_id seen list derived r m at ren s e =
      ap first_fault tests_are
      ∙ of_message (is_message_id a.id) (is_attachment_id a.id) (a.id == RENDERING) _ (list_any (has_attr a.id) (attrs_of reads)) _ a.offset m at ren
      ∙ ap (λ (b : Bool). if b then Some (DOUBLE_ATTRIBUTE, a.offset) else None) (sym (ap (list_any (λ n. n == a.id)) s.seen_are ∙ seen_of is_message_id a.id reads m))
      ∙ sym e

  pub attachment_tests : (done : List Attached) (seen : List ℕ) (list derived : List Prop) (body : Body) (r : Option Fault) → is_message_id a.id ≡ false → is_attachment_id a.id ≡ true → (a.id == RENDERING) ≡ false → OneOpen reads done seen list derived body
      → r ≡ (if list_any (λ n. n == a.id) seen then Some (DOUBLE_ATTRIBUTE, a.offset) else None) → first_fault (place_tests (attrs_of reads) a) ≡ r
  attachment_tests done seen list derived body r m at ren o e =
      ap first_fault tests_are
      ∙ of_attachment (is_message_id a.id) (is_attachment_id a.id) (a.id == RENDERING) (list_any (has_attr RENDERING) (attrs_of reads)) _ (list_any (has_attr a.id) (take_while (λ b. not (has_attr RENDERING b)) (reverse (attrs_of reads)))) a.offset m at ren any
      ∙ ap (λ (b : Bool). if b then Some (DOUBLE_ATTRIBUTE, a.offset) else None) (since ∙ sym there)
      ∙ sym e
    where
      true_right : (x y : Bool) → y ≡ true → (x || y) ≡ true
      true_right true y h = refl
      true_right false y h = h

      true_left : (x y : Bool) → x ≡ true → (x || y) ≡ true
      true_left true y h = refl
      true_left false y h = absurd cc

      any : list_any (has_attr RENDERING) (attrs_of reads) ≡ true
      any =
          any_attrs (has_attr RENDERING) reads ∙ ap (list_any begins) o.all ∙ list_any-append begins o.before (o.opening ∷ o.others)
          ∙ true_right (list_any begins o.before) (list_any begins (o.opening ∷ o.others)) (true_left (begins o.opening) (list_any begins o.others) o.opens)

      since : list_any (has_attr a.id) (take_while (λ b. not (has_attr RENDERING b)) (reverse (attrs_of reads))) ≡ list_any (has_attr a.id) (attrs_of o.others)
      since =
          ap (λ (z : List Read). list_any (has_attr a.id) (take_while (λ b. not (has_attr RENDERING b)) (reverse (attrs_of z)))) o.all
          ∙ ap (list_any (has_attr a.id)) (since_last o.before o.opening o.others o.opens o.goes_on) ∙ any_reverse (has_attr a.id) (attrs_of o.others)

      first_id : o.opening.0.id ≡ RENDERING
      first_id = eqb-true o.opening.0.id RENDERING o.opens

      other : (b : Bool) → eqb RENDERING a.id ≡ b → b ≡ false
      other false h = refl
      other true h = let same : RENDERING ≡ a.id = eqb-true RENDERING a.id h in let there : eqb a.id RENDERING ≡ true = eq-eqb a.id RENDERING (sym same) in absurd cc

      there : list_any (λ n. n == a.id) seen ≡ list_any (has_attr a.id) (attrs_of o.others)
      there =
          ap (list_any (λ n. n == a.id)) o.section.seen_are
          ∙ seen_of is_attachment_id a.id (o.opening ∷ o.others) at
          ∙ ap (λ (b : Bool). b || list_any (has_attr a.id) (attrs_of o.others)) (ap (λ n. eqb n a.id) first_id ∙ other (eqb RENDERING a.id) refl)

  pub no_attachment : (done : List Attached) → is_attachment_id a.id ≡ true → (a.id == RENDERING) ≡ false → NoneYet reads done → first_fault (place_tests (attrs_of reads) a) ≡ Some (NO_ATTACHMENT, a.offset)
  no_attachment done at ren n =
      ap first_fault tests_are
      ∙ without_any (is_message_id a.id) (is_attachment_id a.id) (a.id == RENDERING) (list_any (has_attr RENDERING) (attrs_of reads)) _ _ a.offset at ren (any_attrs (has_attr RENDERING) reads ∙ n.none)
