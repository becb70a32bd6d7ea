-- One more entry of a property list of a .msg file, as a loop reads it.
use Rattle.std.proofs.Common.{◌≡◌, ℕ, List, [], ◌∷◌, ◌++◌, Bool, false, not, ◌||◌, Option, Some, refl, sym, ap, ◌∙◌}
use Rattle.std.specs.Prelude.{filter_map}
use Rattle.std.specs.List.{list_any, IsDistinct}
use Rattle.std.proofs.lemmas.List.{append-nil}
use Rattle.std.proofs.lemmas.List.Elements.{filter_map-append}
use Rattle.std.proofs.lemmas.List.Sorted.{list_any-IsPermutation}
use Rattle.carrier_model.specs.Sorted.{with_element, with_elements}
use Rattle.carrier_model.specs.Values.{Prop, prop_cmp}
use Rattle.carrier_model.specs.Lists.{first_of_list}
use Rattle.msg_model.specs.MsgProps.{Item, kept, passed, embedding, is_double, is_new, prop_in, passed_in, embedding_in, Section, section_of}
use Rattle.carrier_model.proofs.Orders.{prop_total}
use Rattle.carrier_model.proofs.SortedElements.{equal_by, elements_good, with_elements-push}
use Rattle.msg_model.proofs.MsgProps.{props_distinct}

section_same : (ps : List Prop) (o : Option ℕ) (q : List (Bool × ℕ × ℕ)) (l : Section) → ps ≡ l.props → o ≡ l.embedded → q ≡ l.passed → l ≡ record { props = ps; embedded = o; passed = q }
section_same ps o q l a b c = λ i. record { props = sym a i; embedded = sym b i; passed = sym c i }

-- a property more
pub section-kept : (items : List Item) (p : Prop) → section_of (items ++ kept p ∷ []) ≡ record { props = with_element prop_cmp (section_of items).props p; embedded = (section_of items).embedded; passed = (section_of items).passed }
section-kept items p = section_same _ _ _ (section_of (items ++ kept p ∷ []))
    (sym (ap (with_elements prop_cmp []) (filter_map-append prop_in items (kept p ∷ [])) ∙ with_elements-push prop_cmp [] (filter_map prop_in items) p))
    (sym (ap first_of_list (filter_map-append embedding_in items (kept p ∷ []) ∙ append-nil (filter_map embedding_in items))))
    (sym (filter_map-append passed_in items (kept p ∷ []) ∙ append-nil (filter_map passed_in items)))

-- something passed over
pub section-passed : (items : List Item) (tag place : ℕ) → section_of (items ++ passed tag place ∷ []) ≡ record { props = (section_of items).props; embedded = (section_of items).embedded; passed = (section_of items).passed ++ (false, tag, place) ∷ [] }
section-passed items tag place = section_same _ _ _ (section_of (items ++ passed tag place ∷ []))
    (sym (ap (with_elements prop_cmp []) (filter_map-append prop_in items (passed tag place ∷ []) ∙ append-nil (filter_map prop_in items))))
    (sym (ap first_of_list (filter_map-append embedding_in items (passed tag place ∷ []) ∙ append-nil (filter_map embedding_in items))))
    (sym (filter_map-append passed_in items (passed tag place ∷ [])))

-- the entry of an embedded message, the first one
pub section-embedding : (items : List Item) (place : ℕ) → filter_map embedding_in items ≡ [] → section_of (items ++ embedding place ∷ []) ≡ record { props = (section_of items).props; embedded = Some place; passed = (section_of items).passed }
section-embedding items place none = section_same _ _ _ (section_of (items ++ embedding place ∷ []))
    (sym (ap (with_elements prop_cmp []) (filter_map-append prop_in items (embedding place ∷ []) ∙ append-nil (filter_map prop_in items))))
    (sym (ap first_of_list (filter_map-append embedding_in items (embedding place ∷ []) ∙ ap (λ (l : List ℕ). l ++ place ∷ []) none)))
    (sym (filter_map-append passed_in items (embedding place ∷ []) ∙ append-nil (filter_map passed_in items)))

-- A property is new where the sorted list has none that is equal by the order.
pub kept-any : (items : List Item) (p : Prop) → list_any (is_double (kept p)) items ≡ list_any (equal_by prop_cmp p) (filter_map prop_in items)
kept-any [] p = refl
kept-any (kept q ∷ items) p = ap (λ b. equal_by prop_cmp p q || b) (kept-any items p)
kept-any (passed tag place ∷ items) p = kept-any items p
kept-any (embedding place ∷ items) p = kept-any items p

pub new-kept : (items : List Item) (p : Prop) → IsDistinct is_double items → is_new items (kept p) ≡ not (list_any (equal_by prop_cmp p) (section_of items).props)
new-kept items p d =
    let good = elements_good prop_total (filter_map prop_in items) (props_distinct items d) in
    ap not (kept-any items p ∙ list_any-IsPermutation (equal_by prop_cmp p) (filter_map prop_in items) (section_of items).props good.1)
