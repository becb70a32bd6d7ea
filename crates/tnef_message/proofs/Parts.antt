-- What the bytes of an attribute give, by its id.
use Rattle.std.proofs.Common.{◌≡◌, inl, ℕ, ◌+◌, Bool, true, false, List, [], ◌∷◌, ◌++◌, map, drop, eqb, add-zero, refl, sym, ap, subst, ◌∙◌}
use Rattle.std.specs.Prelude.{◌||◌}
use Rattle.std.specs.List.{flat_map}
use Rattle.tnef_model.specs.Attributes.{Attr}
use Rattle.carrier_model.specs.Grammar.{Form, Spans, Means, Whole, gives, and_then, choice}
use Rattle.tnef_model.specs.LegacyAttributes.{MESSAGE_PROPS, RECIPIENTS, ATTACHMENT, is_message_id, is_attachment_id}
use Rattle.tnef_model.specs.TnefLists.{PropList, prop_list, recipient_lists}
use Rattle.tnef_model.specs.TnefMessage as plain
use Rattle.carrier_model.specs.Meanings.{Held}
use Rattle.tnef_model.specs.TnefMessage.{Part, part, content, inner_of, with_inner}
use Rattle.carrier_model.specs.Trail.{Fault}
use Rattle.carrier_model.proofs.Reading.{spans_seen, spans_nothing}

module _ (objects : Whole Held) (a : Attr) where
  message_form : a.id ≡ MESSAGE_PROPS → content objects a ≡ and_then (prop_list false) (λ l. gives (part (plain.message_list l.props) l.passed))
  unfolding content
  message_form e = rw e refl

  recipients_form : a.id ≡ RECIPIENTS → content objects a ≡ and_then recipient_lists (λ lists. gives (part (plain.recipients (map (λ l. l.props) lists)) (flat_map (λ l. l.passed) lists)))
  unfolding content
  recipients_form e = rw e refl

  pub attachment_form : a.id ≡ ATTACHMENT → content objects a ≡ and_then (prop_list true) (λ l. and_then (inner_of objects l.object) (λ m. gives (with_inner l m)))
  unfolding content
  attachment_form e = rw e refl

  plain_choice : (m r t k : Bool) (f g h : Form Part) (p q : Form Part) → m ≡ false → r ≡ false → t ≡ false → choice m f (choice r g (choice t h (choice k p q))) ≡ choice k p q
  plain_choice m r t k f g h p q x y z = rw (x, y, z) refl

  pub plain_form : (k : Bool) → eqb a.id MESSAGE_PROPS ≡ false → eqb a.id RECIPIENTS ≡ false → eqb a.id ATTACHMENT ≡ false → (is_message_id a.id || is_attachment_id a.id) ≡ k
      → content objects a ≡ choice k (gives (part plain.no_gift [])) (gives (part plain.no_gift ((true, a.id, a.offset) ∷ [])))
  unfolding content
  plain_form k m r t e = plain_choice (eqb a.id MESSAGE_PROPS) (eqb a.id RECIPIENTS) (eqb a.id ATTACHMENT) (is_message_id a.id || is_attachment_id a.id) _ _ _ _ _ m r t ∙ ap (λ (b : Bool). choice b (gives (part plain.no_gift [])) (gives (part plain.no_gift ((true, a.id, a.offset) ∷ [])))) e

  pub message_means : (l : PropList) (after : ℕ) (rest : List ℕ) → a.id ≡ MESSAGE_PROPS → Spans (prop_list false) (a.offset + 9 + 0) (drop 0 a.bytes) l after rest → Means (content objects a) (a.offset + 9) a.bytes (part (plain.message_list l.props) l.passed)
  message_means l after rest e s =
      let here : Spans (prop_list false) (a.offset + 9) a.bytes l after rest = subst (λ (n : ℕ). Spans (prop_list false) n a.bytes l after rest) (add-zero (a.offset + 9)) s in
      let f : Form Part = and_then (prop_list false) (λ l. gives (part (plain.message_list l.props) l.passed)) in
      subst (λ (z : Form Part). Means z (a.offset + 9) a.bytes (part (plain.message_list l.props) l.passed)) (sym (message_form e)) (rest, (spans_seen (prop_list false) (λ (l : PropList). part (plain.message_list l.props) l.passed) (a.offset + 9) a.bytes l after rest here).begins)

  pub message_fails : (g : Fault) → a.id ≡ MESSAGE_PROPS → (prop_list false).fails (a.offset + 9 + 0) (drop 0 a.bytes) g → (content objects a).fails (a.offset + 9) a.bytes g
  message_fails g e p =
      let here : (prop_list false).fails (a.offset + 9) a.bytes g = subst (λ (n : ℕ). (prop_list false).fails n a.bytes g) (add-zero (a.offset + 9)) p in
      subst (λ (z : Form Part). z.fails (a.offset + 9) a.bytes g) (sym (message_form e)) (inl here)

  pub recipients_mean : (lists : List PropList) → a.id ≡ RECIPIENTS → Means recipient_lists (a.offset + 9) a.bytes lists → Means (content objects a) (a.offset + 9) a.bytes (part (plain.recipients (map (λ l. l.props) lists)) (flat_map (λ l. l.passed) lists))
  recipients_mean lists e m =
      subst (λ (z : Form Part). Means z (a.offset + 9) a.bytes (part (plain.recipients (map (λ l. l.props) lists)) (flat_map (λ l. l.passed) lists))) (sym (recipients_form e))
      (m.0, record { text = m.1.text; parts = m.1.parts; spelled = record { x = lists; front = m.1.text; back = []; parts = sym (append_nil m.1.text); first = m.1.spelled; second = (refl, refl) } })
    where
      append_nil : (l : List ℕ) → l ++ [] ≡ l
      append_nil [] = refl
      append_nil (x ∷ l) = ap (λ (z : List ℕ). x ∷ z) (append_nil l)

  pub recipients_fail : (g : Fault) → a.id ≡ RECIPIENTS → recipient_lists.fails (a.offset + 9) a.bytes g → (content objects a).fails (a.offset + 9) a.bytes g
  recipients_fail g e p = subst (λ (z : Form Part). z.fails (a.offset + 9) a.bytes g) (sym (recipients_form e)) (inl p)

  pub nothing_means : (p : Part) → content objects a ≡ gives p → Means (content objects a) (a.offset + 9) a.bytes p
  nothing_means p e = subst (λ (z : Form Part). Means z (a.offset + 9) a.bytes p) (sym e) (a.bytes, (spans_nothing p (a.offset + 9) a.bytes).begins)
