-- A draft of a message, with one attribute more, and once all were read.
use Rattle.std.proofs.Common.{◌≡◌, ℕ, Bool, true, false, List, [], ◌∷◌, ◌++◌, map, Option, Some, None, refl, sym, subst, ◌∙◌}
use Rattle.std.specs.Prelude.{All, ◌==◌, if◌then◌else◌, MatchOption, IsSomeAnd}
use Rattle.std.specs.List.{list_any}
use Rattle.tnef_model.specs.Attributes.{Attr}
use Rattle.tnef_model.specs.LegacyAttributes.{MESSAGE_PROPS, RENDERING, is_message_id, is_attachment_id}
use Rattle.carrier_model.specs.Reasons.{DOUBLE_ATTRIBUTE}
use Rattle.tnef_model.specs.TnefMessage.{Read, Part, place_tests, attached_by, groups, message_by, joined}
use Rattle.carrier_model.specs.Trail.{Fault, first_fault}
use Rattle.carrier_model.specs.Tree.{Attached, message, attachments_from}
use Rattle.carrier_model.specs.Values.{Prop}
use Rattle.msg_tree.specs.Meaning.{list_of, body_of}
use Rattle.tnef_message.specs.HeldBytes.{held_bytes}
use Rattle.tnef_message.specs.Sections.{HasId, IsSection}
use Rattle.tnef_message.specs.Drafts.{Fits, attrs_of, own_of, of_attachments, IsTable, OneOpen, IsAttached, IsDraft, plain_gift}
use Rattle.tnef_message.specs.Entries.{Entered, IsFresh, OwnEntered, Opened, CurrentEntered, closed}
use Rattle.tnef_message.specs.declared.gifts.Gift.{Gift}
use Rattle.tnef_message.specs.declared.drafts.Pending.{Pending}
use Rattle.tnef_message.specs.declared.drafts.Draft.{Draft}
use Rattle.tnef_message.proofs.Gathering.{derived_ids, own_more, own_table, open_more, opened, attached_kept, section_kept, table_kept, closed_is}
use Rattle.tnef_message.proofs.Placing.{message_tests, attachment_tests, no_attachment}

not_refused : (b : Bool) (g : Fault) → (if b then Some g else None) ≡ None → b ≡ false
not_refused true g e = absurd cc
not_refused false g e = refl

module _ (reads : List Read) (d e : Draft) (a : Attr) (p : Part) (g : Gift) (fits : Fits a.id g) (here : IsDraft reads d) (passes : first_fault (place_tests (attrs_of reads) a) ≡ None) (given : p.gift ≡ plain_gift g) where
  pub draft_own : is_message_id a.id ≡ true → is_attachment_id a.id ≡ false → (a.id == RENDERING) ≡ false → OwnEntered a.id a.bytes g d e → IsDraft (reads ++ (a, p) ∷ []) e
  draft_own m at ren en =
      let tests = message_tests reads a MESSAGE_PROPS d.own.seen.items d.own.list d.own.derived.items _ m at ren here.own refl in
      let new : list_any (λ n. n == a.id) d.own.seen.items ≡ false = not_refused (list_any (λ n. n == a.id) d.own.seen.items) (DOUBLE_ATTRIBUTE, a.offset) (sym tests ∙ passes) in
      record {
        own = own_more reads (a, p) g fits given d.own.seen.items d.own.list d.own.derived.items e.own.seen.items e.own.list e.own.derived.items m here.own new en.seen en.derived en.list;
        table = own_table reads (a, p) g fits given d.own.seen.items d.recipients e.own.seen.items e.recipients m here.table new en.seen en.lists;
        attached = subst (λ (z : Option Pending). IsAttached (reads ++ (a, p) ∷ []) (list_of held_bytes e.attachments) z) (sym en.current)
            (subst (λ (z : List Attached). IsAttached (reads ++ (a, p) ∷ []) z d.current) (sym en.attachments) (attached_kept reads (a, p) (list_of held_bytes d.attachments) d.current at ren here.attached));
      }

  own_kept : is_message_id a.id ≡ false → e.own ≡ d.own → IsSection MESSAGE_PROPS (own_of (reads ++ (a, p) ∷ [])) e.own.seen.items e.own.list e.own.derived.items
  own_kept m same = rw same (section_kept MESSAGE_PROPS reads (a, p) d.own.seen.items d.own.list d.own.derived.items m here.own)

  recipients_kept : is_message_id a.id ≡ false → e.own ≡ d.own → e.recipients ≡ d.recipients → IsTable (own_of (reads ++ (a, p) ∷ [])) e.own.seen.items e.recipients
  recipients_kept m same lists = rw (same, lists) (table_kept reads (a, p) d.own.seen.items d.recipients m here.table)

  pub draft_new : a.id ≡ RENDERING → Opened a.id a.bytes g d e → IsDraft (reads ++ (a, p) ∷ []) e
  draft_new n en =
      let m : is_message_id a.id ≡ false = subst (λ (z : ℕ). is_message_id z ≡ false) (sym n) refl in
      record {
        own = own_kept m en.own;
        table = recipients_kept m en.own en.recipients;
        attached = by e.current en.current;
      }
    where
      by : (o : Option Pending) → IsSomeAnd o (λ q. (p : Pending) × IsFresh p × Entered a.id a.bytes g p q) → IsAttached (reads ++ (a, p) ∷ []) (list_of held_bytes e.attachments) o
      by None h = absurd h
      by (Some q) h = opened reads (a, p) g fits given (list_of held_bytes e.attachments) h.0 q n h.1 h.2 (en.attachments ∙ closed_is reads (list_of held_bytes d.attachments) d.current here.attached)

  pub draft_current : is_message_id a.id ≡ false → is_attachment_id a.id ≡ true → (a.id == RENDERING) ≡ false → CurrentEntered a.id a.bytes g d e → IsDraft (reads ++ (a, p) ∷ []) e
  draft_current m at ren en = record {
    own = own_kept m en.own;
    table = recipients_kept m en.own en.recipients;
    attached = by d.current here.attached en.current;
  }
    where
      two : (b : Pending) (o : Option Pending) → IsSomeAnd o (Entered a.id a.bytes g b) → OneOpen reads (list_of held_bytes d.attachments) b.section.seen.items b.section.list b.section.derived.items (body_of held_bytes b.body)
          → IsAttached (reads ++ (a, p) ∷ []) (list_of held_bytes e.attachments) o
      two b None h opened_at = absurd h
      two b (Some q) h opened_at =
          let tests = attachment_tests reads a (list_of held_bytes d.attachments) b.section.seen.items b.section.list b.section.derived.items (body_of held_bytes b.body) _ m at ren opened_at refl in
          let new : list_any (λ n. n == a.id) b.section.seen.items ≡ false = not_refused (list_any (λ n. n == a.id) b.section.seen.items) (DOUBLE_ATTRIBUTE, a.offset) (sym tests ∙ passes) in
          subst (λ (z : List Attached). OneOpen (reads ++ (a, p) ∷ []) z q.section.seen.items q.section.list q.section.derived.items (body_of held_bytes q.body)) (sym en.attachments)
          (open_more reads (a, p) g fits given (list_of held_bytes d.attachments) b q at ren new h opened_at)

      by : (o : Option Pending) → IsAttached reads (list_of held_bytes d.attachments) o → MatchOption o (Unit {0}) (λ p. IsSomeAnd e.current (Entered a.id a.bytes g p)) → IsAttached (reads ++ (a, p) ∷ []) (list_of held_bytes e.attachments) e.current
      by None none h = absurd (refused (sym passes ∙ no_attachment reads a (list_of held_bytes d.attachments) at ren none))
        where
          refused : {x : Fault} → None ≡ Some x → ⊥
          refused f = cc
      by (Some b) opened_at h = two b e.current h opened_at

  pub draft_unknown : is_message_id a.id ≡ false → is_attachment_id a.id ≡ false → (a.id == RENDERING) ≡ false → IsDraft (reads ++ (a, p) ∷ []) d
  draft_unknown m at ren = record {
    own = section_kept MESSAGE_PROPS reads (a, p) d.own.seen.items d.own.list d.own.derived.items m here.own;
    table = table_kept reads (a, p) d.own.seen.items d.recipients m here.table;
    attached = attached_kept reads (a, p) (list_of held_bytes d.attachments) d.current at ren here.attached;
  }

-- ---- what is known of the attachment that is being read

pub current_ids : (reads : List Read) (done : List Attached) (o : Option Pending) → IsAttached reads done o → MatchOption o (Unit {0}) (λ p. All HasId p.section.derived.items)
current_ids reads done None h = tt
current_ids reads done (Some p) h = subst (All HasId) (sym h.section.derived_are) (derived_ids (of_attachments (h.opening ∷ h.others)))

pub own_ids : (reads : List Read) (d : Draft) → IsDraft reads d → All HasId d.own.derived.items
own_ids reads d h = subst (All HasId) (sym h.own.derived_are) (derived_ids (own_of reads))

-- the message
pub finished : (reads : List Read) (d : Draft) (props : List Prop) (lists : List (List Prop)) (attachments : List Attached) → IsDraft reads d → props ≡ joined d.own.list d.own.derived.items → lists ≡ d.recipients
    → attachments ≡ list_of held_bytes d.attachments ++ closed d.current → message props lists (attachments_from attachments) ≡ message_by reads
finished reads d props lists attachments h p l at =
    let a : attachments ≡ map attached_by (groups (of_attachments reads)) = at ∙ closed_is reads (list_of held_bytes d.attachments) d.current h.attached in
    λ i. message ((p ∙ (λ j. joined (h.own.list_is j) (h.own.derived_are j))) i) ((l ∙ h.table.lists_are) i) (attachments_from (a i))
