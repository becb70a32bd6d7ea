-- The parts of a message, one after another.
use Rattle.std.proofs.Common.{◌≡◌, ℕ, zero, suc, List, ◌++◌, Some, None, Result, Ok, Err, refl, sym, ap, ◌∙◌}
use Rattle.carrier_model.specs.Files.{Files}
use Rattle.carrier_model.specs.Lookups.{storage_named}
use Rattle.carrier_model.specs.Kinds.{ATTACHED_OBJECT}
use Rattle.carrier_model.specs.Meanings.{Held}
use Rattle.carrier_model.specs.Outcomes.{◌>>=◌, mapped}
use Rattle.carrier_model.specs.Reasons.{MISSING_STORAGE}
use Rattle.carrier_model.specs.Trail.{Fault}
use Rattle.carrier_model.specs.Tree.{message, nothing, attachments_from}
use Rattle.carrier_model.specs.Turns.{each, found}
use Rattle.carrier_model.proofs.Turns.{mapped_ok}
use Rattle.msg_model.specs.MsgMessage.{Inner, attachment_in, body_in, carried, held_by, held_in, is_message, list_in, meaning_of, message_in, message_with, numbered}
use Rattle.msg_model.specs.MsgProps.{Part, Section, attachment, recipient}
use Rattle.msg_model.specs.NameMap.{Pair}
use Rattle.msg_model.specs.StreamNames.{ATTACHMENT_NAME, RECIPIENT_NAME, value_name}
use Rattle.msg_storage.specs.Levels.{Pieces, Rows, attachments_in, inner_at, pieces_of, recipients_in, rows_of}

pub message_in-is : (n : ℕ) (pairs : List Pair) (part : Part) (s : Files) → message_in n pairs part s ≡ message_with pairs (inner_at n pairs) part s
unfolding message_in
message_in-is zero pairs part s = refl
message_in-is (suc n) pairs part s = refl

mapped_err : {A B : Type 0} (f : A → B) (r : Result A Fault) (g : Fault) → mapped f r ≡ Err g → r ≡ Err g
mapped_err f (Ok x) g e = absurd cc
mapped_err f (Err h) g e = cc

-- a message, from its list, its recipients and its attachments
module _ (pairs : List Pair) (inner : Inner) (part : Part) (s : Files) where
  pub stops_list : (g : Fault) → list_in part pairs s ≡ Err g → message_with pairs inner part s ≡ Err g
  unfolding message_with
  stops_list g e = ap (λ r. r >>= λ own. each (list_in recipient pairs) (numbered RECIPIENT_NAME s) >>= λ rs. each (attachment_in pairs inner) (numbered ATTACHMENT_NAME s) >>= λ cs. Ok (meaning_of own rs cs)) e

  after_list : (own : Section) → list_in part pairs s ≡ Ok own → message_with pairs inner part s ≡ (each (list_in recipient pairs) (numbered RECIPIENT_NAME s) >>= λ rs. each (attachment_in pairs inner) (numbered ATTACHMENT_NAME s) >>= λ cs. Ok (meaning_of own rs cs))
  unfolding message_with
  after_list own e = ap (λ r. r >>= λ own. each (list_in recipient pairs) (numbered RECIPIENT_NAME s) >>= λ rs. each (attachment_in pairs inner) (numbered ATTACHMENT_NAME s) >>= λ cs. Ok (meaning_of own rs cs)) e

  pub stops_rows : (own : Section) (g : Fault) → list_in part pairs s ≡ Ok own → recipients_in pairs s ≡ Err g → message_with pairs inner part s ≡ Err g
  stops_rows own g e f = after_list own e ∙ ap (λ r. r >>= λ rs. each (attachment_in pairs inner) (numbered ATTACHMENT_NAME s) >>= λ cs. Ok (meaning_of own rs cs)) (mapped_err rows_of (each (list_in recipient pairs) (numbered RECIPIENT_NAME s)) g f)

  pub stops_pieces : (own : Section) (rows : Rows) (g : Fault) → list_in part pairs s ≡ Ok own → recipients_in pairs s ≡ Ok rows → attachments_in pairs inner s ≡ Err g → message_with pairs inner part s ≡ Err g
  stops_pieces own rows g e f h =
      let (rs, is, _) = mapped_ok rows_of (each (list_in recipient pairs) (numbered RECIPIENT_NAME s)) rows f in
      after_list own e ∙ (ap (λ r. r >>= λ rs. each (attachment_in pairs inner) (numbered ATTACHMENT_NAME s) >>= λ cs. Ok (meaning_of own rs cs)) is
      ∙ ap (λ r. r >>= λ cs. Ok (meaning_of own rs cs)) (mapped_err pieces_of (each (attachment_in pairs inner) (numbered ATTACHMENT_NAME s)) g h))

  pub whole_message : (own : Section) (rows : Rows) (pieces : Pieces) → list_in part pairs s ≡ Ok own → recipients_in pairs s ≡ Ok rows → attachments_in pairs inner s ≡ Ok pieces
      → message_with pairs inner part s ≡ Ok (record { message = message own.props rows.lists (attachments_from pieces.list); passed = own.passed ++ (rows.passed ++ pieces.passed) })
  whole_message own rows pieces e f h =
      let (rs, is, rows_are) = mapped_ok rows_of (each (list_in recipient pairs) (numbered RECIPIENT_NAME s)) rows f in
      let (cs, are, pieces_are) = mapped_ok pieces_of (each (attachment_in pairs inner) (numbered ATTACHMENT_NAME s)) pieces h in
      after_list own e ∙ (ap (λ r. r >>= λ rs. each (attachment_in pairs inner) (numbered ATTACHMENT_NAME s) >>= λ cs. Ok (meaning_of own rs cs)) is
      ∙ (ap (λ r. r >>= λ cs. Ok (meaning_of own rs cs)) are
      ∙ (λ i. Ok (record { message = message own.props (sym rows_are i).lists (attachments_from (sym pieces_are i).list); passed = own.passed ++ ((sym rows_are i).passed ++ (sym pieces_are i).passed) }))))

-- ---- an attachment

module _ (pairs : List Pair) (inner : Inner) (s : Files) where
  pub stops_attached : (g : Fault) → list_in attachment pairs s ≡ Err g → attachment_in pairs inner s ≡ Err g
  unfolding attachment_in
  stops_attached g e = ap (λ r. r >>= λ l. body_in inner s l.embedded >>= λ body. Ok (carried l body)) e

  module _ (l : Section) (e : list_in attachment pairs s ≡ Ok l) where
    pub plain_attachment : l.embedded ≡ None → attachment_in pairs inner s ≡ Ok (record { attached = (l.props, nothing); passed = l.passed })
    unfolding attachment_in body_in
    plain_attachment none = ap (λ r. r >>= λ l. body_in inner s l.embedded >>= λ body. Ok (carried l body)) e ∙ ap (λ o. body_in inner s o >>= λ body. Ok (carried l body)) none

    pub stops_held : (place : ℕ) (g : Fault) → l.embedded ≡ Some place → held_in inner s place ≡ Err g → attachment_in pairs inner s ≡ Err g
    unfolding attachment_in body_in
    stops_held place g some h =
        ap (λ r. r >>= λ l. body_in inner s l.embedded >>= λ body. Ok (carried l body)) e
        ∙ (ap (λ o. body_in inner s o >>= λ body. Ok (carried l body)) some
        ∙ ap (λ r. mapped Some r >>= λ body. Ok (carried l body)) h)

    pub holding : (place : ℕ) (held : Held) → l.embedded ≡ Some place → held_in inner s place ≡ Ok held → attachment_in pairs inner s ≡ Ok (record { attached = (l.props, held.body); passed = l.passed ++ held.passed })
    unfolding attachment_in body_in
    holding place held some h =
        ap (λ r. r >>= λ l. body_in inner s l.embedded >>= λ body. Ok (carried l body)) e
        ∙ (ap (λ o. body_in inner s o >>= λ body. Ok (carried l body)) some
        ∙ ap (λ r. mapped Some r >>= λ body. Ok (carried l body)) h)

-- what the storage beside the list gives
pub held_below : (inner : Inner) (s : Files) (place : ℕ) (below : Files) → storage_named s.children (value_name ATTACHED_OBJECT) ≡ Some below → held_in inner s place ≡ held_by inner (is_message below) place below
unfolding held_in
held_below inner s place below e = ap (λ o. found o (MISSING_STORAGE, place) >>= λ below. held_by inner (is_message below) place below) e

pub held_missing : (inner : Inner) (s : Files) (place : ℕ) → storage_named s.children (value_name ATTACHED_OBJECT) ≡ None → held_in inner s place ≡ Err (MISSING_STORAGE, place)
unfolding held_in
held_missing inner s place e = ap (λ o. found o (MISSING_STORAGE, place) >>= λ below. held_by inner (is_message below) place below) e
