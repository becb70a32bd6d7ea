-- The message that a .msg file gives is the one that it means.
use Rattle.std.proofs.Common.{◌≡◌, ℕ, zero, suc, List, Result, Ok, Err, Option, Some, None, refl, sym, ap, ◌∙◌, Bool, true, false}
use Rattle.std.specs.Prelude.{length, ◌≤◌}
use Rattle.carrier_model.specs.Trail.{Fault, IsExact}
use Rattle.carrier_model.specs.Reasons.{MISSING_STORAGE}
use Rattle.carrier_model.specs.Outcomes.{mapped}
use Rattle.carrier_model.specs.Turns.{each, found}
use Rattle.carrier_model.specs.Files.{Files, open_file}
use Rattle.carrier_model.specs.Tables.{sector_size}
use Rattle.carrier_model.proofs.HoldsLaws.{size_known, open_sound, holds_opened}
use Rattle.carrier_model.specs.Lookups.{stream_named, storage_named}
use Rattle.carrier_model.specs.Kinds.{ATTACHED_OBJECT}
use Rattle.carrier_model.specs.Meanings.{Meaning, Held, held_message, held_store}
use Rattle.carrier_model.specs.Tree.{GREATEST_LEVEL}
use Rattle.msg_model.specs.NameMap.{Pair, pairs_of}
use Rattle.msg_model.specs.StreamNames.{value_name, RECIPIENT_NAME, ATTACHMENT_NAME}
use Rattle.carrier_model.specs.Stores.{store_in}
use Rattle.msg_model.specs.MsgProps.{Part, top, embedded_message, recipient, attachment, Section, MsgProps}
use Rattle.msg_model.specs.MsgMessage.{name_streams, numbered, list_in, Carried, carried, meaning_of, Inner, is_message, held_by, held_in, body_in, attachment_in, message_with, message_in, files_meaning, Within, HoldsBy, HasObject, HasBody, AttachmentMeans, MessageMeans, MsgMeans, FilesMean, file_meaning, MsgCarrier, MsgFault}
use Rattle.carrier_model.proofs.Turns.{ok_same, bind_ok, bind_from, mapped_ok, found_ok, each-sound, each-only, zip_weaker}
use Rattle.carrier_model.proofs.StoreLaws.{store_in-sound, store_in-only}
use Rattle.msg_model.proofs.MsgProps.{props_of-sound, props_of-only}
use Rattle.msg_model.proofs.NameMap.{pairs_of-sound, pairs_of-only}

list_in-sound : (part : Part) (pairs : List Pair) (s : Files) (l : Section) → list_in part pairs s ≡ Ok l → MsgProps part pairs (stream_named s.children) l
list_in-sound part pairs s l h = props_of-sound part pairs (stream_named s.children) s.place l h

list_in-only : (part : Part) (pairs : List Pair) (s : Files) (l : Section) → MsgProps part pairs (stream_named s.children) l → list_in part pairs s ≡ Ok l
list_in-only part pairs s l h = props_of-only part pairs (stream_named s.children) s.place l h

module _ (pairs : List Pair) (inner : Inner) (within : Within) (right : (place : ℕ) (below : Files) (m : Meaning) → inner place below ≡ Ok m → within below m) where
  by-sound : (message : Bool) (place : ℕ) (below : Files) (h : Held) → held_by inner message place below ≡ Ok h → HoldsBy within message below h
  by-sound true place below h e = let (m, there, is) = mapped_ok held_message (inner place below) h e in (m, right place below m there, is)
  by-sound false place below h e = let (x, there, is) = mapped_ok held_store (store_in below) h e in (x, store_in-sound below x there, is)

  held-sound : (s : Files) (place : ℕ) (m : Held) → held_in inner s place ≡ Ok m → HasObject within s m
  unfolding held_in
  held-sound s place m h =
      let (below, there, a) = bind_ok (found (storage_named s.children (value_name ATTACHED_OBJECT)) (MISSING_STORAGE, place)) _ m h in
      record { below = below; there = found_ok _ (MISSING_STORAGE, place) below there; means = by-sound (is_message below) place below m a }

  body-sound : (s : Files) (o : Option ℕ) (body : Option Held) → body_in inner s o ≡ Ok body → HasBody within s o body
  unfolding body_in
  body-sound s None None h = tt
  body-sound s None (Some m) h = let wrong = ok_same (Ok _) None (Some m) refl h in absurd cc
  body-sound s (Some place) None h = let (m, there, is) = mapped_ok Some (held_in inner s place) None h in absurd cc
  body-sound s (Some place) (Some m) h =
      let (x, there, is) = mapped_ok Some (held_in inner s place) (Some m) h in
      let same : x ≡ m = cc in
      held-sound s place m (there ∙ ap Ok same)

  attachment-sound : (s : Files) (a : Carried) → attachment_in pairs inner s ≡ Ok a → AttachmentMeans pairs within s a
  unfolding attachment_in
  attachment-sound s a h =
      let (l, listed, b) = bind_ok (list_in attachment pairs s) _ a h in
      let (body, there, is) = bind_ok (body_in inner s l.embedded) _ a b in
      record { list = l; there = list_in-sound attachment pairs s l listed; body = body; inner = body-sound s l.embedded body there; is = ok_same (Ok _) (carried l body) a refl is }

  with-sound : (part : Part) (s : Files) (m : Meaning) → message_with pairs inner part s ≡ Ok m → MessageMeans pairs within part s m
  unfolding message_with
  with-sound part s m h =
      let (own, listed, a) = bind_ok (list_in part pairs s) _ m h in
      let (recipients, these, b) = bind_ok (each (list_in recipient pairs) (numbered RECIPIENT_NAME s)) _ m a in
      let (attachments, those, is) = bind_ok (each (attachment_in pairs inner) (numbered ATTACHMENT_NAME s)) _ m b in
      record {
        own = own;
        there = list_in-sound part pairs s own listed;
        recipients = recipients;
        each_recipient = zip_weaker _ _ (λ r l. list_in-sound recipient pairs r l) (numbered RECIPIENT_NAME s) recipients (each-sound (list_in recipient pairs) (numbered RECIPIENT_NAME s) recipients these);
        attachments = attachments;
        each_attachment = zip_weaker _ _ (λ r a. attachment-sound r a) (numbered ATTACHMENT_NAME s) attachments (each-sound (attachment_in pairs inner) (numbered ATTACHMENT_NAME s) attachments those);
        is = ok_same (Ok _) (meaning_of own recipients attachments) m refl is;
      }

module _ (pairs : List Pair) (inner : Inner) (within : Within) (answered : (place : ℕ) (below : Files) (m : Meaning) → within below m → inner place below ≡ Ok m) where
  by-only : (message : Bool) (place : ℕ) (below : Files) (h : Held) → HoldsBy within message below h → held_by inner message place below ≡ Ok h
  by-only true place below h (m, means, is) = ap (mapped held_message) (answered place below m means) ∙ ap Ok (sym is)
  by-only false place below h (x, means, is) = ap (mapped held_store) (store_in-only below x means) ∙ ap Ok (sym is)

  held-only : (s : Files) (place : ℕ) (m : Held) → HasObject within s m → held_in inner s place ≡ Ok m
  unfolding held_in
  held-only s place m h =
      bind_from (found (storage_named s.children (value_name ATTACHED_OBJECT)) (MISSING_STORAGE, place)) _ h.below (ap (λ o. found o (MISSING_STORAGE, place)) h.there)
      ∙ by-only (is_message h.below) place h.below m h.means

  body-only : (s : Files) (o : Option ℕ) (body : Option Held) → HasBody within s o body → body_in inner s o ≡ Ok body
  unfolding body_in
  body-only s None None h = refl
  body-only s None (Some m) h = absurd h
  body-only s (Some place) None h = absurd h
  body-only s (Some place) (Some m) h = ap (mapped Some) (held-only s place m h)

  attachment-only : (s : Files) (a : Carried) → AttachmentMeans pairs within s a → attachment_in pairs inner s ≡ Ok a
  unfolding attachment_in
  attachment-only s a h =
      bind_from (list_in attachment pairs s) _ h.list (list_in-only attachment pairs s h.list h.there)
      ∙ (bind_from (body_in inner s h.list.embedded) _ h.body (body-only s h.list.embedded h.body h.inner) ∙ ap Ok (sym h.is))

  with-only : (part : Part) (s : Files) (m : Meaning) → MessageMeans pairs within part s m → message_with pairs inner part s ≡ Ok m
  unfolding message_with
  with-only part s m h =
      bind_from (list_in part pairs s) _ h.own (list_in-only part pairs s h.own h.there)
      ∙ (bind_from (each (list_in recipient pairs) (numbered RECIPIENT_NAME s)) _ h.recipients (each-only (list_in recipient pairs) (numbered RECIPIENT_NAME s) h.recipients (zip_weaker _ _ (λ r l. list_in-only recipient pairs r l) (numbered RECIPIENT_NAME s) h.recipients h.each_recipient))
      ∙ (bind_from (each (attachment_in pairs inner) (numbered ATTACHMENT_NAME s)) _ h.attachments (each-only (attachment_in pairs inner) (numbered ATTACHMENT_NAME s) h.attachments (zip_weaker _ _ (λ r a. attachment-only r a) (numbered ATTACHMENT_NAME s) h.attachments h.each_attachment))
      ∙ ap Ok (sym h.is)))

pub message_in-sound : (n : ℕ) (pairs : List Pair) (part : Part) (s : Files) (m : Meaning) → message_in n pairs part s ≡ Ok m → MsgMeans n pairs part s m
unfolding message_in
message_in-sound zero pairs part s m h = with-sound pairs _ (λ below inner. ⊥) (λ place below x e. absurd cc) part s m h
message_in-sound (suc n) pairs part s m h = with-sound pairs _ _ (λ place below x e. message_in-sound n pairs embedded_message below x e) part s m h

pub message_in-only : (n : ℕ) (pairs : List Pair) (part : Part) (s : Files) (m : Meaning) → MsgMeans n pairs part s m → message_in n pairs part s ≡ Ok m
unfolding message_in
message_in-only zero pairs part s m h = with-only pairs _ (λ below inner. ⊥) (λ place below x e. absurd e) part s m h
message_in-only (suc n) pairs part s m h = with-only pairs _ _ (λ place below x e. message_in-only n pairs embedded_message below x e) part s m h

pub files_meaning-sound : (root : Files) (m : Meaning) → files_meaning root ≡ Ok m → FilesMean root m
unfolding files_meaning
files_meaning-sound root m h =
    let (pairs, named, is) = bind_ok (pairs_of (name_streams root)) _ m h in
    record { pairs = pairs; named = pairs_of-sound (name_streams root) pairs named; means = message_in-sound GREATEST_LEVEL pairs top root m is }

pub files_meaning-only : (root : Files) (m : Meaning) → FilesMean root m → files_meaning root ≡ Ok m
unfolding files_meaning
files_meaning-only root m h =
    bind_from (pairs_of (name_streams root)) _ h.pairs (pairs_of-only (name_streams root) h.pairs h.named)
    ∙ message_in-only GREATEST_LEVEL h.pairs top root m h.means

-- an answer is one thing, and no fault
pub answers_exact : {X : Type 0} (r : Result X Fault) (means : X → Type 0) → ((x : X) → means x → r ≡ Ok x) → IsExact means (λ g. r ≡ Err g)
answers_exact r means only = record {
  one = λ x y m n. ok_same r x y (only x m) (only y n);
  single = λ g h e f. (let both : r ≡ Err h = f in cc);
  apart = λ x g m e. (let both : r ≡ Ok x = only x m in cc);
}

pub files_exact : (root : Files) → IsExact (FilesMean root) (λ g. files_meaning root ≡ Err g)
files_exact root = answers_exact (files_meaning root) (FilesMean root) (files_meaning-only root)

-- ---- whole files

pub carrier-sound : (b : List ℕ) (m : Meaning) → file_meaning b ≡ Ok m → MsgCarrier b m.message m.passed
unfolding file_meaning
carrier-sound b m h =
    let (root, opened, is) = bind_ok (open_file b) files_meaning m h in
    record { root = root; holds = open_sound (sector_size b) b root opened; means = files_meaning-sound root m is }

pub carrier-only : (b : List ℕ) (m : Meaning) → length b ≤ 268435456 → MsgCarrier b m.message m.passed → file_meaning b ≡ Ok m
unfolding file_meaning
carrier-only b m short h = bind_from (open_file b) files_meaning h.root (holds_opened (sector_size b) b h.root (size_known b) short h.holds) ∙ files_meaning-only h.root m h.means

pub carriers_exact : (b : List ℕ) → length b ≤ 268435456 → IsExact (λ (m : Meaning). MsgCarrier b m.message m.passed) (MsgFault b)
carriers_exact b short = answers_exact (file_meaning b) (λ (m : Meaning). MsgCarrier b m.message m.passed) (λ m. carrier-only b m short)
