-- A message that passes no limit of a .msg file.
use Rattle.std.proofs.Common.{◌≡◌, ℕ, ◌≤◌, List, [], ◌∷◌, ◌++◌, length, Bool, true, false, refl, sym, ◌∙◌, ap, None}
use Rattle.std.specs.Prelude.{nat_lt}
use Rattle.std.specs.List.{flat_map, AllByRecursion}
use Rattle.std.proofs.lemmas.Bool.{ltb-false}
use Rattle.std.proofs.lemmas.List.{append_assoc, append-nil}
use Rattle.carrier_model.specs.Limits.{Limit, too_many_names, too_many_recipients, too_many_attachments, too_large, msg_limits, where_passed, passed_recipients, passed_attachments, passed_by, first_limit}
use Rattle.msg_model.specs.ReadBack.{HasFewParts, HaveFewParts, BodyHasFewParts}
use Rattle.job_model.specs.Targets.{passed_size, passed_limit}
use Rattle.msg_model.specs.WrittenMsg.{msg_in}
use Rattle.carrier_model.specs.Bytes.{MOST_BYTES}
use Rattle.carrier_model.specs.Totals.{capped, recipient_count, attachment_count}
use Rattle.carrier_model.specs.Tree.{Message, message, Attachments, no_more, attached, Body, nothing, embedded, stored, messages_in, messages_below, messages_in_body, names_of}
use Rattle.carrier_model.proofs.ChildLaws.{each-split}
use Rattle.carrier_model.specs.Trees.{IsTree}
use Rattle.tnef_model.specs.TnefMessage.{TnefCarrier}
use Rattle.job_model.specs.Commands.{to_tnef}
use Rattle.tnef_model.specs.TnefCanonical.{tnef_of}
use Rattle.tnef_model.proofs.CanonicalTnef.{tree_means}

pub not_passed : (most n : ℕ) (limit : Limit) (others : List Limit) → first_limit (where_passed (nat_lt most n) limit ++ others) ≡ None → (n ≤ most) × (first_limit others ≡ None)
not_passed most n limit others h = by (nat_lt most n) refl h
  where
    by : (b : Bool) → nat_lt most n ≡ b → first_limit (where_passed b limit ++ others) ≡ None → (n ≤ most) × (first_limit others ≡ None)
    by true e g = absurd cc
    by false e g = (ltb-false most n e, g)

abbrev IsWithin : Message → Type 0
IsWithin m = (recipient_count m ≤ 2048) × (attachment_count m ≤ 2048)

all_within : (ms : List Message) (others : List Limit) → first_limit (flat_map passed_by ms ++ others) ≡ None → AllByRecursion IsWithin ms × (first_limit others ≡ None)
all_within [] others h = (tt, h)
all_within (m ∷ ms) others h =
    let rest = flat_map passed_by ms ++ others in
    let one : first_limit (passed_recipients m ++ (passed_attachments m ++ rest)) ≡ None = ap first_limit (sym (append_assoc (passed_recipients m) (passed_attachments m) rest) ∙ sym (append_assoc (passed_by m) (flat_map passed_by ms) others)) ∙ h in
    let a = not_passed 2048 (recipient_count m) (too_many_recipients (recipient_count m)) (passed_attachments m ++ rest) one in
    let b = not_passed 2048 (attachment_count m) (too_many_attachments (attachment_count m)) rest a.1 in
    let more = all_within ms others b.1 in
    (((a.0, b.0), more.0), more.1)

mutual
  few_parts : (m : Message) → AllByRecursion IsWithin (messages_in m) → HasFewParts m
  few_parts (message props recipients attachments) h = (h.0.0, h.0.1, few_below attachments h.1)

  few_below : (a : Attachments) → AllByRecursion IsWithin (messages_below a) → HaveFewParts a
  few_below no_more h = tt
  few_below (attached props body others) h = let p = each-split IsWithin (messages_in_body body) (messages_below others) h in (few_in body p.0, few_below others p.1)

  few_in : (body : Body) → AllByRecursion IsWithin (messages_in_body body) → BodyHasFewParts body
  few_in nothing h = tt
  few_in (embedded inner) h = few_parts inner h
  few_in (stored store) h = tt

pub parts_within : (t : Message) → first_limit (msg_limits t) ≡ None → (length (names_of t) ≤ 32000) × HasFewParts t
parts_within t h =
    let parts = flat_map passed_by (messages_in t) in
    let first = not_passed 32000 (length (names_of t)) (too_many_names (length (names_of t))) parts h in
    let all = all_within (messages_in t) [] (ap first_limit (append-nil parts) ∙ first.1) in
    (first.0, few_parts t all.0)

pub within : (z : ℕ) (t : Message) → first_limit (msg_limits t ++ passed_size (msg_in z t)) ≡ None → (length (names_of t) ≤ 32000) × HasFewParts t × (length (msg_in z t) ≤ MOST_BYTES)
within z t h =
    let size = passed_size (msg_in z t) in
    let first = not_passed 32000 (length (names_of t)) (too_many_names (length (names_of t))) (flat_map passed_by (messages_in t) ++ size) (ap first_limit (sym (append_assoc (where_passed (nat_lt 32000 (length (names_of t))) (too_many_names (length (names_of t)))) (flat_map passed_by (messages_in t)) size)) ∙ h) in
    let parts = all_within (messages_in t) size first.1 in
    let last = not_passed MOST_BYTES (length (msg_in z t)) (too_large (capped (length (msg_in z t)))) [] (ap first_limit (append-nil size) ∙ parts.1) in
    (first.0, few_parts t parts.0, last.0)

pub tree_within : (t : Message) (b : List ℕ) → IsTree t → passed_limit to_tnef t b ≡ None → TnefCarrier (tnef_of t) t []
tree_within t b h e =
    let names = not_passed 32000 (length (names_of t)) (too_many_names (length (names_of t))) (passed_size (tnef_of t)) e in
    let whole : first_limit (passed_size (tnef_of t) ++ []) ≡ None = ap first_limit (append-nil (passed_size (tnef_of t))) ∙ names.1 in
    let size = not_passed MOST_BYTES (length (tnef_of t)) (too_large (capped (length (tnef_of t)))) [] whole in
    tree_means t h names.0 size.0
