-- What is read is meant: messages.
use Rattle.std.proofs.Common.{◌≡◌, ℕ, zero, suc, inl, inr, ◌⊎◌, ◌<◌, ◌≤◌, List, [], ◌∷◌, ◌++◌, length, Bool, true, false, cond, refl, ap, sym, ◌∙◌, arith, true≢false, subst}
use Rattle.std.proofs.lemmas.Str.{IsUtf8-from_is_utf8, is_utf8-from_IsUtf8}
use Rattle.std.specs.Str.{is_utf8}
use Rattle.serde_json.specs.Read.{read}
use Rattle.std.specs.Prelude.{codes, IsUtf8, Option, Some, None, Result, Ok, Err}
use Rattle.std.proofs.lemmas.List.{append-nil, append_assoc}
use Rattle.serde_json.specs.Data.{Data, Items, no_items, item}
use Rattle.carrier_model.specs.Tree.{Message, message, nothing, embedded, stored, Attached, attachments_from, depth, depth_in, depth_of_body, GREATEST_LEVEL}
use Rattle.carrier_model.specs.Trees.{IsPropList, HasPropLists, HavePropLists, BodyHasPropLists}
use Rattle.json_model.specs.Faults.{JsonFault, check, under, fault_here, form, not_json}
use Rattle.json_model.specs.JsonMeanings.{OfMember, PropsMean, MessageMeans, AttachmentsMean, BodyMeans, JsonMeans, TextMeansTree, FirstJsonFault}
use Rattle.json_model.specs.MessageForms.{MESSAGE, PLAIN, EMBEDDING, STORING, read_plain, read_embedding, read_storing, read_attachment, read_parts, read_within, read_json}
use Rattle.json_model.specs.Parts.{has_members, member_at, in_turn, read_each, items_at}
use Rattle.json_model.specs.Properties.{read_props}
use Rattle.json_model.specs.StoreForms.{read_store}
use Rattle.json_model.proofs.Sound.{bind_was, under_was, check_was, formed_was, array_was, each_is}
use Rattle.json_model.proofs.SoundProps.{props_are, all_of_turns}
use Rattle.json_model.proofs.SoundStores.{store_is}

-- a message as it was read, so many levels above the deepest that may be
record IsMessage (levels : ℕ) (v : Data) (t : Message) : Type 0 where
  means : MessageMeans v t
  lists : HasPropLists t
  low : depth t < levels

record IsAttachment (levels : ℕ) (v : Data) (x : Attached) : Type 0 where
  props : OfMember (codes "properties") v (λ e. PropsMean e x.0)
  body : BodyMeans v x.1
  own : IsPropList x.0
  lists : BodyHasPropLists x.1
  low : depth_of_body x.1 ≤ levels

attachment_by : (levels : ℕ) (inner : Data → Result Message JsonFault) → ((v : Data) (t : Message) → inner v ≡ Ok t → IsMessage levels v t) → (v : Data) (x : Attached) (a b c : Bool)
    → has_members PLAIN v ≡ a → has_members EMBEDDING v ≡ b → has_members STORING v ≡ c
    → cond a (read_plain v) (cond b (read_embedding inner v) (cond c (read_storing v) (Err (fault_here form)))) ≡ Ok x → IsAttachment levels v x
attachment_by levels inner each v x true b c p q r h =
    let (d, at, h1) = bind_was (member_at (codes "properties") v) _ x h in
    let (props, is, h2) = bind_was (under 0 (read_props d)) _ x h1 in
    let (means, keeps) = props_are d props (under_was 0 (read_props d) props is) in
    let same : (props, nothing) ≡ x = cc in
    subst (IsAttachment levels v) same (record { props = (d, formed_was _ d at, means); body = p; own = keeps; lists = tt; low = omega arith })
attachment_by levels inner each v x false true c p q r h =
    let (d, at, h1) = bind_was (member_at (codes "message") v) _ x h in
    let (m, is, h2) = bind_was (under 0 (inner d)) _ x h1 in
    let (e, to, h3) = bind_was (member_at (codes "properties") v) _ x h2 in
    let (props, are, h4) = bind_was (under 1 (read_props e)) _ x h3 in
    let (means, keeps) = props_are e props (under_was 1 (read_props e) props are) in
    let one = each d m (under_was 0 (inner d) m is) in
    let same : (props, embedded m) ≡ x = cc in
    let l = one.low in
    subst (IsAttachment levels v) same (record { props = (e, formed_was _ e to, means); body = (q, (d, formed_was _ d at, one.means)); own = keeps; lists = one.lists; low = omega (arith, l) })
attachment_by levels inner each v x false false true p q r h =
    let (d, at, h1) = bind_was (member_at (codes "properties") v) _ x h in
    let (props, is, h2) = bind_was (under 0 (read_props d)) _ x h1 in
    let (e, to, h3) = bind_was (member_at (codes "store") v) _ x h2 in
    let (store, are, h4) = bind_was (under 1 (read_store e)) _ x h3 in
    let (means, keeps) = props_are d props (under_was 0 (read_props d) props is) in
    let (holds, fits) = store_is e store (under_was 1 (read_store e) store are) in
    let same : (props, stored store) ≡ x = cc in
    subst (IsAttachment levels v) same (record { props = (d, formed_was _ d at, means); body = (r, (e, formed_was _ e to, holds)); own = keeps; lists = fits; low = omega arith })
attachment_by levels inner each v x false false false p q r h = cc

record AreAttachments (levels : ℕ) (ds : Items) (xs : List Attached) : Type 0 where
  means : AttachmentsMean ds (attachments_from xs)
  lists : HavePropLists (attachments_from xs)
  low : depth_in (attachments_from xs) ≤ levels

attachments_are : (levels : ℕ) (inner : Data → Result Message JsonFault) → ((v : Data) (t : Message) → inner v ≡ Ok t → IsMessage levels v t)
    → (before : List Attached) (ds : Items) (all : List Attached) → in_turn (λ b. read_attachment inner) before ds ≡ Ok all → (xs : List Attached) × (all ≡ before ++ xs) × AreAttachments levels ds xs
attachments_are levels inner each before no_items all h = let same : before ≡ all = cc in ([], sym same ∙ sym (append-nil before), record { means = tt; lists = tt; low = omega arith })
attachments_are levels inner each before (item d ds) all h =
    let (x, is, rest) = bind_was (under (length before) (read_attachment inner d)) (λ x. in_turn (λ b. read_attachment inner) (before ++ x ∷ []) ds) all h in
    let (xs, whole, more) = attachments_are levels inner each (before ++ x ∷ []) ds all rest in
    let one = attachment_by levels inner each d x (has_members PLAIN d) (has_members EMBEDDING d) (has_members STORING d) refl refl refl (under_was (length before) (read_attachment inner d) x is) in
    let a = one.low in
    let b = more.low in
    (x ∷ xs, whole ∙ append_assoc before (x ∷ []) xs, record { means = (one.props, one.body, more.means); lists = (one.own, (one.lists, more.lists)); low = omega (arith, a, b) })

message_is : (levels : ℕ) (v : Data) (t : Message) → read_within levels v ≡ Ok t → IsMessage levels v t
message_is zero v t h = let (u, whole, end) = bind_was (check (has_members MESSAGE v) form) _ t h in cc
message_is (suc n) v t h =
    let (u, whole, h1) = bind_was (check (has_members MESSAGE v) form) (λ u. read_parts (read_within n) v) t h in
    let (a, at, h2) = bind_was (member_at (codes "attachments") v) _ t h1 in
    let (xs, is, h3) = bind_was (under 0 (read_each (read_attachment (read_within n)) a)) _ t h2 in
    let (b, to, h4) = bind_was (member_at (codes "properties") v) _ t h3 in
    let (props, are, h5) = bind_was (under 1 (read_props b)) _ t h4 in
    let (c, by, h6) = bind_was (member_at (codes "recipients") v) _ t h5 in
    let (recipients, who, h7) = bind_was (under 2 (read_each read_props c)) _ t h6 in
    let (ds, list, turn) = bind_was (items_at a) (in_turn (λ b. read_attachment (read_within n)) []) xs (under_was 0 (read_each (read_attachment (read_within n)) a) xs is) in
    let (ys, same_list, all) = attachments_are n (read_within n) (message_is n) [] ds xs turn in
    let (means, keeps) = props_are b props (under_was 1 (read_props b) props are) in
    let (people, lists) = each_is read_props PropsMean IsPropList props_are c recipients (under_was 2 (read_each read_props c) recipients who) in
    let same : message props recipients (attachments_from xs) ≡ t = cc in
    let m = ap (λ (l : List Attached). message props recipients (attachments_from l)) (sym same_list) ∙ same in
    let l = all.low in
    subst (IsMessage (suc n) v) m (record {
      means = (check_was (has_members MESSAGE v) form u whole, (a, formed_was _ a at, (ds, array_was a ds list, all.means)), (b, formed_was _ b to, means), (c, formed_was _ c by, people));
      lists = (keeps, (all_of_turns IsPropList recipients lists, all.lists));
      low = omega (arith, l);
    })

-- what is read is meant
pub read_is_meant : (v : Data) (t : Message) → read_json v ≡ Ok t → JsonMeans v t
read_is_meant v t h =
    let r = message_is (suc GREATEST_LEVEL) v t h in
    let l = r.low in
    record { form = r.means; tree = record { lists = r.lists; levels = omega (arith, l) } }

one_of : (v : Data) (r : Result Message JsonFault) → read_json v ≡ r → ((t : Message) × JsonMeans v t) ⊎ ((g : JsonFault) × (read_json v ≡ Err g))
one_of v (Ok t) h = inl (t, read_is_meant v t h)
one_of v (Err g) h = inr (g, h)

-- a value means a tree, or has a first fault
pub means_or_fails : (v : Data) → ((t : Message) × JsonMeans v t) ⊎ ((g : JsonFault) × (read_json v ≡ Err g))
means_or_fails v = one_of v (read_json v) refl

value_of_text : (b : List ℕ) (o : Option Data) → IsUtf8 b → read b ≡ o → ((t : Message) × TextMeansTree b t) ⊎ ((g : JsonFault) × FirstJsonFault b g)
value_of_text b None utf8 h = inr (fault_here not_json, inl (λ v is. none (read b) v h is.1, refl))
  where
    none : (o : Option Data) (v : Data) → o ≡ None → o ≡ Some v → ⊥
    none o v p q = cc
value_of_text b (Some v) utf8 h = by (means_or_fails v)
  where
    by : ((t : Message) × JsonMeans v t) ⊎ ((g : JsonFault) × (read_json v ≡ Err g)) → ((t : Message) × TextMeansTree b t) ⊎ ((g : JsonFault) × FirstJsonFault b g)
    by (inl (t, k)) = inl (t, (v, (utf8, h), k))
    by (inr (g, k)) = inr (g, inr (v, (utf8, h), k))

text_by : (b : List ℕ) (utf8 : Bool) → is_utf8 b ≡ utf8 → ((t : Message) × TextMeansTree b t) ⊎ ((g : JsonFault) × FirstJsonFault b g)
text_by b true is = value_of_text b (read b) (IsUtf8-from_is_utf8 b is) refl
text_by b false is = inr (fault_here not_json, inl (λ v k. true≢false (sym (is_utf8-from_IsUtf8 b k.0) ∙ is), refl))

-- a text means a tree, or has a first fault
pub text_means_or_fails : (b : List ℕ) → ((t : Message) × TextMeansTree b t) ⊎ ((g : JsonFault) × FirstJsonFault b g)
text_means_or_fails b = text_by b (is_utf8 b) refl
