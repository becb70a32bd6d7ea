-- A message that is being gathered, with one attribute more.
use Rattle.std.proofs.Common.{◌≡◌, ℕ, Bool, true, false, List, [], ◌∷◌, ◌++◌, map, cond, Option, Some, None, eqb, eq-eqb, refl, sym, ap, subst, ◌∙◌, append_assoc, arith}
use Rattle.std.specs.Prelude.{All, ◌||◌, ◌==◌, if◌then◌else◌}
use Rattle.std.specs.Option.{option_map, option_to_list}
use Rattle.std.specs.List.{flat_map, list_any, cons_option}
use Rattle.std.proofs.lemmas.Grind.{flat_map-append}
use Rattle.std.proofs.lemmas.List.{append-nil, map-append}
use Rattle.std.proofs.lemmas.List.Elements.{All-cons, filter-append, filter_map-append}
use Rattle.std.proofs.lemmas.List.Folds.{list_any-append}
use Rattle.std.proofs.lemmas.Bool.{eqb-true}
use Rattle.carrier_model.specs.Keys.{id}
use Rattle.tnef_model.specs.LegacyAttributes.{Row, message_rows, attachment_rows, value_by, prop_by, legacy_prop, MESSAGE_PROPS, RECIPIENTS, RENDERING, ATTACHMENT, is_message_id, is_attachment_id}
use Rattle.tnef_model.specs.TnefMessage.{Read, props_in, recipients_in, body_in, or_else, body_among, derived as derived_of, joined, beside, attached_by, groups}
use Rattle.carrier_model.specs.Tree.{Attached, Body, nothing, embedded, stored}
use Rattle.carrier_model.specs.Values.{Value, Prop}
use Rattle.msg_tree.specs.Meaning.{body_of}
use Rattle.tnef_message.specs.HeldBytes.{held_bytes}
use Rattle.tnef_message.specs.Sections.{HasId, IsSection}
use Rattle.tnef_message.specs.Drafts.{Fits, begins, own_of, of_attachments, IsTable, IsBody, OneOpen, IsAttached, plain_gift}
use Rattle.tnef_message.specs.Entries.{Entered, IsFresh, attached_as, body_after, closed, list_after, lists_after, own_after}
use Rattle.tnef_message.specs.declared.gifts.Gift as rust
use Rattle.tnef_message.specs.declared.gifts.Gift.TheVariants.{Nothing, MessageList, RecipientTable, AttachmentList}
use Rattle.tnef_message.specs.declared.drafts.Pending.{Pending}
use Rattle.tnef_message.proofs.Groups.{left_false, right_false, both_false, filter_in, filter_out, any_filter, last_group}

-- ---- derived properties have ids

by_value : (n : ℕ) (o : Option Value) (p : Prop) → option_map (λ (v : Value). record { key = id n; value = v }) o ≡ Some p → HasId p
by_value n None p e = absurd cc
by_value n (Some v) p e = let same : record { key = id n; value = v } ≡ p = cc in subst HasId same tt

by_rows : (rows : List Row) (n : ℕ) (x : List ℕ) (p : Prop) → prop_by rows n x ≡ Some p → HasId p
by_rows [] n x p e = absurd cc
by_rows (row ∷ rows) n x p e = by (row.0 == n) (λ f. by_rows rows n x p f) e
  where
    by : (b : Bool) → (prop_by rows n x ≡ Some p → HasId p) → (if b then option_map (λ v. record { key = id row.1; value = v }) (value_by row.2 x) else prop_by rows n x) ≡ Some p → HasId p
    by true later f = by_value row.1 (value_by row.2 x) p f
    by false later f = later f

pub derived_ids : (reads : List Read) → All HasId (derived_of reads)
derived_ids [] = λ k d lt. absurd (omega arith)
derived_ids (r ∷ reads) = by (legacy_prop r.0.id r.0.bytes) refl (derived_ids reads)
  where
    by : (o : Option Prop) → legacy_prop r.0.id r.0.bytes ≡ o → All HasId (derived_of reads) → All HasId (cons_option o (derived_of reads))
    by None e h = h
    by (Some p) e h = All-cons HasId p (derived_of reads) (by_rows (message_rows ++ attachment_rows) r.0.id r.0.bytes p e) h

-- ---- sections, tables and bodies

one_option : {A : Type 0} (o : Option A) → cons_option o [] ≡ option_to_list o
one_option None = refl
one_option (Some a) = refl

nothing_more : {A : Type 0} (l more l' : List A) → l ≡ [] → more ≡ [] → l' ≡ l ++ more → l' ≡ []
nothing_more {A} l more l' p q e = e ∙ (λ i. p i ++ q i)

any_last : (p : ℕ → Bool) (seen : List ℕ) (n : ℕ) (seen' : List ℕ) → seen' ≡ seen ++ n ∷ [] → list_any p seen' ≡ false → (list_any p seen ≡ false) × (p n ≡ false)
any_last p seen n seen' e f =
    let whole : (list_any p seen || (p n || false)) ≡ false = sym (ap (list_any p) e ∙ list_any-append p seen (n ∷ [])) ∙ f in
    (left_false (list_any p seen) (p n || false) whole, left_false (p n) false (right_false (list_any p seen) (p n || false) whole))

pub section_more : (list_id : ℕ) (reads : List Read) (seen : List ℕ) (list derived : List Prop) (r : Read) (seen' : List ℕ) (list' derived' : List Prop) → IsSection list_id reads seen list derived → seen' ≡ seen ++ r.0.id ∷ []
    → derived' ≡ derived ++ option_to_list (legacy_prop r.0.id r.0.bytes) → list' ≡ list ++ props_in r.1.gift → ((r.0.id == list_id) ≡ false → props_in r.1.gift ≡ []) → IsSection list_id (reads ++ r ∷ []) seen' list' derived'
section_more list_id reads seen list derived r seen' list' derived' s se de le off = record {
  seen_are = se ∙ ap (λ (z : List ℕ). z ++ r.0.id ∷ []) s.seen_are ∙ sym (map-append (λ (r : Read). r.0.id) reads (r ∷ []));
  list_is = le ∙ ap (λ (z : List Prop). z ++ props_in r.1.gift) s.list_is ∙ ap (λ (z : List Prop). flat_map (λ (r : Read). props_in r.1.gift) reads ++ z) (sym (append-nil (props_in r.1.gift))) ∙ sym (flat_map-append (λ (r : Read). props_in r.1.gift) reads (r ∷ []));
  derived_are = de ∙ ap (λ (z : List Prop). z ++ option_to_list (legacy_prop r.0.id r.0.bytes)) s.derived_are ∙ ap (λ (z : List Prop). derived_of reads ++ z) (sym (one_option (legacy_prop r.0.id r.0.bytes))) ∙ sym (filter_map-append (λ (r : Read). legacy_prop r.0.id r.0.bytes) reads (r ∷ []));
  no_list = λ f. let q = any_last (λ n. n == list_id) seen r.0.id seen' se f in nothing_more list (props_in r.1.gift) list' (s.no_list q.0) (off q.1) le;
}

pub table_more : (reads : List Read) (seen : List ℕ) (lists : List (List Prop)) (r : Read) (seen' : List ℕ) (lists' : List (List Prop)) → IsTable reads seen lists → seen' ≡ seen ++ r.0.id ∷ []
    → lists' ≡ lists ++ recipients_in r.1.gift → ((r.0.id == RECIPIENTS) ≡ false → recipients_in r.1.gift ≡ []) → IsTable (reads ++ r ∷ []) seen' lists'
table_more reads seen lists r seen' lists' t se le off = record {
  lists_are = le ∙ ap (λ (z : List (List Prop)). z ++ recipients_in r.1.gift) t.lists_are ∙ ap (λ (z : List (List Prop)). flat_map (λ (r : Read). recipients_in r.1.gift) reads ++ z) (sym (append-nil (recipients_in r.1.gift))) ∙ sym (flat_map-append (λ (r : Read). recipients_in r.1.gift) reads (r ∷ []));
  no_lists = λ f. let q = any_last (λ n. n == RECIPIENTS) seen r.0.id seen' se f in nothing_more lists (recipients_in r.1.gift) lists' (t.no_lists q.0) (off q.1) le;
}

or_nothing : (b : Body) → or_else b nothing ≡ b
or_nothing nothing = refl
or_nothing (embedded inner) = refl
or_nothing (stored store) = refl

or_assoc : (a b c : Body) → or_else a (or_else b c) ≡ or_else (or_else a b) c
or_assoc nothing b c = refl
or_assoc (embedded inner) b c = refl
or_assoc (stored store) b c = refl

body_last : (reads : List Read) (r : Read) → body_among (reads ++ r ∷ []) ≡ or_else (body_among reads) (body_in r.1.gift)
body_last [] r = or_nothing (body_in r.1.gift)
body_last (x ∷ reads) r = ap (or_else (body_in x.1.gift)) (body_last reads r) ∙ or_assoc (body_in x.1.gift) (body_among reads) (body_in r.1.gift)

pub body_more : (reads : List Read) (seen : List ℕ) (body : Body) (r : Read) (seen' : List ℕ) (body' : Body) → IsBody reads seen body → seen' ≡ seen ++ r.0.id ∷ []
    → body' ≡ or_else body (body_in r.1.gift) → ((r.0.id == ATTACHMENT) ≡ false → body_in r.1.gift ≡ nothing) → IsBody (reads ++ r ∷ []) seen' body'
body_more reads seen body r seen' body' b se be off = record {
  body_is = be ∙ ap (λ (z : Body). or_else z (body_in r.1.gift)) b.body_is ∙ sym (body_last reads r);
  no_body = λ f. let q = any_last (λ n. n == ATTACHMENT) seen r.0.id seen' se f in be ∙ (λ i. or_else (b.no_body q.0 i) (off q.1 i));
}

-- ---- what a gift changes, by the attribute's id

message_never : (n : ℕ) → is_message_id n ≡ true → n ≡ ATTACHMENT → ⊥
message_never n m e = let f : is_message_id ATTACHMENT ≡ true = subst (λ (z : ℕ). is_message_id z ≡ true) e m in cc

attachment_never : (n : ℕ) → is_attachment_id n ≡ true → n ≡ MESSAGE_PROPS → ⊥
attachment_never n m e = let f : is_attachment_id MESSAGE_PROPS ≡ true = subst (λ (z : ℕ). is_attachment_id z ≡ true) e m in cc

same_never : (n k : ℕ) → n ≡ k → eqb n k ≡ false → ⊥
same_never n k e f = let g = eq-eqb n k e in cc

own_list : (n : ℕ) (g : rust.Gift) (list : List Prop) → Fits n g → is_message_id n ≡ true → (n ≡ MESSAGE_PROPS → list ≡ []) → own_after g list ≡ list ++ props_in (plain_gift g)
own_list n Nothing list fits m none = sym (append-nil list)
own_list n (MessageList props) list fits m none = ap (λ (z : List Prop). z ++ props) (sym (none fits))
own_list n (RecipientTable lists) list fits m none = sym (append-nil list)
own_list n (AttachmentList props held) list fits m none = absurd (message_never n m fits)

own_off : (n : ℕ) (g : rust.Gift) → Fits n g → is_message_id n ≡ true → (n == MESSAGE_PROPS) ≡ false → props_in (plain_gift g) ≡ []
own_off n Nothing fits m off = refl
own_off n (MessageList props) fits m off = absurd (same_never n MESSAGE_PROPS fits off)
own_off n (RecipientTable lists) fits m off = refl
own_off n (AttachmentList props held) fits m off = absurd (message_never n m fits)

own_lists : (n : ℕ) (g : rust.Gift) (lists : List (List Prop)) → Fits n g → (n ≡ RECIPIENTS → lists ≡ []) → lists_after g lists ≡ lists ++ recipients_in (plain_gift g)
own_lists n Nothing lists fits none = sym (append-nil lists)
own_lists n (MessageList props) lists fits none = sym (append-nil lists)
own_lists n (RecipientTable others) lists fits none = ap (λ (z : List (List Prop)). z ++ others) (sym (none fits))
own_lists n (AttachmentList props held) lists fits none = sym (append-nil lists)

lists_off : (n : ℕ) (g : rust.Gift) → Fits n g → (n == RECIPIENTS) ≡ false → recipients_in (plain_gift g) ≡ []
lists_off n Nothing fits off = refl
lists_off n (MessageList props) fits off = refl
lists_off n (RecipientTable lists) fits off = absurd (same_never n RECIPIENTS fits off)
lists_off n (AttachmentList props held) fits off = refl

its_list : (n : ℕ) (g : rust.Gift) (list : List Prop) → Fits n g → is_attachment_id n ≡ true → (n ≡ ATTACHMENT → list ≡ []) → list_after g list ≡ list ++ props_in (plain_gift g)
its_list n Nothing list fits m none = sym (append-nil list)
its_list n (MessageList props) list fits m none = absurd (attachment_never n m fits)
its_list n (RecipientTable lists) list fits m none = sym (append-nil list)
its_list n (AttachmentList props held) list fits m none = ap (λ (z : List Prop). z ++ props) (sym (none fits))

its_off : (n : ℕ) (g : rust.Gift) → Fits n g → is_attachment_id n ≡ true → (n == ATTACHMENT) ≡ false → props_in (plain_gift g) ≡ []
its_off n Nothing fits m off = refl
its_off n (MessageList props) fits m off = absurd (attachment_never n m fits)
its_off n (RecipientTable lists) fits m off = refl
its_off n (AttachmentList props held) fits m off = absurd (same_never n ATTACHMENT fits off)

its_body : (n : ℕ) (g : rust.Gift) (body : Body) → Fits n g → (n ≡ ATTACHMENT → body ≡ nothing) → body_after g body ≡ or_else body (body_in (plain_gift g))
its_body n Nothing body fits none = sym (or_nothing body)
its_body n (MessageList props) body fits none = sym (or_nothing body)
its_body n (RecipientTable lists) body fits none = sym (or_nothing body)
its_body n (AttachmentList props held) body fits none = ap (λ (z : Body). or_else z (body_of held_bytes held)) (sym (none fits))

body_off : (n : ℕ) (g : rust.Gift) → Fits n g → (n == ATTACHMENT) ≡ false → body_in (plain_gift g) ≡ nothing
body_off n Nothing fits off = refl
body_off n (MessageList props) fits off = refl
body_off n (RecipientTable lists) fits off = refl
body_off n (AttachmentList props held) fits off = absurd (same_never n ATTACHMENT fits off)

-- ---- one attribute more

module _ (reads : List Read) (r : Read) (g : rust.Gift) (fits : Fits r.0.id g) (given : r.1.gift ≡ plain_gift g) where
  none_there : (k : ℕ) (seen : List ℕ) → list_any (λ n. n == r.0.id) seen ≡ false → r.0.id ≡ k → list_any (λ n. n == k) seen ≡ false
  none_there k seen e f = subst (λ (z : ℕ). list_any (λ n. n == z) seen ≡ false) f e

  pub own_more : (seen : List ℕ) (list derived : List Prop) (seen' : List ℕ) (list' derived' : List Prop) → is_message_id r.0.id ≡ true → IsSection MESSAGE_PROPS (own_of reads) seen list derived → list_any (λ n. n == r.0.id) seen ≡ false → seen' ≡ seen ++ r.0.id ∷ []
      → derived' ≡ derived ++ option_to_list (legacy_prop r.0.id r.0.bytes) → list' ≡ own_after g list → IsSection MESSAGE_PROPS (own_of (reads ++ r ∷ [])) seen' list' derived'
  own_more seen list derived seen' list' derived' m s new se de le =
      subst (λ (z : List Read). IsSection MESSAGE_PROPS z seen' list' derived') (sym (filter_in (λ (r : Read). is_message_id r.0.id) reads r m))
      (section_more MESSAGE_PROPS (own_of reads) seen list derived r seen' list' derived' s se de
      (le ∙ own_list r.0.id g list fits m (λ e. s.no_list (none_there MESSAGE_PROPS seen new e)) ∙ ap (λ z. list ++ props_in z) (sym given))
      (λ off. ap props_in given ∙ own_off r.0.id g fits m off))

  pub own_table : (seen : List ℕ) (lists : List (List Prop)) (seen' : List ℕ) (lists' : List (List Prop)) → is_message_id r.0.id ≡ true → IsTable (own_of reads) seen lists → list_any (λ n. n == r.0.id) seen ≡ false → seen' ≡ seen ++ r.0.id ∷ []
      → lists' ≡ lists_after g lists → IsTable (own_of (reads ++ r ∷ [])) seen' lists'
  own_table seen lists seen' lists' m t new se le =
      subst (λ (z : List Read). IsTable z seen' lists') (sym (filter_in (λ (r : Read). is_message_id r.0.id) reads r m))
      (table_more (own_of reads) seen lists r seen' lists' t se
      (le ∙ own_lists r.0.id g lists fits (λ e. t.no_lists (none_there RECIPIENTS seen new e)) ∙ ap (λ z. lists ++ recipients_in z) (sym given))
      (λ off. ap recipients_in given ∙ lists_off r.0.id g fits off))

  its_section : (group : List Read) (seen : List ℕ) (list derived : List Prop) (seen' : List ℕ) (list' derived' : List Prop) → is_attachment_id r.0.id ≡ true → IsSection ATTACHMENT group seen list derived → list_any (λ n. n == r.0.id) seen ≡ false → seen' ≡ seen ++ r.0.id ∷ []
      → derived' ≡ derived ++ option_to_list (legacy_prop r.0.id r.0.bytes) → list' ≡ list_after g list → IsSection ATTACHMENT (group ++ r ∷ []) seen' list' derived'
  its_section group seen list derived seen' list' derived' m s new se de le =
      section_more ATTACHMENT group seen list derived r seen' list' derived' s se de
      (le ∙ its_list r.0.id g list fits m (λ e. s.no_list (none_there ATTACHMENT seen new e)) ∙ ap (λ z. list ++ props_in z) (sym given))
      (λ off. ap props_in given ∙ its_off r.0.id g fits m off)

  its_inside : (group : List Read) (seen : List ℕ) (body : Body) (seen' : List ℕ) (body' : Body) → IsBody group seen body → list_any (λ n. n == r.0.id) seen ≡ false → seen' ≡ seen ++ r.0.id ∷ []
      → body' ≡ body_after g body → IsBody (group ++ r ∷ []) seen' body'
  its_inside group seen body seen' body' b new se be =
      body_more group seen body r seen' body' b se
      (be ∙ its_body r.0.id g body fits (λ e. b.no_body (none_there ATTACHMENT seen new e)) ∙ ap (λ z. or_else body (body_in z)) (sym given))
      (λ off. ap body_in given ∙ body_off r.0.id g fits off)

  pub open_more : (done : List Attached) (p q : Pending) → is_attachment_id r.0.id ≡ true → begins r ≡ false → list_any (λ n. n == r.0.id) p.section.seen.items ≡ false → Entered r.0.id r.0.bytes g p q
      → OneOpen reads done p.section.seen.items p.section.list p.section.derived.items (body_of held_bytes p.body) → OneOpen (reads ++ r ∷ []) done q.section.seen.items q.section.list q.section.derived.items (body_of held_bytes q.body)
  open_more done p q m goes new en o =
      let more : of_attachments (o.opening ∷ (o.others ++ r ∷ [])) ≡ of_attachments (o.opening ∷ o.others) ++ r ∷ [] = filter_in (λ (r : Read). is_attachment_id r.0.id) (o.opening ∷ o.others) r m in
      record {
        before = o.before;
        opening = o.opening;
        others = o.others ++ r ∷ [];
        all = ap (λ (z : List Read). z ++ r ∷ []) o.all ∙ append_assoc o.before (o.opening ∷ o.others) (r ∷ []);
        opens = o.opens;
        goes_on = list_any-append begins o.others (r ∷ []) ∙ both_false (list_any begins o.others) (begins r || false) o.goes_on (both_false (begins r) false goes refl);
        done_are = o.done_are;
        section = subst (λ (z : List Read). IsSection ATTACHMENT z q.section.seen.items q.section.list q.section.derived.items) (sym more) (its_section (of_attachments (o.opening ∷ o.others)) p.section.seen.items p.section.list p.section.derived.items q.section.seen.items q.section.list q.section.derived.items m o.section new en.seen en.derived en.list);
        inside = subst (λ (z : List Read). IsBody z q.section.seen.items (body_of held_bytes q.body)) (sym more) (its_inside (of_attachments (o.opening ∷ o.others)) p.section.seen.items (body_of held_bytes p.body) q.section.seen.items (body_of held_bytes q.body) o.inside new en.seen en.body);
      }

  pub opened : (done : List Attached) (p q : Pending) → r.0.id ≡ RENDERING → IsFresh p → Entered r.0.id r.0.bytes g p q → done ≡ map attached_by (groups (of_attachments reads))
      → OneOpen (reads ++ r ∷ []) done q.section.seen.items q.section.list q.section.derived.items (body_of held_bytes q.body)
  opened done p q n fresh en de =
      let m : is_attachment_id r.0.id ≡ true = subst (λ (z : ℕ). is_attachment_id z ≡ true) (sym n) refl in
      let group : of_attachments (r ∷ []) ≡ r ∷ [] = ap (λ (b : Bool). cond b (r ∷ []) []) m in
      let new : list_any (λ n. n == r.0.id) p.section.seen.items ≡ false = ap (list_any (λ n. n == r.0.id)) fresh.seen in
      let none : IsSection ATTACHMENT [] p.section.seen.items p.section.list p.section.derived.items = record {
        seen_are = fresh.seen;
        list_is = fresh.list;
        derived_are = fresh.derived;
        no_list = λ f. fresh.list;
      } in
      let empty : IsBody [] p.section.seen.items (body_of held_bytes p.body) = record { body_is = fresh.body; no_body = λ f. fresh.body } in
      record {
        before = reads;
        opening = r;
        others = [];
        all = refl;
        opens = eq-eqb r.0.id RENDERING n;
        goes_on = refl;
        done_are = de;
        section = subst (λ (z : List Read). IsSection ATTACHMENT z q.section.seen.items q.section.list q.section.derived.items) (sym group) (its_section [] p.section.seen.items p.section.list p.section.derived.items q.section.seen.items q.section.list q.section.derived.items m none new en.seen en.derived en.list);
        inside = subst (λ (z : List Read). IsBody z q.section.seen.items (body_of held_bytes q.body)) (sym group) (its_inside [] p.section.seen.items (body_of held_bytes p.body) q.section.seen.items (body_of held_bytes q.body) empty new en.seen en.body);
      }

-- an attribute of no attachment
pub attached_kept : (reads : List Read) (r : Read) (done : List Attached) (current : Option Pending) → is_attachment_id r.0.id ≡ false → begins r ≡ false → IsAttached reads done current → IsAttached (reads ++ r ∷ []) done current
attached_kept reads r done None m goes n = record {
  none = list_any-append begins reads (r ∷ []) ∙ both_false (list_any begins reads) (begins r || false) n.none (both_false (begins r) false goes refl);
  no_reads = filter_out (λ (r : Read). is_attachment_id r.0.id) reads r m ∙ n.no_reads;
  no_done = n.no_done;
}
attached_kept reads r done (Some p) m goes o =
    let same : of_attachments (o.opening ∷ o.others) ≡ of_attachments (o.opening ∷ (o.others ++ r ∷ [])) = sym (filter_out (λ (r : Read). is_attachment_id r.0.id) (o.opening ∷ o.others) r m) in
    record {
      before = o.before;
      opening = o.opening;
      others = o.others ++ r ∷ [];
      all = ap (λ (z : List Read). z ++ r ∷ []) o.all ∙ append_assoc o.before (o.opening ∷ o.others) (r ∷ []);
      opens = o.opens;
      goes_on = list_any-append begins o.others (r ∷ []) ∙ both_false (list_any begins o.others) (begins r || false) o.goes_on (both_false (begins r) false goes refl);
      done_are = o.done_are;
      section = subst (λ (z : List Read). IsSection ATTACHMENT z p.section.seen.items p.section.list p.section.derived.items) same o.section;
      inside = subst (λ (z : List Read). IsBody z p.section.seen.items (body_of held_bytes p.body)) same o.inside;
    }

-- an attribute that is not the message's own
pub section_kept : (list_id : ℕ) (reads : List Read) (r : Read) (seen : List ℕ) (list derived : List Prop) → is_message_id r.0.id ≡ false → IsSection list_id (own_of reads) seen list derived → IsSection list_id (own_of (reads ++ r ∷ [])) seen list derived
section_kept list_id reads r seen list derived m s = subst (λ (z : List Read). IsSection list_id z seen list derived) (sym (filter_out (λ (r : Read). is_message_id r.0.id) reads r m)) s

pub table_kept : (reads : List Read) (r : Read) (seen : List ℕ) (lists : List (List Prop)) → is_message_id r.0.id ≡ false → IsTable (own_of reads) seen lists → IsTable (own_of (reads ++ r ∷ [])) seen lists
table_kept reads r seen lists m t = subst (λ (z : List Read). IsTable z seen lists) (sym (filter_out (λ (r : Read). is_message_id r.0.id) reads r m)) t

-- ---- all attributes were read

attached_is : (group : List Read) (p : Pending) → IsSection ATTACHMENT group p.section.seen.items p.section.list p.section.derived.items → IsBody group p.section.seen.items (body_of held_bytes p.body) → attached_as p.section.list p.section.derived.items (body_of held_bytes p.body) ≡ attached_by group
attached_is group p s b = λ i. (joined (s.list_is i) (beside (b.body_is i) (s.derived_are i)), b.body_is i)

pub closed_is : (reads : List Read) (done : List Attached) (current : Option Pending) → IsAttached reads done current → done ++ closed current ≡ map attached_by (groups (of_attachments reads))
closed_is reads done None n = ap (λ (z : List Attached). z ++ []) n.no_done ∙ sym (ap (λ (z : List Read). map attached_by (groups z)) n.no_reads)
closed_is reads done (Some p) o =
    let here : is_attachment_id o.opening.0.id ≡ true = subst (λ (z : ℕ). is_attachment_id z ≡ true) (sym (eqb-true o.opening.0.id RENDERING o.opens)) refl in
    let group : of_attachments (o.opening ∷ o.others) ≡ o.opening ∷ of_attachments o.others = ap (λ (b : Bool). cond b (o.opening ∷ of_attachments o.others) (of_attachments o.others)) here in
    let whole : of_attachments reads ≡ of_attachments o.before ++ o.opening ∷ of_attachments o.others = ap of_attachments o.all ∙ filter-append (λ (r : Read). is_attachment_id r.0.id) o.before (o.opening ∷ o.others) ∙ ap (λ (z : List Read). of_attachments o.before ++ z) group in
    let last : groups (of_attachments reads) ≡ groups (of_attachments o.before) ++ of_attachments (o.opening ∷ o.others) ∷ [] = ap groups whole ∙ last_group (of_attachments o.before) o.opening (of_attachments o.others) o.opens (any_filter (λ (r : Read). is_attachment_id r.0.id) begins o.others o.goes_on) ∙ ap (λ (z : List Read). groups (of_attachments o.before) ++ z ∷ []) (sym group) in
    (λ i. o.done_are i ++ attached_is (of_attachments (o.opening ∷ o.others)) p o.section o.inside i ∷ [])
    ∙ sym (ap (map attached_by) last ∙ map-append attached_by (groups (of_attachments o.before)) (of_attachments (o.opening ∷ o.others) ∷ []))
