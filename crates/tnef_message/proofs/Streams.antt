-- A stream, read attribute by attribute.
use Rattle.std.proofs.Common.{◌≡◌, inl, inr, ℕ, zero, suc, ◌+◌, ◌≤◌, true, List, [], ◌∷◌, ◌++◌, length, take, drop, Option, Some, None, Err, add-zero, refl, sym, ap, subst, ◌∙◌, append_assoc, arith}
use Rattle.std.specs.Prelude.{zip, slice_get}
use Rattle.std.specs.List.{flat_map}
use Rattle.std.proofs.lemmas.Grind.{flat_map-append}
use Rattle.std.proofs.lemmas.List.{append-nil, map-append, length-append, take-append-drop, take_all}
use Rattle.carrier_io.specs.Reads.{OnFault, Reads}
use Rattle.carrier_io.specs.Reasons.{fault_of}
use Rattle.carrier_io.specs.declared.reasons.Stop.{Stop}
use Rattle.carrier_io.specs.declared.reasons.Stop.TheVariants as stops
use Rattle.tnef_model.specs.Attributes.{Attr, Attrs, AttrsFault, attrs, spelling}
use Rattle.carrier_model.specs.Bytes.{le16, sum16}
use Rattle.carrier_model.specs.Items.{AllGood}
use Rattle.carrier_model.specs.Grammar.{Form, Spans, Means, Whole, gives, and_then, inside}
use Rattle.tnef_model.specs.LegacyAttributes.{ATTACHMENT}
use Rattle.tnef_model.specs.TnefLists.{PropList, prop_list}
use Rattle.carrier_model.specs.Meanings.{Meaning, Held, Passed}
use Rattle.tnef_model.specs.TnefMessage.{Part, Read, content, inner_of, with_inner, place_tests, Stands, AttrFails, AllStand, message_by, meaning_by, StreamMeans, MessageFails, stream, message_within}
use Rattle.carrier_model.specs.Trail.{Fault, first_fault}
use Rattle.carrier_model.specs.Tree.{Message}
use Rattle.carrier_model.proofs.Messages.{taken_at}
use Rattle.carrier_model.proofs.Reading.{continues_then, spans_nothing}
use Rattle.carrier_model.proofs.Trees.{drop_at}
use Rattle.tnef_message.specs.Contents.{objects_at, GivesPart}
use Rattle.tnef_message.specs.Drafts.{IsDraft, attrs_of, parts_of}
use Rattle.tnef_message.specs.declared.drafts.Draft.{Draft}
use Rattle.tnef_message.specs.declared.gifts.Gift.{Gift}
use Rattle.tnef_message.proofs.Parts.{attachment_form}

pub within_is : (n : ℕ) → message_within n ≡ stream (objects_at n)
unfolding message_within
within_is zero = refl
within_is (suc n) = refl

-- ---- attributes that stand

pub all_more : (objects : Whole Held) (start l : List Attr) (ps : List Part) (a : Attr) (p : Part) → AllStand objects start l ps → Stands objects (start ++ l) a p → AllStand objects start (l ++ a ∷ []) (ps ++ p ∷ [])
all_more objects start [] [] a p s t = (subst (λ (z : List Attr). Stands objects z a p) (append-nil start) t, tt)
all_more objects start [] (q ∷ ps) a p s t = absurd s
all_more objects start (b ∷ l) [] a p s t = absurd s
all_more objects start (b ∷ l) (q ∷ ps) a p s t = (s.0, all_more objects (start ++ b ∷ []) l ps a p s.1 (subst (λ (z : List Attr). Stands objects z a p) (sym (append_assoc start (b ∷ []) l)) t))

zip_same : (reads : List Read) → zip (attrs_of reads) (parts_of reads) ≡ reads
zip_same [] = refl
zip_same (r ∷ reads) = ap (λ (z : List Read). r ∷ z) (zip_same reads)

-- so many attributes were read
pub record Progress (levels : ℕ) (l : List Attr) (k : ℕ) (d : Draft) (old now : List Passed) : Type 0 where
  pub reads : List Read
  pub taken : attrs_of reads ≡ take k l
  pub stand : AllStand (objects_at levels) [] (attrs_of reads) (parts_of reads)
  pub draft : IsDraft reads d
  pub passed_are : now ≡ old ++ flat_map (λ r. r.1.passed) reads

pub progress_none : (levels : ℕ) (l : List Attr) (d : Draft) (old : List Passed) → IsDraft [] d → Progress levels l 0 d old old
progress_none levels l d old h = record { reads = []; taken = refl; stand = tt; draft = h; passed_are = sym (append-nil old) }

module _ (levels : ℕ) (l : List Attr) (k : ℕ) (d : Draft) (old now : List Passed) (p : Progress levels l k d old now) (a : Attr) (at_k : slice_get l k ≡ Some a) where
  pub place_fails : (at : ℕ) (bytes : List ℕ) (g : Fault) → Attrs at bytes l → AttrFails (objects_at levels) (attrs_of p.reads) a g → (message_within levels).fails at bytes g
  place_fails at bytes g there f =
      let e : l ≡ attrs_of p.reads ++ a ∷ drop (k + 1) l = sym (take-append-drop k l) ∙ (λ i. sym p.taken i ++ drop_at l k a at_k i) in
      let m : MessageFails (objects_at levels) at bytes g = record {
        attrs = l;
        there = there;
        fails = record { before = attrs_of p.reads; parts = parts_of p.reads; a = a; others = drop (k + 1) l; all = e; stand = p.stand; fails = f };
      } in
      subst (λ (w : Whole Meaning). w.fails at bytes g) (sym (within_is levels)) (inr m)

  pub progress_more : (gift : Gift) (e : Draft) (now' : List Passed) → first_fault (place_tests (attrs_of p.reads) a) ≡ None → (g : GivesPart levels a now now' gift) → IsDraft (p.reads ++ (a, g.given_part) ∷ []) e → Progress levels l (k + 1) e old now'
  progress_more gift e now' place g h =
      let r : Read = (a, g.given_part) in
      record {
        reads = p.reads ++ r ∷ [];
        taken = map-append (λ (r : Read). r.0) p.reads (r ∷ []) ∙ ap (λ (z : List Attr). z ++ a ∷ []) p.taken ∙ sym (taken_at l k a at_k);
        stand = subst (λ (z : List Part). AllStand (objects_at levels) [] (attrs_of (p.reads ++ r ∷ [])) z) (sym (map-append (λ (r : Read). r.1) p.reads (r ∷ [])))
            (subst (λ (z : List Attr). AllStand (objects_at levels) [] z (parts_of p.reads ++ g.given_part ∷ [])) (sym (map-append (λ (r : Read). r.0) p.reads (r ∷ [])))
            (all_more (objects_at levels) [] (attrs_of p.reads) (parts_of p.reads) a g.given_part p.stand (record { place = place; means = g.means })));
        draft = h;
        passed_are = g.passed ∙ ap (λ (z : List Passed). z ++ g.given_part.passed) p.passed_are ∙ append_assoc old (flat_map (λ (r : Read). r.1.passed) p.reads) g.given_part.passed
            ∙ ap (λ (z : List Passed). old ++ z) (ap (λ (z : List Passed). flat_map (λ (r : Read). r.1.passed) p.reads ++ z) (sym (append-nil g.given_part.passed)) ∙ sym (flat_map-append (λ (r : Read). r.1.passed) p.reads (r ∷ [])));
      }

pub progress_all : (levels : ℕ) (l : List Attr) (k : ℕ) (d : Draft) (old now : List Passed) (p : Progress levels l k d old now) (at : ℕ) (bytes : List ℕ) (t : Message) → length l ≤ k → Attrs at bytes l → t ≡ message_by p.reads
    → (message_within levels).means at bytes (record { message = t; passed = flat_map (λ r. r.1.passed) p.reads })
progress_all levels l k d old now p at bytes t le there e =
    let whole : attrs_of p.reads ≡ l = p.taken ∙ take_all k l le in
    let m : StreamMeans (objects_at levels) at bytes (record { message = t; passed = flat_map (λ r. r.1.passed) p.reads }) = record {
      attrs = l;
      there = there;
      parts = parts_of p.reads;
      stand = subst (λ (z : List Attr). AllStand (objects_at levels) [] z (parts_of p.reads)) whole p.stand;
      meaning = (λ i. record { message = e i; passed = flat_map (λ r. r.1.passed) p.reads }) ∙ ap meaning_by (sym (zip_same p.reads) ∙ ap (λ (z : List Attr). zip z (parts_of p.reads)) whole);
    } in
    subst (λ (w : Whole Meaning). w.means at bytes (record { message = t; passed = flat_map (λ r. r.1.passed) p.reads })) (sym (within_is levels)) m

pub stream_fails_first : (levels at : ℕ) (bytes : List ℕ) (g : Fault) → AttrsFault at bytes g → (message_within levels).fails at bytes g
stream_fails_first levels at bytes g f = subst (λ (w : Whole Meaning). w.fails at bytes g) (sym (within_is levels)) (inl f)

-- ---- where attributes lie

good_within : (at end : ℕ) (l : List Attr) (k : ℕ) (a : Attr) → AllGood attrs at l → at + length (flat_map spelling l) ≤ end → slice_get l k ≡ Some a → a.offset + 11 + length a.bytes ≤ end
good_within at end [] k a g le e = absurd cc
good_within at end (x ∷ l) zero a g le e =
    let same : x ≡ a = cc in
    let len : length (spelling x) ≡ 11 + length x.bytes = omega (arith, length-append x.bytes (le16 (sum16 x.bytes))) in
    let both = length-append (spelling x) (flat_map spelling l) in
    subst (λ (z : Attr). z.offset + 11 + length z.bytes ≤ end) same (omega (arith, g.0.offset))
good_within at end (x ∷ l) (suc k) a g le e =
    let len : length (spelling x) ≡ 11 + length x.bytes = omega (arith, length-append x.bytes (le16 (sum16 x.bytes))) in
    let both = length-append (spelling x) (flat_map spelling l) in
    good_within (at + (11 + length x.bytes)) end l k a g.1 (omega arith) e

pub attr_within : (at : ℕ) (bytes : List ℕ) (l : List Attr) (k : ℕ) (a : Attr) → Attrs at bytes l → slice_get l k ≡ Some a → a.offset + 11 + length a.bytes ≤ at + length bytes
attr_within at bytes l k a there e =
    let len : length bytes ≡ 6 + length (flat_map spelling l) = ap length there.parts ∙ omega (arith, there.key_len, length-append there.key (flat_map spelling l)) in
    good_within (at + 6) (at + length bytes) l k a there.good (omega arith) e

-- ---- the list of an attachment

module _ (objects : Whole Held) (a : Attr) (here : a.id ≡ ATTACHMENT) where
  form : Form Part
  form = and_then (prop_list true) (λ l. and_then (inner_of objects l.object) (λ m. gives (with_inner l m)))

  is_form : content objects a ≡ form
  unfolding form
  is_form = attachment_form objects a here

  list_here : (l : PropList) (after : ℕ) (rest : List ℕ) → Spans (prop_list true) (a.offset + 9 + 0) (drop 0 a.bytes) l after rest → Spans (prop_list true) (a.offset + 9) a.bytes l after rest
  list_here l after rest s = subst (λ (n : ℕ). Spans (prop_list true) n a.bytes l after rest) (add-zero (a.offset + 9)) s

  pub attachment_fails : (g : Fault) → (prop_list true).fails (a.offset + 9 + 0) (drop 0 a.bytes) g → (content objects a).fails (a.offset + 9) a.bytes g
  unfolding form
  attachment_fails g p =
      let there : (prop_list true).fails (a.offset + 9) a.bytes g = subst (λ (n : ℕ). (prop_list true).fails n a.bytes g) (add-zero (a.offset + 9)) p in
      subst (λ (z : Form Part). z.fails (a.offset + 9) a.bytes g) (sym is_form) (inl there)

  inner_spans : (l : PropList) (m : Option Held) (after : ℕ) (rest : List ℕ) → Spans (inner_of objects l.object) after rest m after rest → Spans (prop_list true) (a.offset + 9 + 0) (drop 0 a.bytes) l after rest → Means (content objects a) (a.offset + 9) a.bytes (with_inner l m)
  unfolding form
  inner_spans l m after rest i s =
      let next : Spans (and_then (inner_of objects l.object) (λ m. gives (with_inner l m))) after rest (with_inner l m) after rest = (continues_then (inner_of objects l.object) (λ m. gives (with_inner l m)) after rest m after rest i).ok (with_inner l m) after rest (spans_nothing (with_inner l m) after rest) in
      let whole : Spans form (a.offset + 9) a.bytes (with_inner l m) after rest = (continues_then (prop_list true) (λ l. and_then (inner_of objects l.object) (λ m. gives (with_inner l m))) (a.offset + 9) a.bytes l after rest (list_here l after rest s)).ok (with_inner l m) after rest next in
      subst (λ (z : Form Part). Means z (a.offset + 9) a.bytes (with_inner l m)) (sym is_form) (rest, whole.begins)

  pub without_object : (l : PropList) (after : ℕ) (rest : List ℕ) → l.object ≡ None → Spans (prop_list true) (a.offset + 9 + 0) (drop 0 a.bytes) l after rest → Means (content objects a) (a.offset + 9) a.bytes (with_inner l None)
  without_object l after rest e s = inner_spans l None after rest (subst (λ (o : Option (ℕ × List ℕ)). Spans (inner_of objects o) after rest None after rest) (sym e) (spans_nothing None after rest)) s

  inside_spans : (x : ℕ × List ℕ) (m : Held) (after : ℕ) (rest : List ℕ) → objects.means x.0 x.1 m → Spans (inner_of objects (Some x)) after rest (Some m) after rest
  inside_spans x m after rest h =
      let first : Spans (inside objects x.0 x.1) after rest m after rest = record { begins = record { text = []; parts = refl; spelled = (h, refl) }; place = refl } in
      (continues_then (inside objects x.0 x.1) (λ m. gives (Some m)) after rest m after rest first).ok (Some m) after rest (spans_nothing (Some m) after rest)

  pub with_object : (l : PropList) (x : ℕ × List ℕ) (m : Held) (after : ℕ) (rest : List ℕ) → l.object ≡ Some x → objects.means x.0 x.1 m → Spans (prop_list true) (a.offset + 9 + 0) (drop 0 a.bytes) l after rest → Means (content objects a) (a.offset + 9) a.bytes (with_inner l (Some m))
  with_object l x m after rest e h s = inner_spans l (Some m) after rest (subst (λ (o : Option (ℕ × List ℕ)). Spans (inner_of objects o) after rest (Some m) after rest) (sym e) (inside_spans x m after rest h)) s

  pub object_inside_fails : (l : PropList) (x : ℕ × List ℕ) (g : Fault) (after : ℕ) (rest : List ℕ) → l.object ≡ Some x → objects.fails x.0 x.1 g → Spans (prop_list true) (a.offset + 9 + 0) (drop 0 a.bytes) l after rest → (content objects a).fails (a.offset + 9) a.bytes g
  unfolding form
  object_inside_fails l x g after rest e h s =
      let inner : (inner_of objects l.object).fails after rest g = subst (λ (o : Option (ℕ × List ℕ)). (inner_of objects o).fails after rest g) (sym e) (inl h) in
      let whole : form.fails (a.offset + 9) a.bytes g = (continues_then (prop_list true) (λ l. and_then (inner_of objects l.object) (λ m. gives (with_inner l m))) (a.offset + 9) a.bytes l after rest (list_here l after rest s)).bad g (inl inner) in
      subst (λ (z : Form Part). z.fails (a.offset + 9) a.bytes g) (sym is_form) whole

-- ---- what stops a reader

pub attrs_stop : (levels at : ℕ) (bytes : List ℕ) (e : Stop) → Reads {Y = List Attr} (λ a. a) (Err e) (Attrs at bytes) (AttrsFault at bytes) → OnFault ((message_within levels).fails at bytes) e
attrs_stop levels at bytes (stops.Fault g) r = stream_fails_first levels at bytes (fault_of g) r.is_first
attrs_stop levels at bytes stops.NoMemory r = tt
