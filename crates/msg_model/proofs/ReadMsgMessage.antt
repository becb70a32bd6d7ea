-- The message that a .msg file means is a tree.
use Rattle.std.proofs.Common.{ℕ, zero, suc, ◌+◌, ◌≤◌, List, [], ◌∷◌, ◌++◌, length, map, Option, Some, None, sym, subst, arith, ◌≡◌, Bool, true, false, refl}
use Rattle.std.specs.Prelude.{option_to_list}
use Rattle.std.specs.Option.{option_map}
use Rattle.std.specs.List.{AllZip, AllByRecursion}
use Rattle.std.specs.Ordering.{nat_cmp, on}
use Rattle.std.specs.declared.cmp.Ordering.{Ordering}
use Rattle.std.specs.declared.cmp.Ordering.TheVariants.{Less, Equal, Greater}
use Rattle.carrier_model.specs.Bytes.{AllBytes}
use Rattle.carrier_model.specs.Sorted.{choose, with_element, with_elements}
use Rattle.carrier_model.specs.Tables.{sector_size}
use Rattle.carrier_model.specs.Files.{Children, none, storage, stream, Files}
use Rattle.carrier_model.specs.Lookups.{Found, storage_at, stream_named, storage_named}
use Rattle.carrier_model.specs.Tree.{Message, Attached, attachments_from, depth, GREATEST_LEVEL}
use Rattle.carrier_model.specs.Trees.{IsPropList, HasPropLists, IsTree}
use Rattle.carrier_model.specs.Kinds.{ATTACHED_OBJECT}
use Rattle.carrier_model.specs.Meanings.{Passed, Meaning, Held}
use Rattle.msg_model.specs.NameMap.{Pair, NamePairs}
use Rattle.msg_model.specs.StreamNames.{value_name, NAME_MAP, RECIPIENT_NAME, ATTACHMENT_NAME}
use Rattle.msg_model.specs.MsgProps.{Part, top, embedded_message, recipient, attachment, Section, MsgProps}
use Rattle.msg_model.specs.MsgMessage.{streams_of, stream_or_empty, name_streams, number_in, numbered_in, numbered, Carried, carried, meaning_of, Within, HasBody, AttachmentMeans, MessageMeans, MsgMeans, MsgCarrier, is_message, HoldsBy}
use Rattle.carrier_model.proofs.HoldsLaws.{size_known}
use Rattle.carrier_model.proofs.Elements.{all_of}
use Rattle.carrier_model.proofs.TreeParts.{Fits, BodyFits, AttachmentsFit, one_more}
use Rattle.carrier_model.proofs.ReadFiles.{ChildrenFit, FilesFit, children_fit, FoundFits, stream_named_fits, StorageFits, storage_named_fits}
use Rattle.carrier_model.proofs.StoreRead.{found_is_store}
use Rattle.msg_model.proofs.ReadMsg.{StreamsFit, PairsFit, names_fit, list_read}

-- ---- the names of a file

or_empty : (f : Option Found) → FoundFits f → AllBytes (stream_or_empty f).bytes
or_empty None h = λ i. omega arith
or_empty (Some f) h = h.bytes

in_storage : (o : Option Files) → StorageFits o → StreamsFit (streams_of o)
in_storage None h name = tt
in_storage (Some s) h name = stream_named_fits s.children name h.children

pairs_of_file : (root : Files) (pairs : List Pair) → ChildrenFit root.children → NamePairs (name_streams root) pairs → PairsFit pairs
pairs_of_file root pairs h named =
    let streams = streams_of (storage_named root.children NAME_MAP) in
    let fit : StreamsFit streams = in_storage (storage_named root.children NAME_MAP) (storage_named_fits root.children NAME_MAP h) in
    names_fit (name_streams root) pairs (or_empty (streams (value_name 0x00020102)) (fit (value_name 0x00020102))) (or_empty (streams (value_name 0x00030102)) (fit (value_name 0x00030102))) (or_empty (streams (value_name 0x00040102)) (fit (value_name 0x00040102))) named

-- ---- the storages of recipients and attachments

abbrev NumberedFits : ℕ × Files → Type 0
NumberedFits p = ChildrenFit p.1.children

numbered_in_fits : (prefix : List ℕ) (c : Children) → ChildrenFit c → AllByRecursion NumberedFits (numbered_in prefix c)
numbered_in_fits prefix none h = tt
numbered_in_fits prefix (storage tag below rest) h = by (number_in prefix tag.name) (numbered_in_fits prefix rest h.1)
  where
    by : (o : Option ℕ) → AllByRecursion NumberedFits (numbered_in prefix rest) → AllByRecursion NumberedFits (option_to_list (option_map (λ n. (n, storage_at tag below)) o) ++ numbered_in prefix rest)
    by None g = g
    by (Some n) g = (h.0, g)
numbered_in_fits prefix (stream tag s rest) h = numbered_in_fits prefix rest h.1

each_into : {A : Type 0} (P : A → Type 0) (cmp : A → A → Ordering) (xs : List A) (x : A) → AllByRecursion P xs → P x → AllByRecursion P (with_element cmp xs x)
each_into P cmp [] x h g = (g, tt)
each_into P cmp (y ∷ ys) x h g = by (cmp y x) (each_into P cmp ys x h.1 g)
  where
    by : (o : Ordering) → AllByRecursion P (with_element cmp ys x) → AllByRecursion P (choose o (y ∷ with_element cmp ys x) (y ∷ ys) (x ∷ y ∷ ys))
    by Less rest = (h.0, rest)
    by Equal rest = h
    by Greater rest = (g, h)

all_into : {A : Type 0} (P : A → Type 0) (cmp : A → A → Ordering) (xs ys : List A) → AllByRecursion P xs → AllByRecursion P ys → AllByRecursion P (with_elements cmp xs ys)
all_into P cmp xs [] h g = h
all_into P cmp xs (y ∷ ys) h g = all_into P cmp (with_element cmp xs y) ys (each_into P cmp xs y h g.0) g.1

seconds : (l : List (ℕ × Files)) → AllByRecursion NumberedFits l → AllByRecursion (λ (s : Files). ChildrenFit s.children) (map (λ p. p.1) l)
seconds [] h = tt
seconds (p ∷ l) h = (h.0, seconds l h.1)

numbered_fits : (prefix : List ℕ) (s : Files) → ChildrenFit s.children → AllByRecursion (λ (t : Files). ChildrenFit t.children) (numbered prefix s)
numbered_fits prefix s h = seconds _ (all_into NumberedFits (on (λ p. p.0) nat_cmp) [] (numbered_in prefix s.children) tt (numbered_in_fits prefix s.children h))

-- ---- messages

module _ (pairs : List Pair) (fit : PairsFit pairs) where
  section_list : (part : Part) (s : Files) (l : Section) → ChildrenFit s.children → MsgProps part pairs (stream_named s.children) l → IsPropList l.props
  section_list part s l h m = list_read part pairs (stream_named s.children) l fit (λ name. stream_named_fits s.children name h) m

  recipients_list : (storages : List Files) (lists : List Section) → AllByRecursion (λ (s : Files). ChildrenFit s.children) storages → AllZip (λ r l. MsgProps recipient pairs (stream_named r.children) l) storages lists → AllByRecursion IsPropList (map (λ (l : Section). l.props) lists)
  recipients_list [] [] h z = tt
  recipients_list [] (l ∷ lists) h z = absurd z
  recipients_list (s ∷ storages) [] h z = absurd z
  recipients_list (s ∷ storages) (l ∷ lists) h z = (section_list recipient s l h.0 z.0, recipients_list storages lists h.1 z.1)

-- the message of a storage below, with one level more
abbrev WithinFits : Within → ℕ → Type 0
WithinFits within n = (s : Files) (m : Meaning) → ChildrenFit s.children → within s m → HasPropLists m.message × (depth m.message + 1 ≤ n)

record CarriedFits (n : ℕ) (a : Attached) : Type 0 where
  list : IsPropList a.0
  body : BodyFits n a.1

-- what a storage holds, a message or a store
held_read : (within : Within) (n : ℕ) → WithinFits within n → (s : Files) (h : Held) → FilesFit s → (message : Bool) → is_message s ≡ message → HoldsBy within message s h → BodyFits n h.body
held_read within n fits s h f true e (m, means, is) = subst (λ (z : Held). BodyFits n z.body) (sym is) (fits s m f.children means)
held_read within n fits s h f false e (x, means, is) = subst (λ (z : Held). BodyFits n z.body) (sym is) (found_is_store s x f e means)

body_read : (within : Within) (n : ℕ) → WithinFits within n → (s : Files) (place : Option ℕ) (l : Section) (body : Option Held) → ChildrenFit s.children → IsPropList l.props → HasBody within s place body → CarriedFits n (carried l body).attached
body_read within n fits s None l None h list b = record { list = list; body = tt }
body_read within n fits s None l (Some m) h list b = absurd b
body_read within n fits s (Some place) l None h list b = absurd b
body_read within n fits s (Some place) l (Some m) h list b =
    let below : FilesFit b.below = subst StorageFits b.there (storage_named_fits s.children (value_name ATTACHED_OBJECT) h) in
    record { list = list; body = held_read within n fits b.below m below (is_message b.below) refl b.means }

attachments_read : (pairs : List Pair) → PairsFit pairs → (within : Within) (n : ℕ) → WithinFits within n → (storages : List Files) (list : List Carried) → AllByRecursion (λ (s : Files). ChildrenFit s.children) storages → AllZip (AttachmentMeans pairs within) storages list → AttachmentsFit n (attachments_from (map (λ (a : Carried). a.attached) list))
attachments_read pairs fit within n fits [] [] h z = record { lists = tt; levels = omega arith }
attachments_read pairs fit within n fits [] (a ∷ list) h z = absurd z
attachments_read pairs fit within n fits (s ∷ storages) [] h z = absurd z
attachments_read pairs fit within n fits (s ∷ storages) (a ∷ list) h z =
    let m = z.0 in
    let one : CarriedFits n (carried m.list m.body).attached = body_read within n fits s m.list.embedded m.list m.body h.0 (section_list pairs fit attachment s m.list h.0 m.there) m.inner in
    let same : CarriedFits n a.attached = subst (λ (c : Carried). CarriedFits n c.attached) (sym m.is) one in
    one_more n a.attached.0 a.attached.1 (map (λ (c : Carried). c.attached) list) same.list same.body (attachments_read pairs fit within n fits storages list h.1 z.1)

message_read : (pairs : List Pair) → PairsFit pairs → (within : Within) (n : ℕ) → WithinFits within n → (part : Part) (s : Files) (m : Meaning) → ChildrenFit s.children → MessageMeans pairs within part s m → Fits n m.message
message_read pairs fit within n fits part s m h means =
    let own = section_list pairs fit part s means.own h means.there in
    let rows = recipients_list pairs fit (numbered RECIPIENT_NAME s) means.recipients (numbered_fits RECIPIENT_NAME s h) means.each_recipient in
    let a = attachments_read pairs fit within n fits (numbered ATTACHMENT_NAME s) means.attachments (numbered_fits ATTACHMENT_NAME s h) means.each_attachment in
    let all : Fits n (meaning_of means.own means.recipients means.attachments).message = record {
      lists = (own, (all_of IsPropList (map (λ (l : Section). l.props) means.recipients) rows, a.lists));
      levels = a.levels;
    } in
    subst (λ (z : Meaning). Fits n z.message) (sym means.is) all

level_read : (pairs : List Pair) → PairsFit pairs → (n : ℕ) (part : Part) (s : Files) (m : Meaning) → ChildrenFit s.children → MsgMeans n pairs part s m → Fits n m.message
level_read pairs fit zero part s m h means = message_read pairs fit (λ below inner. ⊥) 0 (λ below inner c w. absurd w) part s m h means
level_read pairs fit (suc n) part s m h means = message_read pairs fit (λ below inner. MsgMeans n pairs embedded_message below inner) (suc n) (λ below inner c w. deeper inner.message (level_read pairs fit n embedded_message below inner c w)) part s m h means
  where
    deeper : (t : Message) → Fits n t → HasPropLists t × (depth t + 1 ≤ suc n)
    deeper t f = (f.lists, omega (arith, f.levels))

-- what a .msg file of bytes means is a tree
pub msg_is_tree : (b : List ℕ) (t : Message) (passed : List Passed) → AllBytes b → length b ≤ 0x1000_0000 → MsgCarrier b t passed → IsTree t
msg_is_tree b t passed bytes short c =
    let h = children_fit (sector_size b) b c.root (size_known b) bytes short c.holds in
    let m = c.means in
    let f = level_read m.pairs (pairs_of_file c.root m.pairs h m.named) GREATEST_LEVEL top c.root (record { message = t; passed = passed }) h m.means in
    record { lists = f.lists; levels = f.levels }
