-- The files that are written for a message may be written: their names are short, differ in each storage, and no storage
-- is too deep.
use Rattle.std.proofs.Common.{◌≡◌, ℕ, zero, suc, ◌+◌, ◌-◌, ◌*◌, ◌/◌, ◌%◌, ◌<◌, ◌≤◌, ◌^◌, Bool, true, false, cond, List, [], ◌∷◌, ◌++◌, length, map, replicate, refl, sym, ap, subst, inl, inr, arith, Option, None}
use Rattle.std.specs.Prelude.{nat_lt, nat_eq, codes, filter}
use Rattle.std.specs.List.{AllByRecursion, IsDistinct, list_all, flat_map, range_with_len}
use Rattle.std.specs.Cmp.Lexicographic.{pointwise}
use Rattle.std.proofs.lemmas.Bool.{and_parts, ltb-true, cases_lt, cond-true, cond-false, lt-ltb, le-ltb}
use Rattle.carrier_model.specs.FileTrees as trees
use Rattle.carrier_model.specs.FileTrees.{FileTree, and_files, streams_from, NO_CLASS, file_names, IsFileName, storage_depth}
use Rattle.carrier_model.specs.Files.{folded}
use Rattle.carrier_model.specs.Holds.{AreApart}
use Rattle.carrier_model.specs.KeyTexts.{upper, hex_digit, hex_digits}
use Rattle.carrier_model.specs.Keys.{Name}
use Rattle.carrier_model.specs.LayoutHolds.{MayBeWrittenAt, MayBeWritten, StreamsFit}
use Rattle.carrier_model.specs.Lookups.{same_name}
use Rattle.msg_model.specs.StreamNames.{NAME_MAP, RECIPIENT_NAME, ATTACHMENT_NAME, value_name, element_name, numbered_name}
use Rattle.carrier_model.specs.Tree.{Message, message, Attachments, no_more, attached, Body, nothing, embedded, stored, depth, depth_in, depth_of_body, listed, names_in, names_below, names_in_body, names_in_props, names_of}
use Rattle.carrier_model.specs.Trees.{IsPropList, HasPropLists, HavePropLists, BodyHasPropLists, IsTree}
use Rattle.carrier_model.specs.Values.{Value, number, guid, bytes, numbers, guids, parts, Prop}
use Rattle.msg_model.specs.WrittenNames.{hash_stream, has_bytes, name_map_files}
use Rattle.msg_model.specs.WrittenMsg.{OBJECT_TAG, element_streams, value_streams, props_streams, tag_of, list_files, recipient_files, attachment_files, body_files, message_files, object_word, head_of, files_of}
use Rattle.carrier_model.specs.Stores.{PROPERTIES, AreMembers}
use Rattle.msg_model.specs.ReadBack.{HasFewParts, HaveFewParts, BodyHasFewParts}
use Rattle.carrier_model.proofs.StoreOrder.{in_order_apart}
use Rattle.msg_model.proofs.WrittenFileNames.{every_append}
use Rattle.carrier_model.proofs.Orders.{name_exact}
use Rattle.carrier_model.proofs.SortedElements.{all_elements}
use Rattle.msg_model.proofs.WrittenMessages as messages
use Rattle.msg_model.proofs.WrittenTop as top
use Rattle.msg_model.proofs.WrittenTrees
use Rattle.msg_model.proofs.WrittenValues.{every_of}
use Rattle.carrier_model.proofs.FoundChildren.{entries, entry_name, Apart}

-- ---- names

abbrev Small : List ℕ → Type 0
Small name = AllByRecursion (λ unit. unit < 2 ^ 16) name

small_by_test : (name : List ℕ) → list_all (λ unit. nat_lt unit 65536) name ≡ true → Small name
small_by_test [] h = tt
small_by_test (u ∷ name) h = let p = and_parts (nat_lt u 65536) (list_all (λ unit. nat_lt unit 65536) name) h in (ltb-true u 65536 p.0, small_by_test name p.1)

digit_small : (d : ℕ) → d < 16 → hex_digit upper d < 2 ^ 16
digit_small d lt = elim (cases_lt d 10) [
  | inl low ↦ subst (λ n. n < 2 ^ 16) (sym (cond-true (nat_lt d 10) (0x30 + d) (upper + d - 10) (lt-ltb d 10 low))) (omega (arith, lt))
  | inr high ↦ subst (λ n. n < 2 ^ 16) (sym (cond-false (nat_lt d 10) (0x30 + d) (upper + d - 10) (le-ltb d 10 high))) (omega (arith, lt))
]

digits_small : (count n : ℕ) → Small (hex_digits upper count n)
digits_small zero n = tt
digits_small (suc count) n = every_append (λ unit. unit < 2 ^ 16) (hex_digits upper count (n / 16)) (hex_digit upper (n % 16) ∷ []) (digits_small count (n / 16)) (digit_small (n % 16) (omega arith), tt)

value_named : (tag : ℕ) → IsFileName (value_name tag)
value_named tag = record { few = omega arith; units = every_append (λ unit. unit < 2 ^ 16) (codes "__substg1.0_") (hex_digits upper 8 tag) (small_by_test (codes "__substg1.0_") refl) (digits_small 8 tag) }

element_named : (tag i : ℕ) → IsFileName (element_name tag i)
element_named tag i = record { few = omega arith; units = every_append (λ unit. unit < 2 ^ 16) (value_name tag) (codes "-" ++ hex_digits upper 8 i) (value_named tag).units (every_append (λ unit. unit < 2 ^ 16) (codes "-") (hex_digits upper 8 i) (small_by_test (codes "-") refl) (digits_small 8 i)) }

recipient_named : (i : ℕ) → IsFileName (numbered_name RECIPIENT_NAME i)
recipient_named i = record { few = omega arith; units = every_append (λ unit. unit < 2 ^ 16) RECIPIENT_NAME (hex_digits upper 8 i) (small_by_test RECIPIENT_NAME refl) (digits_small 8 i) }

attachment_named : (i : ℕ) → IsFileName (numbered_name ATTACHMENT_NAME i)
attachment_named i = record { few = omega arith; units = every_append (λ unit. unit < 2 ^ 16) ATTACHMENT_NAME (hex_digits upper 8 i) (small_by_test ATTACHMENT_NAME refl) (digits_small 8 i) }

properties_named : IsFileName PROPERTIES
properties_named = record { few = omega arith; units = small_by_test PROPERTIES refl }

map_named : IsFileName NAME_MAP
map_named = record { few = omega arith; units = small_by_test NAME_MAP refl }

-- ---- children

-- what may be written but for the lengths of streams
NamesFit : ℕ → FileTree → Type 0
NamesFit at trees.no_file = Unit {0}
NamesFit at (trees.stream name x others) = IsFileName name × NamesFit at others
NamesFit at (trees.storage name class inside others) = IsFileName name × (length class ≡ 16) × (at ≤ 100) × AreApart (file_names inside) × NamesFit (at + 1) inside × NamesFit at others

both_fit : (at : ℕ) (f : FileTree) → NamesFit at f → StreamsFit f → MayBeWrittenAt at f
unfolding NamesFit
both_fit at trees.no_file n s = tt
both_fit at (trees.stream name x others) n s = (n.0, s.0, both_fit at others n.1 s.1)
both_fit at (trees.storage name class inside others) n s = (n.0, n.1, n.2, n.3, both_fit (at + 1) inside n.4 s.0, both_fit at others n.5 s.1)

join_fit : (at : ℕ) (f g : FileTree) → NamesFit at f → NamesFit at g → NamesFit at (and_files f g)
unfolding NamesFit
join_fit at trees.no_file g n m = m
join_fit at (trees.stream name x others) g n m = (n.0, join_fit at others g n.1 m)
join_fit at (trees.storage name class inside others) g n m = (n.0, n.1, n.2, n.3, n.4, join_fit at others g n.5 m)

streams_fit : (at : ℕ) (l : List (List ℕ × List ℕ)) → AllByRecursion (λ p. IsFileName p.0) l → NamesFit at (streams_from l)
unfolding NamesFit
streams_fit at [] h = tt
streams_fit at (p ∷ l) h = (h.0, streams_fit at l h.1)

others_folded : (m : List ℕ) (ns : List (List ℕ)) → AllByRecursion (λ n. same_name m n ≡ false) ns → AllByRecursion (λ n. pointwise nat_eq (folded m) n ≡ false) (map folded ns)
others_folded m [] h = tt
others_folded m (n ∷ ns) h = (h.0, others_folded m ns h.1)

distinct_folded : (ms : List (List ℕ)) → IsDistinct same_name ms → IsDistinct (pointwise nat_eq) (map folded ms)
unfolding IsDistinct
distinct_folded [] h = tt
distinct_folded (m ∷ ms) h = (others_folded m ms h.0, distinct_folded ms h.1)

names_same : (f : FileTree) → file_names f ≡ map entry_name (entries f)
names_same trees.no_file = refl
names_same (trees.stream name x others) = ap (λ l. name ∷ l) (names_same others)
names_same (trees.storage name class inside others) = ap (λ l. name ∷ l) (names_same others)

-- names that are apart, in the words of what is read
files_apart : (f : FileTree) → Apart f → AreApart (file_names f)
files_apart f d = subst (λ l. IsDistinct (pointwise nat_eq) (map folded l)) (sym (names_same f)) (distinct_folded (map entry_name (entries f)) d)

-- ---- stores

members_fit : (at : ℕ) (f : FileTree) → AreMembers f → at + storage_depth f ≤ 101 → NamesFit at f
unfolding NamesFit
members_fit at trees.no_file m le = tt
members_fit at (trees.stream name x others) m le = (m.0, members_fit at others m.1 le)
members_fit at (trees.storage name class inside others) m le =
    (m.0, m.1, omega (arith, le), in_order_apart inside m.2, members_fit (at + 1) inside m.3 (omega (arith, le)), members_fit at others m.4 (omega (arith, le)))

-- ---- lists

elements_named : (tag kind i : ℕ) (xs : List (List ℕ)) → AllByRecursion (λ p. IsFileName p.0) (element_streams tag kind i xs)
elements_named tag kind i [] = tt
elements_named tag kind i (x ∷ xs) = (element_named tag i, elements_named tag kind (i + 1) xs)

values_named : (tag : ℕ) (v : Value) → AllByRecursion (λ p. IsFileName p.0) (value_streams tag v)
values_named tag (number kind bits) = tt
values_named tag (guid set) = (value_named tag, tt)
values_named tag (bytes kind x) = (value_named tag, tt)
values_named tag (numbers kind list) = (value_named tag, tt)
values_named tag (guids list) = (value_named tag, tt)
values_named tag (parts kind list) = (value_named tag, elements_named tag (kind - 0x1000) 0 list)

list_named : (names : List Name) (props : List Prop) → AllByRecursion (λ p. IsFileName p.0) (props_streams names props)
list_named names [] = tt
list_named names (p ∷ props) = every_append (λ (q : List ℕ × List ℕ). IsFileName q.0) (value_streams (tag_of names p) p.value) (props_streams names props) (values_named (tag_of names p) p.value) (list_named names props)

list_fit : (at : ℕ) (names : List Name) (head : List ℕ) (props : List Prop) (object : Option ℕ) → NamesFit at (list_files names head props object)
unfolding NamesFit
list_fit at names head props object = (properties_named, streams_fit at (props_streams names props) (list_named names props))

hashes_named : (names : List Name) (b n : ℕ) → AllByRecursion (λ p. IsFileName p.0) (filter has_bytes (map (hash_stream names) (range_with_len b n)))
hashes_named names b zero = tt
hashes_named names b (suc n) = by (has_bytes (hash_stream names b)) (hashes_named names (b + 1) n)
  where
    by : (k : Bool) → AllByRecursion (λ p. IsFileName p.0) (filter has_bytes (map (hash_stream names) (range_with_len (b + 1) n))) → AllByRecursion (λ p. IsFileName p.0) (cond k (hash_stream names b ∷ filter has_bytes (map (hash_stream names) (range_with_len (b + 1) n))) (filter has_bytes (map (hash_stream names) (range_with_len (b + 1) n))))
    by true rest = (value_named ((0x1000 + b) * 65536 + 0x0102), rest)
    by false rest = rest

map_fit : (at : ℕ) (names : List Name) → NamesFit at (name_map_files names)
map_fit at names = streams_fit at (top.map_streams names) (value_named 0x00020102, (value_named 0x00030102, (value_named 0x00040102, hashes_named names 0 31)))

-- ---- messages

module _ (names : List Name) (few : length names ≤ 32000) where
  recipients_fit : (at i : ℕ) (rs : List (List Prop)) → at ≤ 100 → AllByRecursion IsPropList rs → messages.In names (flat_map names_in_props rs) → NamesFit at (recipient_files names i rs)
  unfolding NamesFit
  recipients_fit at i [] low good known = tt
  recipients_fit at i (r ∷ rs) low good known = (
    recipient_named i,
    refl,
    low,
    files_apart (list_files names (replicate 8 0) r None) (WrittenTrees.recipient_apart names (replicate 8 0) r None (WrittenTrees.all_ready names r few good.0 (messages.among names r (messages.in_front names (names_in_props r) (flat_map names_in_props rs) known))) (good.0).sorted),
    list_fit (at + 1) names (replicate 8 0) r None,
    recipients_fit at (i + 1) rs low good.1 (messages.in_back names (names_in_props r) (flat_map names_in_props rs) known),
  )

  mutual
    unfolding NamesFit

    message_fit : (at : ℕ) (b : Bool) (t : Message) → at + 2 * depth t ≤ 67 → HasPropLists t → HasFewParts t → messages.In names (names_in t) → NamesFit at (message_files names b t)
    message_fit at b (message props rs all) low lists few_parts known =
        join_fit at (list_files names (head_of b (length rs) (length (listed all))) props None) (and_files (recipient_files names 0 rs) (attachment_files names 0 all)) (list_fit at names (head_of b (length rs) (length (listed all))) props None)
        (join_fit at (recipient_files names 0 rs) (attachment_files names 0 all)
        (recipients_fit at 0 rs (omega (arith, low)) (every_of IsPropList IsPropList (λ x g. g) rs lists.1.0) (messages.recipients_known names props rs all known))
        (attachments_fit at 0 all low lists.1.1 few_parts.2 (messages.below_known names props rs all known)))

    attachments_fit : (at i : ℕ) (all : Attachments) → at + 2 * depth_in all ≤ 67 → HavePropLists all → HaveFewParts all → messages.In names (names_below all) → NamesFit at (attachment_files names i all)
    attachments_fit at i no_more low lists few_parts known = tt
    attachments_fit at i (attached props body others) low lists few_parts known =
        let both : messages.In names (names_in_props props ++ names_in_body body) = messages.in_front names (names_in_props props ++ names_in_body body) (names_below others) known in
        let own = messages.in_front names (names_in_props props) (names_in_body body) both in
        let ready = WrittenTrees.all_ready names props few lists.0 (messages.among names props own) in (
          attachment_named i,
          refl,
          omega (arith, low),
          files_apart (WrittenTrees.attachment_tree names props body) (WrittenTrees.attachment_apart names props body ready (lists.0).sorted),
          join_fit (at + 1) (list_files names (replicate 8 0) props (object_word body)) (body_files names body) (list_fit (at + 1) names (replicate 8 0) props (object_word body)) (body_fit (at + 1) body (omega (arith, low)) lists.1.0 few_parts.0 (messages.in_back names (names_in_props props) (names_in_body body) both)),
          attachments_fit at (i + 1) others (omega (arith, low)) lists.1.1 few_parts.1 (messages.in_back names (names_in_props props ++ names_in_body body) (names_below others) known),
        )

    body_fit : (at : ℕ) (body : Body) → at + 2 * depth_of_body body ≤ 68 → BodyHasPropLists body → BodyHasFewParts body → messages.In names (names_in_body body) → NamesFit at (body_files names body)
    body_fit at nothing low lists few_parts known = tt
    body_fit at (embedded (message props rs all)) low lists few_parts known =
        let ready = WrittenTrees.all_ready names props few lists.0 (messages.among names props (messages.own_known names props rs all known)) in (
          value_named OBJECT_TAG,
          refl,
          omega (arith, low),
          files_apart (message_files names false (message props rs all)) (WrittenTrees.message_apart names false props rs all ready (lists.0).sorted few_parts.0 few_parts.1),
          message_fit (at + 1) false (message props rs all) (omega (arith, low)) lists few_parts known,
          tt,
        )
    body_fit at (stored store) low store_is few_parts known = (
      value_named OBJECT_TAG,
      store_is.class,
      omega (arith, low),
      in_order_apart store.members store_is.order,
      members_fit (at + 1) store.members store_is.members (omega (arith, low, store_is.depth)),
      tt,
    )

pub may_be_written : (t : Message) → IsTree t → length (names_of t) ≤ 32000 → HasFewParts t → StreamsFit (files_of t) → MayBeWritten (files_of t)
unfolding NamesFit
may_be_written (message props rs all) tree few few_parts fit =
    let t : Message = message props rs all in
    let names : List Name = names_of t in
    let known : messages.In names (names_in t) = λ name c. all_elements name_exact (names_in t) [] name c in
    let ready = WrittenTrees.all_ready names props few tree.lists.0 (messages.among names props (messages.own_known names props rs all known)) in (
      files_apart (files_of t) (WrittenTrees.top_apart names NO_CLASS (name_map_files names) props rs all ready (tree.lists.0).sorted few_parts.0 few_parts.1),
      both_fit 1 (files_of t) (map_named, refl, omega arith, files_apart (name_map_files names) (top.map_apart names), map_fit 2 names, message_fit names few 1 true t (omega (arith, tree.levels)) tree.lists few_parts known) fit,
    )
