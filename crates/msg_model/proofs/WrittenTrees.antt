-- The children of the storages of a .msg file that is written: their names differ, and their lists are there.
use Rattle.std.proofs.Common.{◌≡◌, ℕ, zero, suc, ◌+◌, ◌<◌, ◌≤◌, ◌^◌, Bool, true, false, List, [], ◌∷◌, ◌++◌, length, map, drop, replicate, Option, Some, None, refl, sym, ap, subst, ◌∙◌, arith}
use Rattle.std.specs.Prelude.{Contains, filter_map, is_some}
use Rattle.std.specs.Option.{option_map}
use Rattle.std.specs.List.{AllByRecursion, IsDistinct, cons_option}
use Rattle.std.specs.Ordering.{nat_cmp, ordering_then}
use Rattle.std.specs.declared.cmp.Ordering.TheVariants.{Less, Equal}
use Rattle.std.proofs.lemmas.Bool.{eq-eqb}
use Rattle.std.proofs.lemmas.List.{append-nil, map-append}
use Rattle.std.proofs.lemmas.List.Elements.{filter_map-append}
use Rattle.carrier_model.specs.FileTrees as trees
use Rattle.carrier_model.specs.FileTrees.{FileTree, and_files, streams_from}
use Rattle.carrier_model.specs.Files.{Children, folded}
use Rattle.carrier_model.specs.KeyTexts.{upper, hex_digits}
use Rattle.carrier_model.specs.Lookups.{same_name, stream_named}
use Rattle.carrier_model.specs.Keys.{Name, Key, id, named, key_cmp}
use Rattle.carrier_model.specs.Values.{Prop, kind_of, prop_cmp, IsProp}
use Rattle.carrier_model.specs.Sorted.{IsStrictlySorted}
use Rattle.carrier_model.specs.Trees.{IsPropList}
use Rattle.carrier_model.specs.Tree.{message, Attachments, no_more, attached, Body, nothing, embedded, stored, listed}
use Rattle.msg_model.specs.NameMap.{name_for, pairs_from}
use Rattle.msg_model.specs.MsgProps.{Part, head_size, is_attachment}
use Rattle.msg_model.specs.StreamNames.{NAME_MAP, RECIPIENT_NAME, ATTACHMENT_NAME, value_name, numbered_name}
use Rattle.msg_model.specs.MsgMessage.{hex_number}
use Rattle.msg_model.specs.WrittenMsg.{number_of_key, tag_of, OBJECT_TAG, props_streams, entries_bytes, list_files, recipient_files, attachment_files, body_files, message_files, object_word, head_of}
use Rattle.carrier_model.specs.Stores.{PROPERTIES}
use Rattle.msg_model.specs.ReadBack.{HasStream, HasList, NamesAmong}
use Rattle.carrier_model.proofs.Orders.{prop_total}
use Rattle.carrier_model.proofs.Pairs.{equal_to_itself}
use Rattle.carrier_model.proofs.SortedLists.{head_less, tail_sorted, in_tail}
use Rattle.carrier_model.proofs.SortedElements.{every_from, every_at}
use Rattle.carrier_model.proofs.KindLaws.{list_kind}
use Rattle.msg_model.proofs.WrittenLists.{IsKeyOf, Ready, ready}
use Rattle.msg_model.proofs.WrittenFileNames.{every_append, number_again, differ_by, mark, AreApart, distinct_join, Says, said_apart, HasTag, TagsApart, list_marked, list_apart, list_apart_from, eight_again, folded_behind}
use Rattle.carrier_model.proofs.FoundChildren.{Entry, file, folder, entries, entry_name, FoundAs, Apart}
use Rattle.msg_model.proofs.WrittenChildren.{stream_found, numbered_entry, Counting}

-- ---- tags

key_same : (names : List Name) (j k : Key) → IsKeyOf names j → IsKeyOf names k → number_of_key names j ≡ number_of_key names k → j ≡ k
key_same names (id m) (id n) a b e = ap id e
key_same names (id m) (named y) a b e = absurd (let lt : m < 0x8000 = a in omega (arith, b.low))
key_same names (named x) (id n) a b e = absurd (let lt : n < 0x8000 = b in omega (arith, a.low))
key_same names (named x) (named y) a b e = let h : Some x ≡ Some y = sym a.stands ∙ (ap (name_for (pairs_from 0 names)) e ∙ b.stands) in let same : x ≡ y = cc in ap named same

tags_differ : (names : List Name) (p q : Prop) → Ready names p → Ready names q → prop_cmp p q ≡ Less → tag_of names p ≡ tag_of names q → ⊥
tags_differ names p q a b less e =
    let k1 = (list_kind p.value a.value).short in
    let k2 = (list_kind q.value b.value).short in
    let kinds : kind_of p.value ≡ kind_of q.value = omega (arith, k1, k2, e) in
    let numbers : number_of_key names p.key ≡ number_of_key names q.key = omega (arith, k1, k2, e) in
    let keys : p.key ≡ q.key = key_same names p.key q.key a.key b.key numbers in
    let equal : prop_cmp p q ≡ Equal = (λ i. ordering_then (key_cmp (keys i) q.key) (nat_cmp (kinds i) (kind_of q.value))) ∙ equal_to_itself prop_total q in
    let h : Less ≡ Equal = sym less ∙ equal in
    cc

tags_apart : (names : List Name) (props : List Prop) → IsStrictlySorted prop_cmp props → AllByRecursion (Ready names) props → TagsApart names props
tags_apart names [] s h = tt
tags_apart names (p ∷ props) s h = (
  every_from (λ q. tag_of names p ≡ tag_of names q → ⊥) props (λ q c. tags_differ names p q h.0 (every_at (Ready names) props q h.1 c) (head_less prop_total p props q s c)),
  tags_apart names props (tail_sorted prop_total p props s) h.1,
)

have_tags : (names : List Name) (props : List Prop) → AllByRecursion (Ready names) props → AllByRecursion (HasTag names) props
have_tags names [] h = tt
have_tags names (p ∷ props) h = ((let k = (list_kind p.value h.0.value).short in let n = h.0.number in omega arith, h.0.value), have_tags names props h.1)

pub all_ready : (names : List Name) (props : List Prop) → length names ≤ 32000 → IsPropList props → NamesAmong names props → AllByRecursion (Ready names) props
all_ready names props few good known = every_from (Ready names) props (λ p c. ready names p few (let (k, lt, e) = c in subst IsProp e (good.each k p lt)) (λ name e. known p name c e))

-- ---- entries

entries_and : (f g : FileTree) → entries (and_files f g) ≡ entries f ++ entries g
entries_and trees.no_file g = refl
entries_and (trees.stream name bytes others) g = ap (λ l. file name bytes ∷ l) (entries_and others g)
entries_and (trees.storage name class inside others) g = ap (λ l. folder name class inside ∷ l) (entries_and others g)

abbrev pub file_of : List ℕ × List ℕ → Entry
file_of p = file p.0 p.1

pub entries_streams : (l : List (List ℕ × List ℕ)) → entries (streams_from l) ≡ map file_of l
entries_streams [] = refl
entries_streams (p ∷ l) = ap (λ z. file_of p ∷ z) (entries_streams l)

abbrev names_of_entries : List Entry → List (List ℕ)
names_of_entries = map entry_name

pub names_of_files : (l : List (List ℕ × List ℕ)) → names_of_entries (map file_of l) ≡ map (λ p. p.0) l
names_of_files [] = refl
names_of_files (p ∷ l) = ap (λ z. p.0 ∷ z) (names_of_files l)

-- the entries of a list
abbrev pub list_entries : List Name → List ℕ → List Prop → Option ℕ → List Entry
list_entries names head props object = entries (list_files names head props object)

list_names : (names : List Name) (head : List ℕ) (props : List Prop) (object : Option ℕ) → names_of_entries (list_entries names head props object) ≡ PROPERTIES ∷ map (λ p. p.0) (props_streams names props)
list_names names head props object = ap (λ z. PROPERTIES ∷ z) (ap names_of_entries (entries_streams (props_streams names props)) ∙ names_of_files (props_streams names props))

pub in_left : {A : Type 0} (xs ys : List A) (x : A) → Contains xs x → Contains (xs ++ ys) x
in_left [] ys x (i, lt, e) = absurd (omega (arith, lt))
in_left (y ∷ xs) ys x (zero, lt, e) = (zero, omega arith, e)
in_left (y ∷ xs) ys x (suc i, lt, e) = in_tail y x (xs ++ ys) (in_left xs ys x (i, omega (arith, lt), e))

pub in_right : {A : Type 0} (xs ys : List A) (x : A) → Contains ys x → Contains (xs ++ ys) x
in_right [] ys x c = c
in_right (y ∷ xs) ys x c = in_tail y x (xs ++ ys) (in_right xs ys x c)

pub in_map : {A B : Type 0} (f : A → B) (xs : List A) (x : A) → Contains xs x → Contains (map f xs) (f x)
in_map f [] x (i, lt, e) = absurd (omega (arith, lt))
in_map f (y ∷ xs) x (zero, lt, e) = (zero, omega arith, ap f e)
in_map f (y ∷ xs) x (suc i, lt, e) = in_tail (f y) (f x) (map f xs) (in_map f xs x (i, omega (arith, lt), e))

-- The list of a storage is there, among its children.
pub list_there : (c : Children) (f : FileTree) (part : Part) (names : List Name) (head : List ℕ) (props : List Prop) (object : Option ℕ) (before after : List Entry) → FoundAs c f → Apart f → length head ≡ head_size part → (is_some object ≡ true → is_attachment part ≡ true)
    → entries f ≡ before ++ (list_entries names head props object ++ after) → HasList part names (stream_named c) props object
list_there c f part names head props object before after h d long inside e =
    let put : (x : Entry) → Contains (list_entries names head props object) x → Contains (entries f) x = λ x k. subst (λ (l : List Entry). Contains l x) (sym e) (in_right before (list_entries names head props object ++ after) x (in_left (list_entries names head props object) after x k)) in
    record {
      head = head;
      long = long;
      list = stream_found c f h d PROPERTIES (head ++ entries_bytes names props object) (put (file PROPERTIES (head ++ entries_bytes names props object)) (zero, omega arith, refl));
      values = every_from (HasStream (stream_named c)) (props_streams names props) (λ p k. stream_found c f h d p.0 p.1 (put (file_of p) (in_tail (file PROPERTIES (head ++ entries_bytes names props object)) (file_of p) (entries (streams_from (props_streams names props))) (subst (λ (l : List Entry). Contains l (file_of p)) (sym (entries_streams (props_streams names props))) (in_map file_of (props_streams names props) p k)))));
      inside = inside;
    }

-- ---- names of a list

abbrev pub own_names : List Name → List Prop → List (List ℕ)
own_names names props = PROPERTIES ∷ map (λ p. p.0) (props_streams names props)

own_apart : (names : List Name) (props : List Prop) → AllByRecursion (Ready names) props → IsStrictlySorted prop_cmp props → IsDistinct same_name (own_names names props)
unfolding IsDistinct
own_apart names props h s =
    let values : List (List ℕ) = map (λ p. p.0) (props_streams names props) in
    let first : AreApart (PROPERTIES ∷ []) values = said_apart mark 0x70 0x73 (PROPERTIES ∷ []) values (λ e. omega (arith, e)) (refl, tt) (list_marked names props) in
    (first.0, list_apart names props (have_tags names props h) (tags_apart names props s h))

-- and from names that another character marks
own_apart_from : (names : List Name) (props : List Prop) (k : ℕ) (others : List (List ℕ)) → (0x70 ≡ k → ⊥) → (0x73 ≡ k → ⊥) → Says mark k others → AreApart (own_names names props) others
own_apart_from names props k others a b said =
    ((said_apart mark 0x70 k (PROPERTIES ∷ []) others a (refl, tt) said).0, said_apart mark 0x73 k (map (λ p. p.0) (props_streams names props)) others b (list_marked names props) said)

no_object_tag : (names : List Name) (props : List Prop) → AllByRecursion (Ready names) props → AllByRecursion (λ q. tag_of names q ≡ OBJECT_TAG → ⊥) props
no_object_tag names [] h = tt
no_object_tag names (p ∷ props) h =
    ((λ e. (let k = list_kind p.value h.0.value in let short = k.short in let is : kind_of p.value ≡ 0x000D = omega (arith, short, e) in let wrong : true ≡ false = sym (eq-eqb (kind_of p.value) 0x000D is) ∙ k.no_object in cc)), no_object_tag names props h.1)

pub recipient_apart : (names : List Name) (head : List ℕ) (props : List Prop) (object : Option ℕ) → AllByRecursion (Ready names) props → IsStrictlySorted prop_cmp props → Apart (list_files names head props object)
recipient_apart names head props object h s = subst (IsDistinct same_name) (sym (list_names names head props object)) (own_apart names props h s)

-- ---- an attachment

abbrev pub attachment_tree : List Name → List Prop → Body → FileTree
attachment_tree names props body = and_files (list_files names (replicate 8 0) props (object_word body)) (body_files names body)

body_names : List Name → Body → List (List ℕ)
body_names names nothing = []
body_names names (embedded inner) = value_name OBJECT_TAG ∷ []
body_names names (stored store) = value_name OBJECT_TAG ∷ []

names_of_body : (names : List Name) (body : Body) → names_of_entries (entries (body_files names body)) ≡ body_names names body
unfolding body_names
names_of_body names nothing = refl
names_of_body names (embedded inner) = refl
names_of_body names (stored store) = refl

pub attachment_apart : (names : List Name) (props : List Prop) (body : Body) → AllByRecursion (Ready names) props → IsStrictlySorted prop_cmp props → Apart (attachment_tree names props body)
unfolding body_names IsDistinct
attachment_apart names props body h s =
    let all : names_of_entries (entries (attachment_tree names props body)) ≡ own_names names props ++ body_names names body =
    ap names_of_entries (entries_and (list_files names (replicate 8 0) props (object_word body)) (body_files names body))
    ∙ (map-append entry_name (list_entries names (replicate 8 0) props (object_word body)) (entries (body_files names body))
    ∙ (λ i. list_names names (replicate 8 0) props (object_word body) i ++ names_of_body names body i)) in
    subst (IsDistinct same_name) (sym all) (by body)
  where
    own : IsDistinct same_name (own_names names props)
    own = own_apart names props h s

    nothing_apart : (l : List (List ℕ)) → AreApart l []
    nothing_apart [] = tt
    nothing_apart (m ∷ l) = (tt, nothing_apart l)

    with_object : IsDistinct same_name (own_names names props ++ value_name OBJECT_TAG ∷ [])
    with_object = distinct_join (own_names names props) (value_name OBJECT_TAG ∷ []) own (tt, tt)
        ((said_apart mark 0x70 0x73 (PROPERTIES ∷ []) (value_name OBJECT_TAG ∷ []) (λ e. omega (arith, e)) (refl, tt) (refl, tt)).0, list_apart_from names OBJECT_TAG props (omega arith) (have_tags names props h) (no_object_tag names props h))

    by : (b : Body) → IsDistinct same_name (own_names names props ++ body_names names b)
    by nothing = distinct_join (own_names names props) [] own tt (nothing_apart (own_names names props))
    by (embedded inner) = with_object
    by (stored store) = with_object

-- ---- numbered storages

numbered_names : List ℕ → ℕ → ℕ → List (List ℕ)
numbered_names prefix i zero = []
numbered_names prefix i (suc n) = numbered_name prefix i ∷ numbered_names prefix (i + 1) n

number_said : (prefix : List ℕ) (i : ℕ) → i < 2 ^ 32 → hex_number (drop (length prefix) (folded (numbered_name prefix i))) ≡ i
number_said prefix i lt = ap hex_number (folded_behind prefix (hex_digits upper 8 i)) ∙ eight_again i lt

later_numbers : (prefix : List ℕ) (i j n : ℕ) → i < j → j + n ≤ 2 ^ 32 → AllByRecursion (λ m. same_name (numbered_name prefix i) m ≡ false) (numbered_names prefix j n)
unfolding numbered_names
later_numbers prefix i j zero lt few = tt
later_numbers prefix i j (suc n) lt few = (
  differ_by (λ x. hex_number (drop (length prefix) x)) (numbered_name prefix i) (numbered_name prefix j) (λ e. (let a = number_said prefix i (omega (arith, lt, few)) in let b = number_said prefix j (omega (arith, few)) in omega (arith, a, b, e, lt))),
  later_numbers prefix i (j + 1) n (omega (arith, lt)) (omega (arith, few)),
)

numbers_apart : (prefix : List ℕ) (i n : ℕ) → i + n ≤ 2 ^ 32 → IsDistinct same_name (numbered_names prefix i n)
unfolding numbered_names IsDistinct
numbers_apart prefix i zero few = tt
numbers_apart prefix i (suc n) few = (later_numbers prefix i (i + 1) n (omega arith) (omega (arith, few)), numbers_apart prefix (i + 1) n (omega (arith, few)))

recipients_marked : (i n : ℕ) → Says mark 0x72 (numbered_names RECIPIENT_NAME i n)
unfolding numbered_names
recipients_marked i zero = tt
recipients_marked i (suc n) = (refl, recipients_marked (i + 1) n)

attachments_marked : (i n : ℕ) → Says mark 0x61 (numbered_names ATTACHMENT_NAME i n)
unfolding numbered_names
attachments_marked i zero = tt
attachments_marked i (suc n) = (refl, attachments_marked (i + 1) n)

recipient_names : (names : List Name) (i : ℕ) (rs : List (List Prop)) → names_of_entries (entries (recipient_files names i rs)) ≡ numbered_names RECIPIENT_NAME i (length rs)
unfolding numbered_names
recipient_names names i [] = refl
recipient_names names i (r ∷ rs) = ap (λ z. numbered_name RECIPIENT_NAME i ∷ z) (recipient_names names (i + 1) rs)

attachment_names : (names : List Name) (i : ℕ) (all : Attachments) → names_of_entries (entries (attachment_files names i all)) ≡ numbered_names ATTACHMENT_NAME i (length (listed all))
unfolding numbered_names
attachment_names names i no_more = refl
attachment_names names i (attached props body others) = ap (λ z. numbered_name ATTACHMENT_NAME i ∷ z) (attachment_names names (i + 1) others)

-- the recipients' trees and the attachments', numbered
abbrev pub recipients_from : List Name → ℕ → List (List Prop) → List (ℕ × FileTree)
recipients_from names i [] = []
recipients_from names i (props ∷ others) = (i, list_files names (replicate 8 0) props None) ∷ recipients_from names (i + 1) others

abbrev pub trees_from : List Name → ℕ → Attachments → List (ℕ × FileTree)
trees_from names i no_more = []
trees_from names i (attached props body others) = (i, attachment_tree names props body) ∷ trees_from names (i + 1) others

pub recipients_count : (names : List Name) (i : ℕ) (rs : List (List Prop)) → Counting i (recipients_from names i rs)
recipients_count names i [] = tt
recipients_count names i (r ∷ rs) = (refl, recipients_count names (i + 1) rs)

pub trees_count : (names : List Name) (i : ℕ) (all : Attachments) → Counting i (trees_from names i all)
trees_count names i no_more = tt
trees_count names i (attached props body others) = (refl, trees_count names (i + 1) others)

no_numbers : (prefix : List ℕ) (l : List (List ℕ × List ℕ)) → filter_map (numbered_entry prefix) (map file_of l) ≡ []
no_numbers prefix [] = refl
no_numbers prefix (p ∷ l) = no_numbers prefix l

list_numbers : (prefix : List ℕ) (names : List Name) (head : List ℕ) (props : List Prop) (object : Option ℕ) → filter_map (numbered_entry prefix) (list_entries names head props object) ≡ []
list_numbers prefix names head props object = ap (filter_map (numbered_entry prefix)) (entries_streams (props_streams names props)) ∙ no_numbers prefix (props_streams names props)

recipient_numbers : (names : List Name) (i : ℕ) (rs : List (List Prop)) → i + length rs ≤ 2 ^ 32 → filter_map (numbered_entry RECIPIENT_NAME) (entries (recipient_files names i rs)) ≡ recipients_from names i rs
recipient_numbers names i [] few = refl
recipient_numbers names i (r ∷ rs) few =
    let tree : FileTree = list_files names (replicate 8 0) r None in
    ap (λ o. cons_option (option_map (λ n. (n, tree)) o) (filter_map (numbered_entry RECIPIENT_NAME) (entries (recipient_files names (i + 1) rs)))) (number_again RECIPIENT_NAME i (omega (arith, few)))
    ∙ ap (λ z. (i, tree) ∷ z) (recipient_numbers names (i + 1) rs (omega (arith, few)))

attachment_numbers : (names : List Name) (i : ℕ) (all : Attachments) → i + length (listed all) ≤ 2 ^ 32 → filter_map (numbered_entry ATTACHMENT_NAME) (entries (attachment_files names i all)) ≡ trees_from names i all
attachment_numbers names i no_more few = refl
attachment_numbers names i (attached props body others) few =
    let tree : FileTree = attachment_tree names props body in
    ap (λ o. cons_option (option_map (λ n. (n, tree)) o) (filter_map (numbered_entry ATTACHMENT_NAME) (entries (attachment_files names (i + 1) others)))) (number_again ATTACHMENT_NAME i (omega (arith, few)))
    ∙ ap (λ z. (i, tree) ∷ z) (attachment_numbers names (i + 1) others (omega (arith, few)))

-- recipients are no attachments, and the other way round
no_attachments : (names : List Name) (i : ℕ) (rs : List (List Prop)) → filter_map (numbered_entry ATTACHMENT_NAME) (entries (recipient_files names i rs)) ≡ []
no_attachments names i [] = refl
no_attachments names i (r ∷ rs) = no_attachments names (i + 1) rs

no_recipients : (names : List Name) (i : ℕ) (all : Attachments) → filter_map (numbered_entry RECIPIENT_NAME) (entries (attachment_files names i all)) ≡ []
no_recipients names i no_more = refl
no_recipients names i (attached props body others) = no_recipients names (i + 1) others

-- ---- a message

message_parts : List Name → List Prop → List (List Prop) → Attachments → List (List ℕ)
message_parts names props rs all = own_names names props ++ (numbered_names RECIPIENT_NAME 0 (length rs) ++ numbered_names ATTACHMENT_NAME 0 (length (listed all)))

message_names : (names : List Name) (b : Bool) (props : List Prop) (rs : List (List Prop)) (all : Attachments) → names_of_entries (entries (message_files names b (message props rs all))) ≡ message_parts names props rs all
unfolding message_parts
message_names names b props rs all =
    let head : List ℕ = head_of b (length rs) (length (listed all)) in
    ap names_of_entries (entries_and (list_files names head props None) (and_files (recipient_files names 0 rs) (attachment_files names 0 all)) ∙ ap (λ z. list_entries names head props None ++ z) (entries_and (recipient_files names 0 rs) (attachment_files names 0 all)))
    ∙ (map-append entry_name (list_entries names head props None) (entries (recipient_files names 0 rs) ++ entries (attachment_files names 0 all))
    ∙ (λ i. list_names names head props None i ++ (map-append entry_name (entries (recipient_files names 0 rs)) (entries (attachment_files names 0 all)) ∙ (λ j. recipient_names names 0 rs j ++ attachment_names names 0 all j)) i))

apart_join : (l m n : List (List ℕ)) → AreApart l m → AreApart l n → AreApart l (m ++ n)
apart_join [] m n a b = tt
apart_join (x ∷ l) m n a b = (every_append (λ y. same_name x y ≡ false) m n a.0 b.0, apart_join l m n a.1 b.1)

parts_apart : (names : List Name) (props : List Prop) (rs : List (List Prop)) (all : Attachments) → AllByRecursion (Ready names) props → IsStrictlySorted prop_cmp props → length rs ≤ 2048 → length (listed all) ≤ 2048 → IsDistinct same_name (message_parts names props rs all)
unfolding message_parts
parts_apart names props rs all h s few some =
    let r : List (List ℕ) = numbered_names RECIPIENT_NAME 0 (length rs) in
    let a : List (List ℕ) = numbered_names ATTACHMENT_NAME 0 (length (listed all)) in
    let own : List (List ℕ) = own_names names props in
    let rm : Says mark 0x72 r = recipients_marked 0 (length rs) in
    let am : Says mark 0x61 a = attachments_marked 0 (length (listed all)) in
    distinct_join own (r ++ a) (own_apart names props h s)
    (distinct_join r a (numbers_apart RECIPIENT_NAME 0 (length rs) (omega (arith, few))) (numbers_apart ATTACHMENT_NAME 0 (length (listed all)) (omega (arith, some))) (said_apart mark 0x72 0x61 r a (λ e. omega (arith, e)) rm am))
    (apart_join own r a (own_apart_from names props 0x72 r (λ e. omega (arith, e)) (λ e. omega (arith, e)) rm) (own_apart_from names props 0x61 a (λ e. omega (arith, e)) (λ e. omega (arith, e)) am))

pub message_apart : (names : List Name) (b : Bool) (props : List Prop) (rs : List (List Prop)) (all : Attachments) → AllByRecursion (Ready names) props → IsStrictlySorted prop_cmp props → length rs ≤ 2048 → length (listed all) ≤ 2048 → Apart (message_files names b (message props rs all))
message_apart names b props rs all h s few some = subst (IsDistinct same_name) (sym (message_names names b props rs all)) (parts_apart names props rs all h s few some)

-- the top has the names beside
pub top_apart : (names : List Name) (class : List ℕ) (map : FileTree) (props : List Prop) (rs : List (List Prop)) (all : Attachments) → AllByRecursion (Ready names) props → IsStrictlySorted prop_cmp props → length rs ≤ 2048 → length (listed all) ≤ 2048 → Apart (trees.storage NAME_MAP class map (message_files names true (message props rs all)))
unfolding message_parts IsDistinct
top_apart names class map props rs all h s few some =
    let r : List (List ℕ) = numbered_names RECIPIENT_NAME 0 (length rs) in
    let a : List (List ℕ) = numbered_names ATTACHMENT_NAME 0 (length (listed all)) in
    let n : List (List ℕ) = NAME_MAP ∷ [] in
    let values = said_apart mark 0x6E 0x73 n (drop 1 (own_names names props)) (λ e. omega (arith, e)) (refl, tt) (list_marked names props) in
    let first = said_apart mark 0x6E 0x70 n (PROPERTIES ∷ []) (λ e. omega (arith, e)) (refl, tt) (refl, tt) in
    let recips = said_apart mark 0x6E 0x72 n r (λ e. omega (arith, e)) (refl, tt) (recipients_marked 0 (length rs)) in
    let atts = said_apart mark 0x6E 0x61 n a (λ e. omega (arith, e)) (refl, tt) (attachments_marked 0 (length (listed all))) in
    let others : AllByRecursion (λ m. same_name NAME_MAP m ≡ false) (message_parts names props rs all) = (first.0.0, every_append (λ m. same_name NAME_MAP m ≡ false) (drop 1 (own_names names props)) (r ++ a) values.0 (every_append (λ m. same_name NAME_MAP m ≡ false) r a recips.0 atts.0)) in
    subst (λ (l : List (List ℕ)). IsDistinct same_name (NAME_MAP ∷ l)) (sym (message_names names true props rs all)) (others, parts_apart names props rs all h s few some)

-- the entries of a message, and its numbered storages
abbrev pub rest_entries : List Name → List (List Prop) → Attachments → List Entry
rest_entries names rs all = entries (recipient_files names 0 rs) ++ entries (attachment_files names 0 all)

pub message_entries : (names : List Name) (b : Bool) (props : List Prop) (rs : List (List Prop)) (all : Attachments) → entries (message_files names b (message props rs all)) ≡ list_entries names (head_of b (length rs) (length (listed all))) props None ++ rest_entries names rs all
message_entries names b props rs all =
    let head : List ℕ = head_of b (length rs) (length (listed all)) in
    entries_and (list_files names head props None) (and_files (recipient_files names 0 rs) (attachment_files names 0 all)) ∙ ap (λ z. list_entries names head props None ++ z) (entries_and (recipient_files names 0 rs) (attachment_files names 0 all))

pub attachment_entries : (names : List Name) (props : List Prop) (body : Body) → entries (attachment_tree names props body) ≡ list_entries names (replicate 8 0) props (object_word body) ++ entries (body_files names body)
attachment_entries names props body = entries_and (list_files names (replicate 8 0) props (object_word body)) (body_files names body)

pub message_recipients : (names : List Name) (before : List Entry) (head : List ℕ) (props : List Prop) (rs : List (List Prop)) (all : Attachments) → filter_map (numbered_entry RECIPIENT_NAME) before ≡ [] → length rs ≤ 2048
    → filter_map (numbered_entry RECIPIENT_NAME) (before ++ (list_entries names head props None ++ rest_entries names rs all)) ≡ recipients_from names 0 rs
message_recipients names before head props rs all none few =
    filter_map-append (numbered_entry RECIPIENT_NAME) before (list_entries names head props None ++ rest_entries names rs all)
    ∙ ((λ i. none i ++ (filter_map-append (numbered_entry RECIPIENT_NAME) (list_entries names head props None) (rest_entries names rs all)
    ∙ (λ j. list_numbers RECIPIENT_NAME names head props None j ++ (filter_map-append (numbered_entry RECIPIENT_NAME) (entries (recipient_files names 0 rs)) (entries (attachment_files names 0 all))
    ∙ (λ k. recipient_numbers names 0 rs (omega (arith, few)) k ++ no_recipients names 0 all k)) j)) i) ∙ append-nil (recipients_from names 0 rs))

pub message_attachments : (names : List Name) (before : List Entry) (head : List ℕ) (props : List Prop) (rs : List (List Prop)) (all : Attachments) → filter_map (numbered_entry ATTACHMENT_NAME) before ≡ [] → length (listed all) ≤ 2048
    → filter_map (numbered_entry ATTACHMENT_NAME) (before ++ (list_entries names head props None ++ rest_entries names rs all)) ≡ trees_from names 0 all
message_attachments names before head props rs all none few =
    filter_map-append (numbered_entry ATTACHMENT_NAME) before (list_entries names head props None ++ rest_entries names rs all)
    ∙ (λ i. none i ++ (filter_map-append (numbered_entry ATTACHMENT_NAME) (list_entries names head props None) (rest_entries names rs all)
    ∙ (λ j. list_numbers ATTACHMENT_NAME names head props None j ++ (filter_map-append (numbered_entry ATTACHMENT_NAME) (entries (recipient_files names 0 rs)) (entries (attachment_files names 0 all))
    ∙ (λ k. no_attachments names 0 rs k ++ attachment_numbers names 0 all (omega (arith, few)) k)) j)) i)
