-- The property lists that are written to a .msg file are read back.
use Rattle.std.proofs.Common.{◌≡◌, ℕ, zero, suc, ◌+◌, ◌-◌, ◌*◌, ◌/◌, ◌%◌, ◌<◌, ◌≤◌, ◌^◌, Bool, true, false, not, ◌||◌, ◌&&◌, cond, eqb, List, [], ◌∷◌, ◌++◌, length, map, take, drop, replicate, Option, Some, None, Ok, refl, sym, ap, subst, ◌∙◌, arith}
use Rattle.std.specs.Prelude.{Contains, ◌==◌, is_some, nat_lt, find, unwrap_or, filter, filter_map, IsPermutation}
use Rattle.std.specs.Option.{option_map}
use Rattle.std.specs.List.{flat_map, range_with_len, AllByRecursion, AllZip, position_from}
use Rattle.std.specs.declared.cmp.Ordering.{Ordering}
use Rattle.std.specs.declared.cmp.Ordering.TheVariants.{Less, Equal, Greater}
use Rattle.std.proofs.lemmas.Grind.{flat_map-append}
use Rattle.std.proofs.lemmas.List.Elements.{filter_map-append}
use Rattle.std.proofs.lemmas.List.Sorted.{IsPermutation-refl, IsPermutation-trans, IsPermutation-middle, IsPermutation-cons}
use Rattle.std.proofs.lemmas.List.{length-append, map-append, take_at, drop_at, drop-drop}
use Rattle.std.proofs.lemmas.Bool.{cond-true, cond-false, eq-eqb, ne_eqb, eqb-true, lt-ltb, le-ltb, and_right, and_from, or_from}
use Rattle.carrier_model.specs.Bytes.{le32, number32, le_bytes}
use Rattle.carrier_model.specs.Outcomes.{mapped}
use Rattle.carrier_model.specs.Reasons.{UNKNOWN_TYPE, UNMAPPED_ID}
use Rattle.carrier_model.specs.Sectors.{u32_of}
use Rattle.carrier_model.specs.Streams.{Stream}
use Rattle.carrier_model.specs.Sorted.{choose}
use Rattle.carrier_model.specs.Turns.{found}
use Rattle.carrier_model.specs.Keys.{Name, Key, id, named, name_cmp, IsKey, id_of}
use Rattle.carrier_model.specs.Values.{Value, number, guid, bytes, numbers, guids, parts, Prop, IsProp, IsValue, kind_of, number_widths}
use Rattle.carrier_model.specs.Kinds.{is_kind, OBJECT, ATTACHED_OBJECT, comes_before_object}
use Rattle.msg_model.specs.NameMap.{Pair, name_for, pairs_from}
use Rattle.msg_model.specs.MsgValues.{Streams, PropEntry, kind_in, id_in, value_of}
use Rattle.msg_model.specs.MsgProps.{Part, top, Section, option_list, props_of, MsgProps, head_size, is_attachment, prop_entry, prop_entries, Item, kept, embedding, prop_in, passed_in, embedding_in, is_passed_kind, key_of, prop_of, item_of}
use Rattle.msg_model.specs.WrittenMsg.{number_of_key, tag_of, value_streams, value_field, FLAGS, OBJECT_TAG, entry_bytes, object_entry, entries_bytes, props_streams}
use Rattle.msg_model.specs.ReadBack.{HasStream, HasList, NamesAmong, IsReadAs}
use Rattle.carrier_model.proofs.Turns.{bind_from, check_from}
use Rattle.carrier_model.proofs.Numbers.{number32-le32}
use Rattle.carrier_model.proofs.Orders.{name_total, name_exact}
use Rattle.carrier_model.proofs.Pairs.{equal_to_itself}
use Rattle.carrier_model.proofs.KindLaws.{IsListKind, list_kind, among_rows}
use Rattle.msg_model.proofs.WrittenValues.{value_read}
use Rattle.msg_model.proofs.MsgProps.{props_of-only}
use Rattle.carrier_model.proofs.SortedElements.{every_from}
use Rattle.carrier_model.specs.Trees.{IsPropList}
use Rattle.carrier_model.specs.Lookups.{Found}

-- ---- ids and names

abbrev same_name : Name → Name → Bool
same_name name other = choose (name_cmp other name) false true false

-- where a name is among others, and that its id stands for it
abbrev IsKnown : List Name → Name → ℕ → ℕ → Type 0
IsKnown names name i j = (position_from (same_name name) i names ≡ Some (i + j)) × (j < length names) × (name_for (pairs_from i names) (0x8000 + (i + j)) ≡ Some name)

name_known : (names : List Name) (name : Name) (i : ℕ) → Contains names name → (j : ℕ) × IsKnown names name i j
name_known [] name i (k, lt, e) = absurd (omega (arith, lt))
name_known (x ∷ names) name i c = by (λ d. name_known names name (i + 1) d) c (name_cmp x name) refl
  where
    further : (Contains names name → (j : ℕ) × IsKnown names name (i + 1) j) → Contains (x ∷ names) name → same_name name x ≡ false → (x ≡ name → ⊥) → (j : ℕ) × IsKnown (x ∷ names) name i j
    further later (zero, lt, e) differ other = absurd (other e)
    further later (suc k, lt, e) differ other =
        let (j, (at, below, there)) = later (k, omega (arith, lt), e) in (
          suc j,
          (
            cond-false (same_name name x) _ _ differ ∙ (at ∙ ap Some (omega arith)),
            omega (arith, below),
            ap (option_map (λ (p : Pair). p.1)) (cond-false (eqb (0x8000 + i) (0x8000 + (i + suc j))) (Some (0x8000 + i, x)) (find (λ (p : Pair). eqb p.0 (0x8000 + (i + suc j))) (pairs_from (i + 1) names)) (ne_eqb (0x8000 + i) (0x8000 + (i + suc j)) (λ q. omega arith)))
                ∙ (ap (λ n. name_for (pairs_from (i + 1) names) n) (let z : 0x8000 + (i + suc j) ≡ 0x8000 + (i + 1 + j) = omega arith in z) ∙ there),
          ),
        )

    by : (Contains names name → (j : ℕ) × IsKnown names name (i + 1) j) → Contains (x ∷ names) name → (o : Ordering) → name_cmp x name ≡ o → (j : ℕ) × IsKnown (x ∷ names) name i j
    by later c Equal e =
        let same : x ≡ name = name_exact x name e in (
          0,
          (
            cond-true (same_name name x) _ _ (ap (λ o. choose o false true false) e) ∙ ap Some (omega arith),
            omega arith,
            ap (option_map (λ (p : Pair). p.1)) (cond-true (eqb (0x8000 + i) (0x8000 + (i + 0))) (Some (0x8000 + i, x)) _ (eq-eqb (0x8000 + i) (0x8000 + (i + 0)) (omega arith))) ∙ ap Some same,
          ),
        )
    by later c Less e = further later c (ap (λ o. choose o false true false) e) (λ same. (let h : Less ≡ Equal = sym e ∙ (ap (λ y. name_cmp y name) same ∙ equal_to_itself name_total name) in cc))
    by later c Greater e = further later c (ap (λ o. choose o false true false) e) (λ same. (let h : Greater ≡ Equal = sym e ∙ (ap (λ y. name_cmp y name) same ∙ equal_to_itself name_total name) in cc))

-- the id of a name, which stands for it
pub record HasId (names : List Name) (name : Name) : Type 0 where
  pub low : 0x8000 ≤ id_of names name
  pub high : id_of names name < 65536
  pub stands : name_for (pairs_from 0 names) (id_of names name) ≡ Some name

pub has_id : (names : List Name) (name : Name) → length names ≤ 32000 → Contains names name → HasId names name
has_id names name few c =
    let (j, (at, below, there)) = name_known names name 0 c in
    let is : id_of names name ≡ 0x8000 + (0 + j) = ap (λ o. 0x8000 + unwrap_or o 0) at in
    record { low = omega (arith, is); high = omega (arith, is, below, few); stands = ap (name_for (pairs_from 0 names)) is ∙ there }

-- ---- one entry

-- the types that are passed over are none of those that are read
not_passed : (kind : ℕ) → is_kind kind ≡ true → is_passed_kind kind ≡ false
not_passed kind h =
    or_from _ _ (differs 0x0000 refl) (or_from _ _ (differs 0x0001 refl) (or_from _ _ (differs 0x00FB refl) (or_from _ _ (differs 0x00FD refl) (differs 0x00FE refl))))
  where
    by : (n : ℕ) → is_kind n ≡ false → (b : Bool) → eqb kind n ≡ b → eqb kind n ≡ false
    by n none false e = e
    by n none true e = absurd (let wrong : is_kind n ≡ true = subst (λ (m : ℕ). is_kind m ≡ true) (eqb-true kind n e) h in cc)

    differs : (n : ℕ) → is_kind n ≡ false → eqb kind n ≡ false
    differs n none = by n none (eqb kind n) refl

abbrev pub IsKeyOf : List Name → Key → Type 0
IsKeyOf names (id n) = n < 0x8000
IsKeyOf names (named name) = HasId names name

-- what is known of a property: its value, and that its key has a number
pub record Ready (names : List Name) (p : Prop) : Type 0 where
  pub value : IsValue p.value
  pub number : number_of_key names p.key < 65536
  pub key : IsKeyOf names p.key

module _ (part : Part) (names : List Name) (streams : Streams) where
  key_again : (e : PropEntry) (k : Key) → IsKeyOf names k → id_in e ≡ number_of_key names k → key_of (pairs_from 0 names) e ≡ Ok k
  unfolding key_of
  key_again e (id n) h is = cond-true (nat_lt (id_in e) 0x8000) _ _ (ap (λ m. nat_lt m 0x8000) is ∙ lt-ltb n 0x8000 h) ∙ ap (λ m. Ok (id m)) is
  key_again e (named name) h is =
      cond-false (nat_lt (id_in e) 0x8000) _ _ (ap (λ m. nat_lt m 0x8000) is ∙ le-ltb (id_of names name) 0x8000 h.low)
      ∙ ap (λ o. mapped named (found o (UNMAPPED_ID, e.place))) (ap (name_for (pairs_from 0 names)) is ∙ h.stands)

  -- the entry of a property gives it
  item_again : (e : PropEntry) (p : Prop) → Ready names p → e.tag ≡ tag_of names p → e.field ≡ value_field p.value → AllByRecursion (HasStream streams) (value_streams (tag_of names p) p.value) → item_of part (pairs_from 0 names) streams e ≡ Ok (kept p)
  unfolding item_of prop_of
  item_again e p ready tag field there =
      let kind : IsListKind (kind_of p.value) = list_kind p.value ready.value in
      let is_kind_in : kind_in e ≡ kind_of p.value = ap (λ t. t % 0x10000) tag ∙ (let z : (number_of_key names p.key * 65536 + kind_of p.value) % 0x10000 ≡ kind_of p.value = omega (arith, kind.short) in z) in
      let is_id_in : id_in e ≡ number_of_key names p.key = ap (λ t. t / 0x10000) tag ∙ (let z : (number_of_key names p.key * 65536 + kind_of p.value) / 0x10000 ≡ number_of_key names p.key = omega (arith, kind.short) in z) in
      let no_object : (kind_in e == OBJECT) ≡ false = ap (λ k. k == OBJECT) is_kind_in ∙ kind.no_object in
      let no_tag : (e.tag == ATTACHED_OBJECT) ≡ false = ne_eqb e.tag ATTACHED_OBJECT (λ q. (let z : (e.tag % 0x10000 == OBJECT) ≡ true = ap (λ t. t % 0x10000 == OBJECT) q in cc)) in
      let value : value_of streams e ≡ Ok p.value = value_read streams e p.value ready.value is_kind_in field (subst (λ (t : ℕ). AllByRecursion (HasStream streams) (value_streams t p.value)) (sym tag) there) in
      cond-false (is_attachment part && (e.tag == ATTACHED_OBJECT)) _ _ (and_right (is_attachment part) (e.tag == ATTACHED_OBJECT) no_tag)
      ∙ (cond-false ((kind_in e == OBJECT) || is_passed_kind (kind_in e)) _ _ (or_from _ _ no_object (ap is_passed_kind is_kind_in ∙ not_passed (kind_of p.value) kind.known))
      ∙ ap (mapped kept) (
      check_from (is_kind (kind_in e)) UNKNOWN_TYPE e.place _ (ap is_kind is_kind_in ∙ kind.known)
      ∙ (bind_from (key_of (pairs_from 0 names) e) _ p.key (key_again e p.key ready.key is_id_in)
      ∙ bind_from (value_of streams e) _ p.value value)))

-- ---- the entries of a list

-- what an entry is written from: a tag, and eight bytes
abbrev Chunk : Type 0
Chunk = ℕ × List ℕ

abbrev chunk_bytes : Chunk → List ℕ
chunk_bytes c = le32 c.0 ++ (le32 FLAGS ++ c.1)

abbrev IsChunk : Chunk → Type 0
IsChunk c = (c.0 < 2 ^ 32) × (length c.1 ≡ 8)

abbrev Read : PropEntry → Chunk → Type 0
Read e c = (e.tag ≡ c.0) × (e.field ≡ c.1)

length-chunk : (c : Chunk) → IsChunk c → length (chunk_bytes c) ≡ 16
length-chunk c h = omega (arith, h.1)

length-chunks : (cs : List Chunk) → AllByRecursion IsChunk cs → length (flat_map chunk_bytes cs) ≡ 16 * length cs
length-chunks [] h = refl
length-chunks (c ∷ cs) h = omega (arith, length-append (chunk_bytes c) (flat_map chunk_bytes cs), length-chunk c h.0, length-chunks cs h.1)

one_read : (s : Stream) (at : ℕ) (c : Chunk) (rest : List ℕ) → IsChunk c → drop at s.bytes ≡ chunk_bytes c ++ rest → Read (prop_entry s at) c
unfolding u32_of
one_read s at c rest h e =
    let behind : drop (at + 8) s.bytes ≡ c.1 ++ rest = sym (drop-drop 8 at s.bytes) ∙ ap (drop 8) e in
    (ap number32 e ∙ number32-le32 c.0 ((le32 FLAGS ++ c.1) ++ rest) h.0, ap (take 8) behind ∙ take_at c.1 rest 8 h.1)

chunks_read : (s : Stream) (head k : ℕ) (cs : List Chunk) → AllByRecursion IsChunk cs → drop (head + 16 * k) s.bytes ≡ flat_map chunk_bytes cs → AllZip Read (map (λ j. prop_entry s (head + 16 * j)) (range_with_len k (length cs))) cs
chunks_read s head k [] h e = tt
chunks_read s head k (c ∷ cs) h e =
    let on : drop (head + 16 * (k + 1)) s.bytes ≡ flat_map chunk_bytes cs =
    ap (λ n. drop n s.bytes) (let z : head + 16 * (k + 1) ≡ head + 16 * k + 16 = omega arith in z)
    ∙ (sym (drop-drop 16 (head + 16 * k) s.bytes) ∙ (ap (drop 16) e ∙ drop_at (chunk_bytes c) (flat_map chunk_bytes cs) 16 (length-chunk c h.0))) in
    (one_read s (head + 16 * k) c (flat_map chunk_bytes cs) h.0 e, chunks_read s head (k + 1) cs h.1 on)

entries_read : (part : Part) (s : Stream) (head : List ℕ) (cs : List Chunk) → AllByRecursion IsChunk cs → length head ≡ head_size part → s.bytes ≡ head ++ flat_map chunk_bytes cs → AllZip Read (prop_entries part s) cs
entries_read part s head cs h long e =
    let all : length s.bytes ≡ head_size part + 16 * length cs = ap length e ∙ (length-append head (flat_map chunk_bytes cs) ∙ (λ i. long i + length-chunks cs h i)) in
    let count : (length s.bytes - head_size part) / 16 ≡ length cs = omega (arith, all) in
    let front : drop (head_size part + 16 * 0) s.bytes ≡ flat_map chunk_bytes cs = ap (λ n. drop n s.bytes) (let z : head_size part + 16 * 0 ≡ head_size part = omega arith in z) ∙ (ap (drop (head_size part)) e ∙ drop_at head (flat_map chunk_bytes cs) (head_size part) long) in
    subst (λ n. AllZip Read (map (λ j. prop_entry s (head_size part + 16 * j)) (range_with_len 0 n)) cs) (sym count) (chunks_read s (head_size part) 0 cs h front)

-- ---- lists

-- what stands in a list that is written: a property, or the entry of an embedded message
data Piece : Type 0 where
  of_prop : (p : Prop) → Piece
  of_object : (word : ℕ) → Piece

abbrev piece_prop : Piece → Option Prop
piece_prop (of_prop p) = Some p
piece_prop (of_object word) = None

abbrev chunk_of : List Name → Piece → Chunk
chunk_of names (of_prop p) = (tag_of names p, value_field p.value)
chunk_of names (of_object word) = (OBJECT_TAG, le32 0xFFFFFFFF ++ le32 word)

abbrev piece_item : Piece → ℕ → Item
piece_item (of_prop p) place = kept p
piece_item (of_object word) place = embedding place

items_for : List PropEntry → List Piece → List Item
items_for [] ps = []
items_for (e ∷ es) [] = []
items_for (e ∷ es) (piece ∷ ps) = piece_item piece e.place ∷ items_for es ps

-- a piece that is written in this part, whose streams are there
PieceReady : Part → List Name → Streams → Piece → Type 0
PieceReady part names streams (of_prop p) = Ready names p × AllByRecursion (HasStream streams) (value_streams (tag_of names p) p.value)
PieceReady part names streams (of_object word) = is_attachment part ≡ true

module _ (part : Part) (names : List Name) (streams : Streams) where
  piece_again : (e : PropEntry) (piece : Piece) → PieceReady part names streams piece → Read e (chunk_of names piece) → item_of part (pairs_from 0 names) streams e ≡ Ok (piece_item piece e.place)
  unfolding item_of PieceReady
  piece_again e (of_prop p) h r = item_again part names streams e p h.0 r.0 r.1 h.1
  piece_again e (of_object word) h r = cond-true (is_attachment part && (e.tag == ATTACHED_OBJECT)) _ _ (and_from (is_attachment part) (e.tag == ATTACHED_OBJECT) h (eq-eqb e.tag ATTACHED_OBJECT r.0))

  all_items : (es : List PropEntry) (ps : List Piece) → AllByRecursion (PieceReady part names streams) ps → AllZip Read es (map (chunk_of names) ps) → AllZip (λ e x. item_of part (pairs_from 0 names) streams e ≡ Ok x) es (items_for es ps)
  unfolding items_for
  all_items [] [] h r = tt
  all_items [] (p ∷ ps) h r = absurd r
  all_items (e ∷ es) [] h r = absurd r
  all_items (e ∷ es) (p ∷ ps) h r = (piece_again e p h.0 r.0, all_items es ps h.1 r.1)

  items_props : (es : List PropEntry) (ps : List Piece) → AllZip Read es (map (chunk_of names) ps) → filter_map prop_in (items_for es ps) ≡ filter_map piece_prop ps
  unfolding items_for
  items_props [] [] r = refl
  items_props [] (p ∷ ps) r = absurd r
  items_props (e ∷ es) [] r = absurd r
  items_props (e ∷ es) (of_prop p ∷ ps) r = ap (λ (l : List Prop). p ∷ l) (items_props es ps r.1)
  items_props (e ∷ es) (of_object word ∷ ps) r = items_props es ps r.1

  items_passed : (es : List PropEntry) (ps : List Piece) → filter_map passed_in (items_for es ps) ≡ []
  unfolding items_for
  items_passed [] ps = refl
  items_passed (e ∷ es) [] = refl
  items_passed (e ∷ es) (of_prop p ∷ ps) = items_passed es ps
  items_passed (e ∷ es) (of_object word ∷ ps) = items_passed es ps

  no_message : (es : List PropEntry) (props : List Prop) → filter_map embedding_in (items_for es (map of_prop props)) ≡ []
  unfolding items_for
  no_message [] props = refl
  no_message (e ∷ es) [] = refl
  no_message (e ∷ es) (p ∷ props) = no_message es props

  -- the place of the entry of a message, behind some properties and before others
  one_message : (word : ℕ) (es : List PropEntry) (before after : List Prop) → AllZip Read es (map (chunk_of names) (map of_prop before ++ of_object word ∷ map of_prop after)) → (place : ℕ) × (filter_map embedding_in (items_for es (map of_prop before ++ of_object word ∷ map of_prop after)) ≡ place ∷ [])
  unfolding items_for
  one_message word [] [] after r = absurd r
  one_message word [] (p ∷ before) after r = absurd r
  one_message word (e ∷ es) [] after r = (e.place, ap (λ (l : List ℕ). e.place ∷ l) (no_message es after))
  one_message word (e ∷ es) (p ∷ before) after r = one_message word es before after r.1

-- ---- a whole list

abbrev pieces_of : List Prop → Option ℕ → List Piece
pieces_of props None = map of_prop props
pieces_of props (Some word) = map of_prop (filter comes_before_object props) ++ of_object word ∷ map of_prop (filter (λ p. not (comes_before_object p)) props)

chunked : (names : List Name) (props : List Prop) → flat_map (entry_bytes names) props ≡ flat_map chunk_bytes (map (chunk_of names) (map of_prop props))
chunked names [] = refl
chunked names (p ∷ props) = ap (λ (z : List ℕ). entry_bytes names p ++ z) (chunked names props)

entries_chunked : (names : List Name) (props : List Prop) (object : Option ℕ) → entries_bytes names props object ≡ flat_map chunk_bytes (map (chunk_of names) (pieces_of props object))
entries_chunked names props None = chunked names props
entries_chunked names props (Some word) =
    let before = filter comes_before_object props in
    let after = filter (λ p. not (comes_before_object p)) props in
    (λ i. chunked names before i ++ (object_entry word ++ chunked names after i))
    ∙ sym (ap (flat_map chunk_bytes) (map-append (chunk_of names) (map of_prop before) (of_object word ∷ map of_prop after))
    ∙ flat_map-append chunk_bytes (map (chunk_of names) (map of_prop before)) (map (chunk_of names) (of_object word ∷ map of_prop after)))

abbrev FieldLong : ℕ → ℕ → Type 0
FieldLong kind w = (bits : ℕ) → length (le_bytes w bits ++ replicate (8 - w) 0) ≡ 8

length-field : (v : Value) → IsValue v → length (value_field v) ≡ 8
length-field (number kind bits) h = among_rows FieldLong number_widths kind
    ((λ b. refl), ((λ b. refl), ((λ b. refl), ((λ b. refl), ((λ b. refl), ((λ b. refl), ((λ b. refl), ((λ b. refl), ((λ b. refl), ((λ b. refl), tt)))))))))) h.1 bits
length-field (guid set) h = refl
length-field (bytes kind x) h = refl
length-field (numbers kind list) h = refl
length-field (guids list) h = refl
length-field (parts kind list) h = refl

prop_chunk : (names : List Name) (p : Prop) → Ready names p → IsChunk (chunk_of names (of_prop p))
prop_chunk names p h = (let k = (list_kind p.value h.value).short in let n = h.number in omega arith, length-field p.value h.value)

-- what holds of each piece
every_piece : (P : Piece → Type 0) (props : List Prop) → AllByRecursion (λ p. P (of_prop p)) props → AllByRecursion P (map of_prop props)
every_piece P [] h = tt
every_piece P (p ∷ props) h = (h.0, every_piece P props h.1)

every_join : (P : Piece → Type 0) (one other : List Piece) → AllByRecursion P one → AllByRecursion P other → AllByRecursion P (one ++ other)
every_join P [] other h g = g
every_join P (p ∷ one) other h g = (h.0, every_join P one other h.1 g)

every_kept : (P : Prop → Type 0) (test : Prop → Bool) (props : List Prop) → AllByRecursion P props → AllByRecursion P (filter test props)
every_kept P test [] h = tt
every_kept P test (p ∷ props) h = by (every_kept P test props h.1) (test p)
  where
    by : AllByRecursion P (filter test props) → (b : Bool) → AllByRecursion P (cond b (p ∷ filter test props) (filter test props))
    by rest true = (h.0, rest)
    by rest false = rest

every_of_list : (P : Piece → Type 0) (props : List Prop) (object : Option ℕ) → AllByRecursion (λ p. P (of_prop p)) props → ((word : ℕ) → object ≡ Some word → P (of_object word)) → AllByRecursion P (pieces_of props object)
every_of_list P props None h m = every_piece P props h
every_of_list P props (Some word) h m =
    every_join P (map of_prop (filter comes_before_object props)) (of_object word ∷ map of_prop (filter (λ p. not (comes_before_object p)) props))
    (every_piece P (filter comes_before_object props) (every_kept (λ p. P (of_prop p)) comes_before_object props h))
    (m word refl, every_piece P (filter (λ p. not (comes_before_object p)) props) (every_kept (λ p. P (of_prop p)) (λ p. not (comes_before_object p)) props h))

every_chunk : (names : List Name) (ps : List Piece) → AllByRecursion (λ p. IsChunk (chunk_of names p)) ps → AllByRecursion IsChunk (map (chunk_of names) ps)
every_chunk names [] h = tt
every_chunk names (p ∷ ps) h = (h.0, every_chunk names ps h.1)

-- the properties of the pieces are those of the list
props_of_pieces : (props : List Prop) → filter_map piece_prop (map of_prop props) ≡ props
props_of_pieces [] = refl
props_of_pieces (p ∷ props) = ap (λ (l : List Prop). p ∷ l) (props_of_pieces props)

parted : (test : Prop → Bool) (props : List Prop) → IsPermutation (filter test props ++ filter (λ p. not (test p)) props) props
parted test [] = IsPermutation-refl []
parted test (p ∷ props) = by (parted test props) (test p)
  where
    by : IsPermutation (filter test props ++ filter (λ q. not (test q)) props) props → (b : Bool) → IsPermutation (cond b (p ∷ filter test props) (filter test props) ++ cond (not b) (p ∷ filter (λ q. not (test q)) props) (filter (λ q. not (test q)) props)) (p ∷ props)
    by rest true = IsPermutation-cons p (filter test props ++ filter (λ q. not (test q)) props) props rest
    by rest false = IsPermutation-trans (filter test props ++ p ∷ filter (λ q. not (test q)) props) (p ∷ (filter test props ++ filter (λ q. not (test q)) props)) (p ∷ props) (IsPermutation-middle (filter test props) p (filter (λ q. not (test q)) props)) (IsPermutation-cons p (filter test props ++ filter (λ q. not (test q)) props) props rest)

pieces_permute : (props : List Prop) (object : Option ℕ) → IsPermutation (filter_map piece_prop (pieces_of props object)) props
pieces_permute props None = subst (λ (l : List Prop). IsPermutation l props) (sym (props_of_pieces props)) (IsPermutation-refl props)
pieces_permute props (Some word) =
    let before = filter comes_before_object props in
    let after = filter (λ p. not (comes_before_object p)) props in
    let same : filter_map piece_prop (pieces_of props (Some word)) ≡ before ++ after = filter_map-append piece_prop (map of_prop before) (of_object word ∷ map of_prop after) ∙ (λ i. props_of_pieces before i ++ props_of_pieces after i) in
    subst (λ (l : List Prop). IsPermutation l props) (sym same) (parted comes_before_object props)

-- each property of a list is ready, and its streams are there
pub ready : (names : List Name) (p : Prop) → length names ≤ 32000 → IsProp p → ((name : Name) → p.key ≡ named name → Contains names name) → Ready names p
ready names p few h known = record { value = h.value; number = number_of p.key h.key known; key = key_of_list p.key h.key known }
  where
    number_of : (k : Key) → IsKey k → ((name : Name) → k ≡ named name → Contains names name) → number_of_key names k < 65536
    number_of (id n) h known = let lt : n < 0x8000 = h in omega arith
    number_of (named name) h known = (has_id names name few (known name refl)).high

    key_of_list : (k : Key) → IsKey k → ((name : Name) → k ≡ named name → Contains names name) → IsKeyOf names k
    key_of_list (id n) h known = h
    key_of_list (named name) h known = has_id names name few (known name refl)

split_values : (names : List Name) (streams : Streams) (one : List (List ℕ × List ℕ)) (props : List Prop) → AllByRecursion (HasStream streams) (one ++ props_streams names props) → AllByRecursion (HasStream streams) one × AllByRecursion (HasStream streams) (props_streams names props)
split_values names streams [] props h = (tt, h)
split_values names streams (x ∷ one) props h = let rest = split_values names streams one props h.1 in ((h.0, rest.0), rest.1)

every_ready : (part : Part) (names : List Name) (streams : Streams) (props : List Prop) → AllByRecursion (Ready names) props → AllByRecursion (HasStream streams) (props_streams names props) → AllByRecursion (λ p. PieceReady part names streams (of_prop p)) props
unfolding PieceReady
every_ready part names streams [] h v = tt
every_ready part names streams (p ∷ props) h v =
    let split = split_values names streams (value_streams (tag_of names p) p.value) props v in
    ((h.0, split.0), every_ready part names streams props h.1 split.1)

every_prop_chunk : (names : List Name) (props : List Prop) → AllByRecursion (Ready names) props → AllByRecursion (λ p. IsChunk (chunk_of names (of_prop p))) props
every_prop_chunk names [] h = tt
every_prop_chunk names (p ∷ props) h = (prop_chunk names p h.0, every_prop_chunk names props h.1)

message_ready : (part : Part) (names : List Name) (streams : Streams) (word : ℕ) → is_attachment part ≡ true → PieceReady part names streams (of_object word)
unfolding PieceReady
message_ready part names streams word h = h

-- the entry of an object is there where it is written
inner_place : (names : List Name) (es : List PropEntry) (props : List Prop) (object : Option ℕ) → AllZip Read es (map (chunk_of names) (pieces_of props object)) → (o : Option ℕ) × ((is_some o ≡ is_some object) × (filter_map embedding_in (items_for es (pieces_of props object)) ≡ option_list o))
inner_place names es props None r = (None, (refl, no_message top names (λ name. None) es props))
inner_place names es props (Some word) r = let (place, is) = one_message top names (λ name. None) word es (filter comes_before_object props) (filter (λ p. not (comes_before_object p)) props) r in (Some place, (refl, is))

pub list_read : (part : Part) (names : List Name) (place : ℕ) (streams : Streams) (props : List Prop) (object : Option ℕ) → length names ≤ 32000 → IsPropList props → NamesAmong names props → HasList part names streams props object → IsReadAs (props_of part (pairs_from 0 names) place streams) props object
list_read part names place streams props object few good known h =
    let each : AllByRecursion (Ready names) props = every_from (Ready names) props (λ p c. ready names p few (let (k, lt, e) = c in subst IsProp e (good.each k p lt)) (λ name e. known p name c e)) in
    let pieces : List Piece = pieces_of props object in
    let all_ready : AllByRecursion (PieceReady part names streams) pieces = every_of_list (PieceReady part names streams) props object (every_ready part names streams props each h.values) (λ word e. message_ready part names streams word (h.inside (ap is_some e))) in
    let chunks : AllByRecursion IsChunk (map (chunk_of names) pieces) = every_chunk names pieces (every_of_list (λ p. IsChunk (chunk_of names p)) props object (every_prop_chunk names props each) (λ word e. (omega arith, refl))) in
    let f : Found = h.list.f in
    let bytes_are : f.stream.bytes ≡ h.head ++ flat_map chunk_bytes (map (chunk_of names) pieces) = h.list.bytes ∙ ap (λ (z : List ℕ). h.head ++ z) (entries_chunked names props object) in
    let read : AllZip Read (prop_entries part f.stream) (map (chunk_of names) pieces) = entries_read part f.stream h.head (map (chunk_of names) pieces) chunks h.long bytes_are in
    let items : List Item = items_for (prop_entries part f.stream) pieces in
    let (o, (some, places)) = inner_place names (prop_entries part f.stream) props object read in
    let section : Section = record { props = props; embedded = o; passed = [] } in
    let once : IsPermutation (filter_map prop_in items) props = subst (λ (l : List Prop). IsPermutation l props) (sym (items_props part names streams (prop_entries part f.stream) pieces read)) (pieces_permute props object) in
    let long : head_size part ≤ length f.stream.bytes = omega (arith, ap length h.list.bytes, length-append h.head (entries_bytes names props object), h.long) in
    let meant : MsgProps part (pairs_from 0 names) streams section = record {
      f = f;
      there = h.list.there;
      headed = long;
      items = items;
      each = all_items part names streams (prop_entries part f.stream) pieces all_ready read;
      once = once;
      sorted = good.sorted;
      embedding = places;
      passed = sym (items_passed part names streams (prop_entries part f.stream) pieces);
    } in
    record { section = section; read = props_of-only part (pairs_from 0 names) streams place section meant; props_are = refl; embedded = some; passed = refl }
