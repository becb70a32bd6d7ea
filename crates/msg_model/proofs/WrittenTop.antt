-- The files that are written for a message mean that message.
use Rattle.std.proofs.Common.{◌≡◌, ℕ, zero, suc, ◌+◌, ◌*◌, ◌<◌, ◌≤◌, ◌^◌, Bool, true, false, cond, List, [], ◌∷◌, ◌++◌, length, map, Ok, refl, sym, ap, subst, ◌∙◌, arith}
use Rattle.std.specs.Prelude.{Contains, All, filter}
use Rattle.std.specs.List.{AllByRecursion, IsDistinct, flat_map, range_with_len}
use Rattle.carrier_model.specs.FileTrees.{FileTree, NO_CLASS, sorted}
use Rattle.carrier_model.specs.Files.{Files}
use Rattle.carrier_model.specs.LayoutHolds.{HoldsLaidOut}
use Rattle.carrier_model.specs.Stores.{bare}
use Rattle.carrier_model.specs.Lookups.{same_name, stream_named}
use Rattle.carrier_model.specs.Keys.{Name, Key, id, named, name_cmp, IsName, IsKey}
use Rattle.carrier_model.specs.Values.{Prop, IsProp}
use Rattle.carrier_model.specs.Trees.{HasUnits, KeyHasUnits, IsPropList, HasPropLists, HavePropLists, BodyHasPropLists, IsTree}
use Rattle.carrier_model.specs.Tree.{Message, message, Attachments, no_more, attached, Body, nothing, embedded, stored, names_in, names_in_props, names_below, names_in_body, name_in, names_of, GREATEST_LEVEL}
use Rattle.carrier_model.specs.Meanings.{Passed, Meaning}
use Rattle.msg_model.specs.NameMap.{pairs_of, pairs_from}
use Rattle.msg_model.specs.MsgValues.{Streams}
use Rattle.msg_model.specs.MsgProps.{top}
use Rattle.msg_model.specs.StreamNames.{NAME_MAP, value_name}
use Rattle.msg_model.specs.MsgMessage.{streams_of, stream_or_empty, name_streams_in, name_streams, files_meaning, MsgCarrier, MsgFault}
use Rattle.msg_model.specs.WrittenNames.{name_map_files, hash_stream, hash_streams, has_bytes, sets_of, entries_from, text_stream}
use Rattle.msg_model.specs.WrittenMsg.{files_of, msg_in}
use Rattle.msg_model.specs.ReadBack.{HasStream, AreNames, HasNameMap, HasFewParts}
use Rattle.carrier_model.proofs.Orders.{name_exact}
use Rattle.carrier_model.specs.Layout.{MESSAGE_CLASS}
use Rattle.carrier_model.specs.Trail.{Fault}
use Rattle.msg_model.proofs.MsgMessage.{files_meaning-sound, carriers_exact}
use Rattle.carrier_model.proofs.Turns.{bind_from}
use Rattle.carrier_model.proofs.SortedElements.{every_from, every_at, every_elements, all_elements}
use Rattle.msg_model.proofs.WrittenNames.{names_read}
use Rattle.msg_model.proofs.WrittenFileNames.{every_append, differ_by, tag_in, tag_of_value}
use Rattle.carrier_model.proofs.FoundChildren.{Entry, file, folder, entries, entry_name, FoundAs, found_as, Apart, storage_found}
use Rattle.msg_model.proofs.WrittenChildren.{stream_found}
use Rattle.msg_model.proofs.WrittenTrees
use Rattle.msg_model.proofs.WrittenMessages as messages

-- ---- the names of a message

NameOk : Name → Type 0
NameOk name = IsName name × HasUnits name

abbrev KeyOk : Key → Type 0
KeyOk k = IsKey k × KeyHasUnits k

key_names : (k : Key) → KeyOk k → AllByRecursion NameOk (name_in k)
unfolding NameOk
key_names (id n) h = tt
key_names (named name) h = ((h.0, h.1), tt)

keys_names : (props : List Prop) → AllByRecursion (λ (p : Prop). KeyOk p.key) props → AllByRecursion NameOk (names_in_props props)
keys_names [] h = tt
keys_names (p ∷ props) h = every_append NameOk (name_in p.key) (names_in_props props) (key_names p.key h.0) (keys_names props h.1)

props_names : (props : List Prop) → IsPropList props → AllByRecursion NameOk (names_in_props props)
props_names props h = keys_names props (every_from (λ (p : Prop). KeyOk p.key) props (λ p c. let (k, lt, e) = c in ((subst IsProp e (h.each k p lt)).key, subst (λ (q : Prop). KeyHasUnits q.key) e (h.units k p lt))))

lists_names : (rs : List (List Prop)) → All IsPropList rs → AllByRecursion NameOk (flat_map names_in_props rs)
lists_names [] h = tt
lists_names (r ∷ rs) h = every_append NameOk (names_in_props r) (flat_map names_in_props rs) (props_names r (h 0 r (omega arith))) (lists_names rs (λ k d lt. h (suc k) d (omega arith)))

mutual
  message_names : (t : Message) → HasPropLists t → AllByRecursion NameOk (names_in t)
  message_names (message props rs all) h = every_append NameOk (names_in_props props ++ flat_map names_in_props rs) (names_below all) (every_append NameOk (names_in_props props) (flat_map names_in_props rs) (props_names props h.0) (lists_names rs h.1.0)) (below_names all h.1.1)

  below_names : (all : Attachments) → HavePropLists all → AllByRecursion NameOk (names_below all)
  below_names no_more h = tt
  below_names (attached props body others) h = every_append NameOk (names_in_props props ++ names_in_body body) (names_below others) (every_append NameOk (names_in_props props) (names_in_body body) (props_names props h.0) (body_names body h.1.0)) (below_names others h.1.1)

  body_names : (body : Body) → BodyHasPropLists body → AllByRecursion NameOk (names_in_body body)
  body_names nothing h = tt
  body_names (embedded inner) h = message_names inner h
  body_names (stored store) h = tt

are_names : (t : Message) → HasPropLists t → length (names_of t) ≤ 32000 → AreNames (names_of t)
unfolding NameOk
are_names t h few =
    let good : AllByRecursion NameOk (names_of t) = every_elements name_cmp NameOk (names_in t) [] tt (message_names t h) in
    record { few = few; forms = λ name c. (every_at NameOk (names_of t) name good c).0; units = λ name c. (every_at NameOk (names_of t) name good c).1 }

-- ---- the storage of the names

abbrev hash_tag : ℕ → ℕ
hash_tag b = (0x1000 + b) * 65536 + 0x0102

abbrev kept_hashes : List Name → ℕ → ℕ → List (List ℕ × List ℕ)
kept_hashes names b n = filter has_bytes (map (hash_stream names) (range_with_len b n))

value_apart : (s t : ℕ) → s < 2 ^ 32 → t < 2 ^ 32 → (s ≡ t → ⊥) → same_name (value_name s) (value_name t) ≡ false
value_apart s t a b other = differ_by tag_in (value_name s) (value_name t) (λ e. other (sym (tag_of_value s a) ∙ (e ∙ tag_of_value t b)))

-- a tag below those of the hash streams from b on
hash_above : (names : List Name) (tag b n : ℕ) → tag < hash_tag b → b + n ≤ 31 → AllByRecursion (λ m. same_name (value_name tag) m ≡ false) (map (λ p. p.0) (kept_hashes names b n))
hash_above names tag b zero lt few = tt
hash_above names tag b (suc n) lt few = by (has_bytes (hash_stream names b)) (hash_above names tag (b + 1) n (omega (arith, lt)) (omega (arith, few)))
  where
    by : (k : Bool) → AllByRecursion (λ m. same_name (value_name tag) m ≡ false) (map (λ p. p.0) (kept_hashes names (b + 1) n)) → AllByRecursion (λ m. same_name (value_name tag) m ≡ false) (map (λ p. p.0) (cond k (hash_stream names b ∷ kept_hashes names (b + 1) n) (kept_hashes names (b + 1) n)))
    by true rest = (value_apart tag (hash_tag b) (omega (arith, lt, few)) (omega (arith, few)) (λ e. omega (arith, e, lt)), rest)
    by false rest = rest

hash_apart : (names : List Name) (b n : ℕ) → b + n ≤ 31 → IsDistinct same_name (map (λ p. p.0) (kept_hashes names b n))
unfolding IsDistinct
hash_apart names b zero few = tt
hash_apart names b (suc n) few = by (has_bytes (hash_stream names b)) (hash_apart names (b + 1) n (omega (arith, few)))
  where
    by : (k : Bool) → IsDistinct same_name (map (λ p. p.0) (kept_hashes names (b + 1) n)) → IsDistinct same_name (map (λ p. p.0) (cond k (hash_stream names b ∷ kept_hashes names (b + 1) n) (kept_hashes names (b + 1) n)))
    by true rest = (hash_above names (hash_tag b) (b + 1) n (omega arith) (omega (arith, few)), rest)
    by false rest = rest

-- the streams of the name map
abbrev pub map_streams : List Name → List (List ℕ × List ℕ)
map_streams names =
    (value_name 0x00020102, flat_map (λ set. set) (sets_of names))
    ∷ (value_name 0x00030102, entries_from (sets_of names) 0 0 names)
    ∷ (value_name 0x00040102, text_stream names)
    ∷ hash_streams names

pub map_apart : (names : List Name) → Apart (name_map_files names)
unfolding IsDistinct
map_apart names =
    let hashes : List (List ℕ) = map (λ p. p.0) (kept_hashes names 0 31) in
    let all : map entry_name (entries (name_map_files names)) ≡ map (λ p. p.0) (map_streams names) = ap (map entry_name) (WrittenTrees.entries_streams (map_streams names)) ∙ WrittenTrees.names_of_files (map_streams names) in
    subst (IsDistinct same_name) (sym all) (
      (value_apart 0x00020102 0x00030102 (omega arith) (omega arith) (λ e. omega (arith, e)), (value_apart 0x00020102 0x00040102 (omega arith) (omega arith) (λ e. omega (arith, e)), hash_above names 0x00020102 0 31 (omega arith) (omega arith))),
      (
        (value_apart 0x00030102 0x00040102 (omega arith) (omega arith) (λ e. omega (arith, e)), hash_above names 0x00030102 0 31 (omega arith) (omega arith)),
        (hash_above names 0x00040102 0 31 (omega arith) (omega arith), hash_apart names 0 31 (omega arith)),
      ),
    )

-- the bytes of a stream that is there
bytes_there : (streams : Streams) (one : List ℕ × List ℕ) → HasStream streams one → (stream_or_empty (streams one.0)).bytes ≡ one.1
bytes_there streams one h = ap (λ o. (stream_or_empty o).bytes) h.there ∙ h.bytes

map_there : (names : List Name) (root : Files) (f : FileTree) → FoundAs root.children f → Apart f → Contains (entries f) (folder NAME_MAP NO_CLASS (name_map_files names)) → HasNameMap (name_streams root) names
map_there names root f h d put =
    let st = storage_found root.children f h d NAME_MAP NO_CLASS (name_map_files names) put in
    let g : FoundAs st.s.children (name_map_files names) = found_as st.s.children (name_map_files names) st.holds in
    let e = WrittenTrees.entries_streams (map_streams names) in
    let there : (k : ℕ) (one : List ℕ × List ℕ) → Contains (map_streams names) one → HasStream (stream_named st.s.children) one = λ k one c. stream_found st.s.children (name_map_files names) g (map_apart names) one.0 one.1 (subst (λ (l : List Entry). Contains l (file one.0 one.1)) (sym e) (WrittenTrees.in_map WrittenTrees.file_of (map_streams names) one c)) in
    let streams : name_streams root ≡ name_streams_in (stream_named st.s.children) = ap (λ o. name_streams_in (streams_of o)) st.there in
    subst (λ s. HasNameMap s names) (sym streams) (record {
      guids = bytes_there (stream_named st.s.children) (value_name 0x00020102, flat_map (λ set. set) (sets_of names)) (there 0 (value_name 0x00020102, flat_map (λ set. set) (sets_of names)) (0, omega arith, refl));
      entries = bytes_there (stream_named st.s.children) (value_name 0x00030102, entries_from (sets_of names) 0 0 names) (there 1 (value_name 0x00030102, entries_from (sets_of names) 0 0 names) (1, omega arith, refl));
      texts = bytes_there (stream_named st.s.children) (value_name 0x00040102, text_stream names) (there 2 (value_name 0x00040102, text_stream names) (2, omega arith, refl));
    })

pub written_read : (t : Message) (root : Files) → IsTree t → length (names_of t) ≤ 32000 → HasFewParts t → bare root.children ≡ sorted (files_of t) → files_meaning root ≡ Ok (record { message = t; passed = [] })
unfolding files_meaning
written_read t root tree few parts e =
    let names : List Name = names_of t in
    let f : FileTree = files_of t in
    let h : FoundAs root.children f = found_as root.children f e in
    let fine : messages.Fine names few GREATEST_LEVEL t = record { levels = tree.levels; lists = tree.lists; parts = parts; known = λ name c. all_elements name_exact (names_in t) [] name c } in
    let d : Apart f = root_apart t few fine in
    let map_of : HasNameMap (name_streams root) names = map_there names root f h d (zero, omega arith, refl) in
    bind_from (pairs_of (name_streams root)) _ (pairs_from 0 names) (names_read (name_streams root) names (are_names t tree.lists few) map_of)
    ∙ messages.message_read names few GREATEST_LEVEL top true t root f (folder NAME_MAP NO_CLASS (name_map_files names) ∷ []) (λ i j. refl) fine h d refl refl refl
  where
    root_apart : (u : Message) (some : length (names_of u) ≤ 32000) → messages.Fine (names_of u) some GREATEST_LEVEL u → Apart (files_of u)
    root_apart (message props rs all) some fine =
        let names : List Name = names_of (message props rs all) in
        WrittenTrees.top_apart names NO_CLASS (name_map_files names) props rs all
        (WrittenTrees.all_ready names props some fine.lists.0 (messages.among names props (messages.own_known names props rs all fine.known))) (fine.lists.0).sorted fine.parts.0 fine.parts.1

-- ---- the file

pub canonical_carries : (z : ℕ) (t : Message) → IsTree t → length (names_of t) ≤ 32000 → HasFewParts t → HoldsLaidOut z MESSAGE_CLASS (files_of t) → MsgCarrier (msg_in z t) t []
canonical_carries z t tree few parts h = record {
  root = h.found;
  holds = h.holds;
  means = files_meaning-sound h.found (record { message = t; passed = [] }) (written_read t h.found tree few parts h.same);
}

pub canonical_alone : (z : ℕ) (t other : Message) (passed : List Passed) → IsTree t → length (names_of t) ≤ 32000 → HasFewParts t → HoldsLaidOut z MESSAGE_CLASS (files_of t) → length (msg_in z t) ≤ 268435456 → MsgCarrier (msg_in z t) other passed → (other ≡ t) × (passed ≡ [])
canonical_alone z t other passed tree few parts h short m =
    let same : record { message = other; passed = passed } ≡ record { message = t; passed = [] } = (carriers_exact (msg_in z t) short).one (record { message = t; passed = [] }) (record { message = other; passed = passed }) (canonical_carries z t tree few parts h) m in
    (ap (λ (x : Meaning). x.message) same, ap (λ (x : Meaning). x.passed) same)

pub canonical_faultless : (z : ℕ) (t : Message) (g : Fault) → IsTree t → length (names_of t) ≤ 32000 → HasFewParts t → HoldsLaidOut z MESSAGE_CLASS (files_of t) → length (msg_in z t) ≤ 268435456 → MsgFault (msg_in z t) g → ⊥
canonical_faultless z t g tree few parts h short e = (carriers_exact (msg_in z t) short).apart (record { message = t; passed = [] }) g (canonical_carries z t tree few parts h) e
