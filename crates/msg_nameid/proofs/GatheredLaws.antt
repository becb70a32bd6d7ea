-- What is gathered name by name is what the definitions say of all names.
use Rattle.std.proofs.Common.{◌≡◌, ℕ, suc, ◌+◌, ◌*◌, ◌<◌, Bool, true, false, cond, eqb, List, [], ◌∷◌, ◌++◌, length, map, get_or, refl, sym, ap, ◌∙◌, append_assoc, arith}
use Rattle.std.specs.Prelude.{slice_set, filter, bit_xor, ◌%◌, Result, Ok, Err, OnOk}
use Rattle.std.specs.List.{flat_map, range_with_len}
use Rattle.std.proofs.lemmas.Bool.{eqb-true, eq-eqb}
use Rattle.std.proofs.lemmas.List.{append-nil, length-append, length-set, get_or-set_same, get_or-set_other, get_or-replicate}
use Rattle.carrier_model.specs.Bytes.{le32}
use Rattle.carrier_model.specs.FileTrees.{FileTree, storage, no_file, streams_from, NO_CLASS}
use Rattle.carrier_model.specs.Keys.{Name, set_of, name_cmp}
use Rattle.carrier_model.specs.Sorted.{IsStrictlySorted}
use Rattle.cfb_list.specs.Grown.{grown}
use Rattle.cfb_list.specs.Listed.{Listed}
use Rattle.msg_model.specs.StreamNames.{NAME_MAP, GUID_STREAM, ENTRY_STREAM, TEXT_STREAM, value_name}
use Rattle.msg_model.specs.WrittenNames.{sets_of, set_word, kind_bit, text_of, text_stream, label_number, entries_from, hash_number, bucket_entries, hash_stream, hash_streams, has_bytes, name_map_files}
use Rattle.msg_nameid.specs.Gathered.{Gathered, nothing, last_word, with_hash, with_name, gathered, named_from, hash_files, files_gathered}
use Rattle.msg_nameid.proofs.SetLists.{Fit, fit_next, fit_none, index_is, sets_are, sets_grow}

-- the sets after all names
abbrev all_sets : Gathered → ℕ → List Name → List (List ℕ)
all_sets g k ns = (gathered g k ns).sets

-- a name's word as it is added is its word among all sets
word_is : (g : Gathered) (k : ℕ) (n : Name) (ns : List Name) → Fit g.sets (n ∷ ns) → last_word (with_name g k n).sets n ≡ set_word (all_sets g k (n ∷ ns)) n
word_is g k n ns f =
    let next = fit_next g.sets n ns f in
    let (more, e) = sets_grow (with_name g k n) (k + 1) ns in
    ap (λ i. i * 2 + kind_bit n) (sym (index_is g.sets more (set_of n) next.rising)) ∙ sym (ap (λ (s : List (List ℕ)). set_word s n) e)

-- ---- entries and texts

entries_step : (e a b c : List ℕ) → (e ++ (a ++ b)) ++ c ≡ e ++ (a ++ (b ++ c))
entries_step e a b c = append_assoc e (a ++ b) c ∙ ap (λ l. e ++ l) (append_assoc a b c)

entries_are : (g : Gathered) (k : ℕ) (ns : List Name) → Fit g.sets ns → (gathered g k ns).entries ≡ g.entries ++ entries_from (all_sets g k ns) k (length g.texts) ns
entries_are g k [] f = sym (append-nil g.entries)
entries_are g k (n ∷ ns) f =
    let next : Gathered = with_name g k n in
    let all : List (List ℕ) = all_sets next (k + 1) ns in
    let place : length next.texts ≡ length g.texts + length (text_of n) = length-append g.texts (text_of n) in
    let label : List ℕ = le32 (label_number (length g.texts) n) in
    let rest : ℕ → List ℕ = λ p. entries_from all (k + 1) p ns in
    entries_are next (k + 1) ns (fit_next g.sets n ns f)
    ∙ (ap (λ p. next.entries ++ rest p) place
    ∙ (ap (λ w. (g.entries ++ (label ++ le32 (k * 65536 + w))) ++ rest (length g.texts + length (text_of n))) (word_is g k n ns f)
    ∙ entries_step g.entries label (le32 (k * 65536 + set_word all n)) (rest (length g.texts + length (text_of n)))))

texts_are : (g : Gathered) (k : ℕ) (ns : List Name) → (gathered g k ns).texts ≡ g.texts ++ text_stream ns
texts_are g k [] = sym (append-nil g.texts)
texts_are g k (n ∷ ns) = texts_are (with_name g k n) (k + 1) ns ∙ append_assoc g.texts (text_of n) (text_stream ns)

-- ---- hash streams

long_with : (hashes : List (List ℕ)) (b : ℕ) (bytes : List ℕ) → length (with_hash hashes b bytes) ≡ length hashes
long_with hashes b bytes = length-set hashes b (get_or hashes b [] ++ bytes)

hashes_long : (g : Gathered) (k : ℕ) (ns : List Name) → length (gathered g k ns).hashes ≡ length g.hashes
hashes_long g k [] = refl
hashes_long g k (n ∷ ns) = hashes_long (with_name g k n) (k + 1) ns ∙ long_with g.hashes (bit_xor (hash_number n) (last_word (with_name g k n).sets n) % 31) (le32 (hash_number n) ++ le32 (k * 65536 + last_word (with_name g k n).sets n))

with_hash_at : (hashes : List (List ℕ)) (c b : ℕ) (bytes : List ℕ) → b < length hashes → get_or (with_hash hashes c bytes) b [] ≡ get_or hashes b [] ++ cond (eqb c b) bytes []
with_hash_at hashes c b bytes lt = by (eqb c b) refl
  where
    by : (t : Bool) → eqb c b ≡ t → get_or (slice_set hashes c (get_or hashes c [] ++ bytes)) b [] ≡ get_or hashes b [] ++ cond t bytes []
    by true e = let same : c ≡ b = eqb-true c b e in ap (λ (i : ℕ). get_or (slice_set hashes i (get_or hashes i [] ++ bytes)) b []) same ∙ get_or-set_same hashes b (get_or hashes b [] ++ bytes) [] lt
    by false e = get_or-set_other hashes c b (get_or hashes c [] ++ bytes) [] (λ s. let t : true ≡ false = sym (eq-eqb c b (sym s)) ∙ e in cc) ∙ sym (append-nil (get_or hashes b []))

-- what one name puts into a stream
abbrev hashed : ℕ → ℕ → Name → ℕ → List ℕ
hashed b k n word = cond (eqb (bit_xor (hash_number n) word % 31) b) (le32 (hash_number n) ++ le32 (k * 65536 + word)) []

hashes_are : (g : Gathered) (k : ℕ) (ns : List Name) (b : ℕ) → b < length g.hashes → Fit g.sets ns → get_or (gathered g k ns).hashes b [] ≡ get_or g.hashes b [] ++ bucket_entries (all_sets g k ns) b k ns
hashes_are g k [] b lt f = sym (append-nil (get_or g.hashes b []))
hashes_are g k (n ∷ ns) b lt f =
    let next : Gathered = with_name g k n in
    let all : List (List ℕ) = all_sets next (k + 1) ns in
    let word : ℕ = last_word next.sets n in
    let rest : List ℕ = bucket_entries all b (k + 1) ns in
    let long : length next.hashes ≡ length g.hashes = long_with g.hashes (bit_xor (hash_number n) word % 31) (le32 (hash_number n) ++ le32 (k * 65536 + word)) in
    let within : b < length next.hashes = omega (arith, long, lt) in
    hashes_are next (k + 1) ns b within (fit_next g.sets n ns f)
    ∙ (ap (λ l. l ++ rest) (with_hash_at g.hashes (bit_xor (hash_number n) word % 31) b (le32 (hash_number n) ++ le32 (k * 65536 + word)) lt)
    ∙ (append_assoc (get_or g.hashes b []) (hashed b k n word) rest
    ∙ ap (λ w. get_or g.hashes b [] ++ (hashed b k n w ++ rest)) (word_is g k n ns f)))

named_are : (names : List Name) (b : ℕ) (hashes : List (List ℕ)) → ((j : ℕ) → j < length hashes → get_or hashes j [] ≡ bucket_entries (sets_of names) (b + j) 0 names) → named_from b hashes ≡ map (hash_stream names) (range_with_len b (length hashes))
named_are names b [] h = refl
named_are names b (x ∷ hashes) h =
    let here : x ≡ bucket_entries (sets_of names) b 0 names = h 0 (omega arith) ∙ ap (λ i. bucket_entries (sets_of names) i 0 names) (let z : b + 0 ≡ b = omega arith in z) in
    let later : named_from (b + 1) hashes ≡ map (hash_stream names) (range_with_len (b + 1) (length hashes)) = named_are names (b + 1) hashes (λ j lt. h (suc j) (omega (arith, lt)) ∙ ap (λ i. bucket_entries (sets_of names) i 0 names) (let z : b + suc j ≡ b + 1 + j = omega arith in z)) in
    λ i. (value_name ((0x1000 + b) * 65536 + 0x0102), here i) ∷ later i

-- ---- all streams

pub files_are : (names : List Name) → IsStrictlySorted name_cmp names → files_gathered (gathered nothing 0 names) ≡ name_map_files names
unfolding files_gathered
files_are names s =
    let all : Gathered = gathered nothing 0 names in
    let f : Fit [] names = fit_none names s in
    let sets : all.sets ≡ sets_of names = sets_are nothing 0 names f in
    let guids : flat_map (λ set. set) all.sets ≡ flat_map (λ set. set) (sets_of names) = ap (flat_map (λ set. set)) sets in
    let entries : all.entries ≡ entries_from (sets_of names) 0 0 names = entries_are nothing 0 names f ∙ ap (λ (l : List (List ℕ)). entries_from l 0 0 names) sets in
    let texts : all.texts ≡ text_stream names = texts_are nothing 0 names in
    let long : length all.hashes ≡ 31 = hashes_long nothing 0 names in
    let each : (j : ℕ) → j < length all.hashes → get_or all.hashes j [] ≡ bucket_entries (sets_of names) (0 + j) 0 names =
    λ j lt. (let few : j < 31 = omega (arith, long, lt) in hashes_are nothing 0 names j few f ∙ (ap (λ l. l ++ bucket_entries all.sets j 0 names) (get_or-replicate 31 j [] [] few) ∙ (ap (λ (l : List (List ℕ)). bucket_entries l j 0 names) sets ∙ ap (λ i. bucket_entries (sets_of names) i 0 names) (let z : j ≡ 0 + j = omega arith in z)))) in
    let hashes : hash_files all.hashes ≡ hash_streams names = ap (filter has_bytes) (named_are names 0 all.hashes each ∙ ap (λ n. map (hash_stream names) (range_with_len 0 n)) long) in
    λ i. streams_from ((GUID_STREAM, guids i) ∷ (ENTRY_STREAM, entries i) ∷ (TEXT_STREAM, texts i) ∷ hashes i)

-- the storage of gathered streams is the storage of the names
pub storage_is : (first last : Listed) (g : Gathered) (names : List Name) → IsStrictlySorted name_cmp names → g ≡ gathered nothing 0 names → last ≡ record first { storages = grown first.storages 0 (storage NAME_MAP NO_CLASS (files_gathered g) no_file) } → last ≡ record first { storages = grown first.storages 0 (storage NAME_MAP NO_CLASS (name_map_files names) no_file) }
storage_is first last g names s e h =
    let files : files_gathered g ≡ name_map_files names = ap files_gathered e ∙ files_are names s in
    h ∙ ap {B = Listed} (λ (f : FileTree). record first { storages = grown first.storages 0 (storage NAME_MAP NO_CLASS f no_file) }) files

pub storage_ok : {T E : Type 0} (r : Result T E) (first last : Listed) (g : Gathered) (names : List Name) → IsStrictlySorted name_cmp names → g ≡ gathered nothing 0 names → OnOk r (last ≡ record first { storages = grown first.storages 0 (storage NAME_MAP NO_CLASS (files_gathered g) no_file) }) → OnOk r (last ≡ record first { storages = grown first.storages 0 (storage NAME_MAP NO_CLASS (name_map_files names) no_file) })
storage_ok (Ok x) first last g names s e h = storage_is first last g names s e h
storage_ok (Err x) first last g names s e h = tt
