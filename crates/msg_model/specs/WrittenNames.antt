-- The name map of a .msg file, as it is written: the k-th name in name order has the property index k, from 0.
-- [MS-OXMSG 2.2.3]
use Rattle.std.specs.Prelude.{ℕ, ◌+◌, ◌*◌, ◌/◌, ◌%◌, ◌==◌, ◌||◌, not, if◌then◌else◌, Bool, false, true, List, [], ◌∷◌, ◌++◌, length, replicate, map, filter, bit_xor, unwrap_or, bytes_eq}
use Rattle.std.specs.Cmp.Lexicographic.{slice_cmp}
use Rattle.std.specs.Ordering.{nat_cmp}
use Rattle.std.specs.List.{flat_map, position_from, range_with_len}
use Rattle.carrier_model.specs.Bytes.{le16, le32, pad4}
use Rattle.carrier_model.specs.FileTrees.{FileTree, streams_from}
use Rattle.carrier_model.specs.KeyTexts.{label_family}
use Rattle.carrier_model.specs.Keys.{Name, numbered, texted, set_of}
use Rattle.carrier_model.specs.Sorted.{with_elements}
use Rattle.msg_model.specs.StreamNames.{GUID_STREAM, ENTRY_STREAM, TEXT_STREAM, value_name}

-- ---- property sets

-- the two sets that have an index without a place in the GUID stream
abbrev pub PS_MAPI : List ℕ
PS_MAPI = le32 0x00020328 ++ label_family

abbrev pub PS_PUBLIC_STRINGS : List ℕ
PS_PUBLIC_STRINGS = le32 0x00020329 ++ label_family

abbrev pub is_fixed_set : List ℕ → Bool
is_fixed_set set = bytes_eq set PS_MAPI || bytes_eq set PS_PUBLIC_STRINGS

-- the others, each once, sorted by their bytes
abbrev pub sets_of : List Name → List (List ℕ)
sets_of names = with_elements (slice_cmp nat_cmp) [] (filter (λ set. not (is_fixed_set set)) (map set_of names))

-- the index of a set: 1 and 2 are fixed, and 3 is the first of the GUID stream
abbrev pub set_index : List (List ℕ) → List ℕ → ℕ
set_index sets set =
    if bytes_eq set PS_MAPI then 1
    else if bytes_eq set PS_PUBLIC_STRINGS then 2
    else 3 + unwrap_or (position_from (bytes_eq set) 0 sets) 0

-- ---- texts

abbrev pub name_units : List ℕ → List ℕ
name_units units = flat_map le16 units

-- a length in bytes, the units, and zeros to a multiple of four
abbrev pub text_entry : List ℕ → List ℕ
text_entry units = le32 (length (name_units units)) ++ (name_units units ++ replicate (pad4 (length (name_units units))) 0)

abbrev pub text_of : Name → List ℕ
text_of (numbered set number) = []
text_of (texted set units) = text_entry units

-- the texts one behind the other, in the order of their indexes
abbrev pub text_stream : List Name → List ℕ
text_stream = flat_map text_of

-- ---- entries

-- a name's number, or the place of its text
abbrev pub label_number : ℕ → Name → ℕ
label_number place (numbered set number) = number
label_number place (texted set units) = place

abbrev pub kind_bit : Name → ℕ
kind_bit (numbered set number) = 0
kind_bit (texted set units) = 1

-- a set's index and whether the name is a text: the lower half of a name's word
abbrev pub set_word : List (List ℕ) → Name → ℕ
set_word sets name = set_index sets (set_of name) * 2 + kind_bit name

-- the word of the name with the property index k
abbrev pub name_word : List (List ℕ) → ℕ → Name → ℕ
name_word sets k name = k * 65536 + set_word sets name

-- the entries from the k-th name on, whose texts begin at a place
abbrev pub entries_from : List (List ℕ) → ℕ → ℕ → List Name → List ℕ
entries_from sets k place [] = []
entries_from sets k place (name ∷ names) =
    le32 (label_number place name) ++ (le32 (name_word sets k name) ++ entries_from sets (k + 1) (place + length (text_of name)) names)

-- ---- hash streams

-- one bit of a cyclic sum with the reflected polynomial EDB88320
abbrev pub sum_bit : ℕ → ℕ
sum_bit c = if c % 2 == 0 then c / 2 else bit_xor (c / 2) 0xEDB88320

abbrev pub sum_byte : ℕ → ℕ → ℕ
sum_byte c byte = sum_bit (sum_bit (sum_bit (sum_bit (sum_bit (sum_bit (sum_bit (sum_bit (bit_xor c byte))))))))

-- the sum of bytes, from 0 and without a complement at the end
abbrev pub cyclic_sum : ℕ → List ℕ → ℕ
cyclic_sum c [] = c
cyclic_sum c (byte ∷ more) = cyclic_sum (sum_byte c byte) more

-- what a name is hashed by
abbrev pub hash_number : Name → ℕ
hash_number (numbered set number) = number
hash_number (texted set units) = cyclic_sum 0 (name_units units)

-- which of the 31 streams has a name
abbrev pub bucket : List (List ℕ) → Name → ℕ
bucket sets name = bit_xor (hash_number name) (set_word sets name) % 31

-- the names of a bucket, each with its property index
abbrev pub bucket_entries : List (List ℕ) → ℕ → ℕ → List Name → List ℕ
bucket_entries sets b k [] = []
bucket_entries sets b k (name ∷ names) =
    (if bucket sets name == b then le32 (hash_number name) ++ le32 (name_word sets k name) else []) ++ bucket_entries sets b (k + 1) names

-- ---- streams

abbrev pub hash_stream : List Name → ℕ → List ℕ × List ℕ
hash_stream names b = (value_name ((0x1000 + b) * 65536 + 0x0102), bucket_entries (sets_of names) b 0 names)

abbrev pub has_bytes : List ℕ × List ℕ → Bool
has_bytes (name, []) = false
has_bytes (name, byte ∷ more) = true

-- those that are not empty
abbrev pub hash_streams : List Name → List (List ℕ × List ℕ)
hash_streams names = filter has_bytes (map (hash_stream names) (range_with_len 0 31))

-- the GUIDs, the entries, the texts and the hash streams
abbrev pub name_map_files : List Name → FileTree
name_map_files names = streams_from (
    (GUID_STREAM, flat_map (λ set. set) (sets_of names))
    ∷ (ENTRY_STREAM, entries_from (sets_of names) 0 0 names)
    ∷ (TEXT_STREAM, text_stream names)
    ∷ hash_streams names)
