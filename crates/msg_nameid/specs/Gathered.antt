-- The streams of a name map, as far as its names were added to them one by one.
use Rattle.std.specs.Prelude.{ℕ, ◌+◌, ◌-◌, ◌*◌, ◌%◌, ◌||◌, if◌then◌else◌, Bool, false, List, [], ◌∷◌, ◌++◌, length, filter, replicate, get_or, slice_get, slice_set, bit_xor, bytes_eq, Option, Some, None}
use Rattle.std.specs.List.{flat_map}
use Rattle.carrier_model.specs.Bytes.{le32}
use Rattle.carrier_model.specs.FileTrees.{FileTree, streams_from}
use Rattle.carrier_model.specs.Keys.{Name, set_of}
use Rattle.msg_model.specs.StreamNames.{GUID_STREAM, ENTRY_STREAM, TEXT_STREAM, value_name}
use Rattle.msg_model.specs.WrittenNames.{PS_MAPI, PS_PUBLIC_STRINGS, is_fixed_set, text_of, label_number, kind_bit, hash_number, has_bytes}

-- The property sets, the bytes of the entries and of the texts, and those of each hash stream.
pub record Gathered : Type 0 where
  pub sets : List (List ℕ)
  pub entries : List ℕ
  pub texts : List ℕ
  pub hashes : List (List ℕ)

-- those of no name
abbrev pub nothing : Gathered
nothing = record { sets = []; entries = []; texts = []; hashes = replicate 31 [] }

-- ---- property sets

abbrev pub is_set : Option (List ℕ) → List ℕ → Bool
is_set None set = false
is_set (Some other) set = bytes_eq other set

-- whether the last of some sets is this one
abbrev pub ends_with : List (List ℕ) → List ℕ → Bool
ends_with sets set = is_set (slice_get sets (length sets - 1)) set

-- a set behind others, unless it has a fixed index or is the last of them
abbrev pub with_set : List (List ℕ) → List ℕ → List (List ℕ)
with_set sets set = if is_fixed_set set || ends_with sets set then sets else sets ++ set ∷ []

-- the index of a set that is fixed or the last
abbrev pub last_index : List (List ℕ) → List ℕ → ℕ
last_index sets set =
    if bytes_eq set PS_MAPI then 1
    else if bytes_eq set PS_PUBLIC_STRINGS then 2
    else 2 + length sets

-- ---- one name more

-- the index of a name's set and whether the name is a text
abbrev pub last_word : List (List ℕ) → Name → ℕ
last_word sets name = last_index sets (set_of name) * 2 + kind_bit name

-- bytes behind those of a hash stream
abbrev pub with_hash : List (List ℕ) → ℕ → List ℕ → List (List ℕ)
with_hash hashes b bytes = slice_set hashes b (get_or hashes b [] ++ bytes)

-- a name behind others whose sets are these: its property index is k
abbrev pub added : List (List ℕ) → Gathered → ℕ → Name → Gathered
added sets g k name = record {
  sets = sets;
  entries = g.entries ++ (le32 (label_number (length g.texts) name) ++ le32 (k * 65536 + last_word sets name));
  texts = g.texts ++ text_of name;
  hashes = with_hash g.hashes (bit_xor (hash_number name) (last_word sets name) % 31) (le32 (hash_number name) ++ le32 (k * 65536 + last_word sets name));
}

abbrev pub with_name : Gathered → ℕ → Name → Gathered
with_name g k name = added (with_set g.sets (set_of name)) g k name

-- names behind others, from the property index k on
abbrev pub gathered : Gathered → ℕ → List Name → Gathered
gathered g k [] = g
gathered g k (name ∷ names) = gathered (with_name g k name) (k + 1) names

-- ---- hash streams

-- those from the b-th on, each with its name
abbrev pub named_from : ℕ → List (List ℕ) → List (List ℕ × List ℕ)
named_from b [] = []
named_from b (bytes ∷ more) = (value_name ((0x1000 + b) * 65536 + 0x0102), bytes) ∷ named_from (b + 1) more

-- those that are not empty
abbrev pub hash_files : List (List ℕ) → List (List ℕ × List ℕ)
hash_files hashes = filter has_bytes (named_from 0 hashes)

-- the streams, each with its name
unfoldable pub files_gathered : Gathered → FileTree
files_gathered g = streams_from (
    (GUID_STREAM, flat_map (λ set. set) g.sets)
    ∷ (ENTRY_STREAM, g.entries)
    ∷ (TEXT_STREAM, g.texts)
    ∷ hash_files g.hashes)
