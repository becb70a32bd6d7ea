-- The one compound file that a tree of storages and streams is written as, for sectors of z bytes. [MS-CFB 2.2 to 2.6]
use Rattle.std.specs.Prelude.{ℕ, zero, suc, ◌+◌, ◌-◌, ◌*◌, ◌/◌, ◌==◌, ◌&&◌, Bool, if◌then◌else◌, List, [], ◌∷◌, ◌++◌, length, replicate, take, drop, map, filter, get_or, min, nat_lt, nat_le, codes}
use Rattle.std.specs.Int.{div_ceil}
use Rattle.std.specs.List.{flat_map, range_with_len, sum}
use Rattle.carrier_model.specs.Bytes.{le16, le32}
use Rattle.carrier_model.specs.Chains.{end_word}
use Rattle.carrier_model.specs.FileTrees.{FileTree, no_file, stream, storage, NO_CLASS, entries_in, sorted}
use Rattle.carrier_model.specs.Links.{no_link}
use Rattle.carrier_model.specs.Tables.{SIGNATURE_LOW, SIGNATURE_HIGH, major, sector_shift, difat_count}

-- ---- the entries of the directory

-- what an entry is written from; the bytes are those of a stream
pub record Slot : Type 0 where
  pub name : List ℕ
  pub class : List ℕ
  pub kind : ℕ
  pub left : ℕ
  pub right : ℕ
  pub child : ℕ
  pub bytes : List ℕ

abbrev pub STORAGE : ℕ
STORAGE = 1

abbrev pub STREAM : ℕ
STREAM = 2

abbrev pub ROOT : ℕ
ROOT = 5

-- the numbers of siblings, the first of which has this one: an entry stands before those below it
abbrev pub sibling_numbers : ℕ → FileTree → List ℕ
sibling_numbers n no_file = []
sibling_numbers n (stream name bytes others) = n ∷ sibling_numbers (n + 1) others
sibling_numbers n (storage name class inside others) = n ∷ sibling_numbers (n + 1 + entries_in inside) others

-- the place of the middle, the lower one of an even number
abbrev pub middle : List ℕ → ℕ
middle ns = (length ns - 1) / 2

-- the top of the siblings' tree: the middle one, or none
abbrev pub top_of : List ℕ → ℕ
top_of ns = get_or ns (middle ns) no_link

-- The left and right link of each sibling, in their order: the tops of those before and behind the middle. So many
-- levels are enough as there are siblings.
abbrev pub side_links : ℕ → List ℕ → List (ℕ × ℕ)
side_links zero ns = []
side_links (suc levels) [] = []
side_links (suc levels) (n ∷ ns) =
    let all = n ∷ ns in
    let before = take (middle all) all in
    let behind = drop (middle all + 1) all in
    side_links levels before ++ ((top_of before, top_of behind) ∷ side_links levels behind)

abbrev pub links_of_siblings : List ℕ → List (ℕ × ℕ)
links_of_siblings ns = side_links (length ns) ns

abbrev pub first_links : List (ℕ × ℕ) → ℕ × ℕ
first_links [] = (no_link, no_link)
first_links (links ∷ others) = links

-- the entries of siblings whose first has this number, in the order of their numbers, each before those below it
abbrev pub slots_from : ℕ → List (ℕ × ℕ) → FileTree → List Slot
slots_from n links no_file = []
slots_from n links (stream name bytes others) =
    record { name = name; class = NO_CLASS; kind = STREAM; left = (first_links links).0; right = (first_links links).1; child = no_link; bytes = bytes }
    ∷ slots_from (n + 1) (drop 1 links) others
slots_from n links (storage name class inside others) =
    record { name = name; class = class; kind = STORAGE; left = (first_links links).0; right = (first_links links).1; child = top_of (sibling_numbers (n + 1) inside); bytes = [] }
    ∷ (slots_from (n + 1) (links_of_siblings (sibling_numbers (n + 1) inside)) inside
    ++ slots_from (n + 1 + entries_in inside) (drop 1 links) others)

-- the root, number 0, of this class, and all others
abbrev pub slots_of : List ℕ → FileTree → List Slot
slots_of class files =
    record { name = codes "Root Entry"; class = class; kind = ROOT; left = no_link; right = no_link; child = top_of (sibling_numbers 1 files); bytes = [] }
    ∷ slots_from 1 (links_of_siblings (sibling_numbers 1 files)) files

-- ---- streams

-- a stream of fewer bytes that is not empty lies in the mini stream
abbrev pub CUTOFF : ℕ
CUTOFF = 4096

abbrev pub MINI : ℕ
MINI = 64

abbrev pub is_short : List ℕ → Bool
is_short x = nat_lt 0 (length x) && nat_lt (length x) CUTOFF

abbrev pub is_long : List ℕ → Bool
is_long x = nat_le CUTOFF (length x)

abbrev pub short_streams : List Slot → List (List ℕ)
short_streams slots = filter is_short (map (λ s. s.bytes) slots)

abbrev pub long_streams : List Slot → List (List ℕ)
long_streams slots = filter is_long (map (λ s. s.bytes) slots)

-- how many pieces of a size bytes need
abbrev pub pieces : ℕ → List ℕ → ℕ
pieces size x = div_ceil (length x) size

-- with zeros up to whole pieces
abbrev pub filled : ℕ → List ℕ → List ℕ
filled size x = x ++ replicate (pieces size x * size - length x) 0

abbrev pub all_pieces : ℕ → List (List ℕ) → ℕ
all_pieces size xs = sum (map (pieces size) xs)

-- ---- how many sectors each part has

pub record Sizes : Type 0 where
  pub directory : ℕ
  pub mini_fat : ℕ
  pub mini_sectors : ℕ
  pub mini_stream : ℕ
  pub long : ℕ

abbrev pub sizes_of : ℕ → List Slot → Sizes
sizes_of z slots =
    let mini = all_pieces MINI (short_streams slots) in
    record {
      directory = div_ceil (128 * length slots) z;
      mini_fat = div_ceil (4 * mini) z;
      mini_sectors = mini;
      mini_stream = div_ceil (MINI * mini) z;
      long = all_pieces z (long_streams slots);
    }

-- all but the table's own sectors and those that list them
abbrev pub rest_of : Sizes → ℕ
rest_of s = s.directory + s.mini_fat + s.mini_stream + s.long

-- a table of f sectors has a word for every sector
abbrev pub suffices : ℕ → ℕ → ℕ → Bool
suffices z rest f = nat_le (f + difat_count z f + rest) (z / 4 * f)

-- the first number from f on that suffices, if one of so many does
abbrev pub first_that_suffices : ℕ → ℕ → ℕ → ℕ → ℕ
first_that_suffices zero z rest f = f
first_that_suffices (suc more) z rest f = if suffices z rest f then f else first_that_suffices more z rest (f + 1)

-- the least number of sectors of a table; as many as all others and one always suffice
abbrev pub fat_count : ℕ → ℕ → ℕ
fat_count z rest = first_that_suffices (rest + 1) z rest 0

-- where each part begins: the table, the sectors that list it, and the rest behind them
pub record Plan : Type 0 where
  pub sizes : Sizes
  pub fat : ℕ
  pub difat : ℕ

abbrev pub plan_of : ℕ → List Slot → Plan
plan_of z slots =
    let sizes = sizes_of z slots in
    let f = fat_count z (rest_of sizes) in
    record { sizes = sizes; fat = f; difat = difat_count z f }

abbrev pub directory_start : Plan → ℕ
directory_start p = p.fat + p.difat

abbrev pub mini_fat_start : Plan → ℕ
mini_fat_start p = directory_start p + p.sizes.directory

abbrev pub mini_stream_start : Plan → ℕ
mini_stream_start p = mini_fat_start p + p.sizes.mini_fat

abbrev pub long_start : Plan → ℕ
long_start p = mini_stream_start p + p.sizes.mini_stream

-- the first of so many sectors, or the end where there are none
abbrev pub start_or_end : ℕ → ℕ → ℕ
start_or_end count start = if count == 0 then end_word else start

-- ---- the table

abbrev pub FAT_SECTOR : ℕ
FAT_SECTOR = 0xFFFFFFFD

abbrev pub DIFAT_SECTOR : ℕ
DIFAT_SECTOR = 0xFFFFFFFC

abbrev pub FREE : ℕ
FREE = 0xFFFFFFFF

-- the words of so many consecutive sectors: each names the next, and the last one is the end
abbrev pub run_words : ℕ → ℕ → List ℕ
run_words start zero = []
run_words start (suc zero) = end_word ∷ []
run_words start (suc (suc n)) = (start + 1) ∷ run_words (start + 1) (suc n)

-- a run for each of some streams, one behind the other
abbrev pub stream_words : ℕ → ℕ → List (List ℕ) → List ℕ
stream_words size start [] = []
stream_words size start (x ∷ xs) = run_words start (pieces size x) ++ stream_words size (start + pieces size x) xs

-- words up to whole sectors, the unused ones free
abbrev pub filled_words : ℕ → ℕ → List ℕ → List ℕ
filled_words z count words = words ++ replicate (z / 4 * count - length words) FREE

abbrev pub table_of : ℕ → Plan → List Slot → List ℕ
table_of z p slots = filled_words z p.fat (
    replicate p.fat FAT_SECTOR
    ++ (replicate p.difat DIFAT_SECTOR
    ++ (run_words (directory_start p) p.sizes.directory
    ++ (run_words (mini_fat_start p) p.sizes.mini_fat
    ++ (run_words (mini_stream_start p) p.sizes.mini_stream
    ++ stream_words z (long_start p) (long_streams slots))))))

abbrev pub mini_table_of : ℕ → Plan → List Slot → List ℕ
mini_table_of z p slots = filled_words z p.sizes.mini_fat (stream_words MINI 0 (short_streams slots))

abbrev pub words_bytes : List ℕ → List ℕ
words_bytes = flat_map le32

-- ---- the list of the table's sectors

-- the k-th of the sectors that list the table, from 0: the numbers behind those of the header, and the next one
abbrev pub difat_words : ℕ → Plan → ℕ → List ℕ
difat_words z p k =
    let each = z / 4 - 1 in
    let listed = range_with_len (109 + each * k) (min each (p.fat - (109 + each * k))) in
    listed ++ (replicate (each - length listed) FREE ++ ((if k + 1 == p.difat then end_word else p.fat + k + 1) ∷ []))

abbrev pub difat_bytes : ℕ → Plan → List ℕ
difat_bytes z p = flat_map (λ k. words_bytes (difat_words z p k)) (range_with_len 0 p.difat)

-- ---- the header

-- signature, class and versions, byte order and the powers of two
abbrev pub header_front : ℕ → List ℕ
header_front z =
    le32 SIGNATURE_LOW ++ (le32 SIGNATURE_HIGH ++ (NO_CLASS ++ (le16 0x003E ++ (le16 (major z) ++ (le16 0xFFFE ++ (le16 (sector_shift z) ++ (le16 6 ++ replicate 6 0)))))))

-- only the later version counts the directory's sectors
abbrev pub directory_field : ℕ → Plan → ℕ
directory_field z p = if major z == 4 then p.sizes.directory else 0

abbrev pub header_counts : ℕ → Plan → List ℕ
header_counts z p =
    le32 (directory_field z p) ++ (le32 p.fat ++ (le32 (directory_start p) ++ (le32 0 ++ (le32 CUTOFF
    ++ (le32 (start_or_end p.sizes.mini_fat (mini_fat_start p)) ++ (le32 p.sizes.mini_fat
    ++ (le32 (start_or_end p.difat p.fat) ++ le32 p.difat)))))))

-- the first 109 of the table's sectors
abbrev pub header_list : Plan → List ℕ
header_list p = words_bytes (range_with_len 0 (min 109 p.fat) ++ replicate (109 - p.fat) FREE)

abbrev pub header_bytes : ℕ → Plan → List ℕ
header_bytes z p = header_front z ++ (header_counts z p ++ (header_list p ++ replicate (z - 512) 0))

-- ---- the directory

abbrev pub BLACK : ℕ
BLACK = 1

-- a name with zeros up to 64 bytes, and its length with its null
abbrev pub name_field : List ℕ → List ℕ
name_field name = flat_map le16 name ++ (replicate (64 - 2 * length name) 0 ++ le16 (2 * (length name + 1)))

-- name, type and colour, links, class, no state and no times, start and size
abbrev pub slot_bytes : Slot → ℕ → ℕ → List ℕ
slot_bytes s start size =
    name_field s.name ++ (s.kind ∷ BLACK ∷ (le32 s.left ++ (le32 s.right ++ (le32 s.child ++ (s.class ++ (replicate 20 0 ++ (le32 start ++ (le32 size ++ le32 0))))))))

-- an entry that is not used
abbrev pub unused_slot : List ℕ
unused_slot = replicate 68 0 ++ (le32 no_link ++ (le32 no_link ++ (le32 no_link ++ replicate 48 0)))

-- Entries behind the root, where the next short stream begins in the mini stream and the next long one in the file.
-- A storage has no start.
abbrev pub start_of_slot : ℕ → ℕ → Slot → ℕ
start_of_slot mini long s =
    if s.kind == STORAGE then 0
    else if is_short s.bytes then mini
    else if is_long s.bytes then long
    else end_word

abbrev pub slots_bytes : ℕ → ℕ → ℕ → List Slot → List ℕ
slots_bytes z mini long [] = []
slots_bytes z mini long (s ∷ others) =
    slot_bytes s (start_of_slot mini long s) (length s.bytes)
    ++ slots_bytes z
    (if is_short s.bytes then mini + pieces MINI s.bytes else mini)
    (if is_long s.bytes then long + pieces z s.bytes else long)
    others

-- the root tells of the mini stream
abbrev pub root_bytes : Plan → Slot → List ℕ
root_bytes p s = slot_bytes s (start_or_end p.sizes.mini_sectors (mini_stream_start p)) (MINI * p.sizes.mini_sectors)

abbrev pub directory_slots : ℕ → Plan → List Slot → List ℕ
directory_slots z p [] = []
directory_slots z p (root ∷ others) = root_bytes p root ++ slots_bytes z 0 (long_start p) others

abbrev pub directory_bytes : ℕ → Plan → List Slot → List ℕ
directory_bytes z p slots =
    directory_slots z p slots ++ flat_map (λ k. unused_slot) (range_with_len 0 (z / 128 * p.sizes.directory - length slots))

-- ---- the file

abbrev pub mini_stream_bytes : ℕ → List Slot → List ℕ
mini_stream_bytes z slots = filled z (flat_map (filled MINI) (short_streams slots))

abbrev pub long_bytes : ℕ → List Slot → List ℕ
long_bytes z slots = flat_map (filled z) (long_streams slots)

-- the header, the table, its list, the directory, the mini table, the mini stream and the long streams
abbrev pub file_bytes : ℕ → Plan → List Slot → List ℕ
file_bytes z p slots =
    header_bytes z p
    ++ (words_bytes (table_of z p slots)
    ++ (difat_bytes z p
    ++ (directory_bytes z p slots
    ++ (words_bytes (mini_table_of z p slots)
    ++ (mini_stream_bytes z slots ++ long_bytes z slots)))))

-- the file of a root that has this class and these children
abbrev pub layout : ℕ → List ℕ → FileTree → List ℕ
layout z class files =
    let slots = slots_of class (sorted files) in
    file_bytes z (plan_of z slots) slots

-- {00020D0B-0000-0000-C000-000000000046}, the class of a message
abbrev pub MESSAGE_CLASS : List ℕ
MESSAGE_CLASS = 0x0B ∷ 0x0D ∷ 0x02 ∷ 0x00 ∷ 0x00 ∷ 0x00 ∷ 0x00 ∷ 0x00 ∷ 0xC0 ∷ 0x00 ∷ 0x00 ∷ 0x00 ∷ 0x00 ∷ 0x00 ∷ 0x00 ∷ 0x46 ∷ []
