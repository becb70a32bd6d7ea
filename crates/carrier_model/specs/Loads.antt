-- A compound file up to its mini stream, and the stream of one entry, each with its first fault (MS-CFB 2.2 to 2.6).
use Rattle.std.specs.Prelude.{ℕ, ◌+◌, List, [], ◌++◌, length, min, Bool, nat_eq, nat_le, if◌then◌else◌, Result, Ok}
use Rattle.std.specs.Int.{div_ceil}
use Rattle.carrier_model.specs.Trail.{Fault}
use Rattle.carrier_model.specs.Reasons.{BAD_ENTRY_TYPE, FILE_TRUNCATED}
use Rattle.carrier_model.specs.Outcomes.{◌>>=◌, check}
use Rattle.carrier_model.specs.Chains.{chain_of}
use Rattle.carrier_model.specs.Sectors.{sector_count, whole_count, table_words, word_offset}
use Rattle.carrier_model.specs.Streams.{Stream, stream_at, places_of, starts_of, mini_offsets, mini_starts, lie_below}
use Rattle.carrier_model.specs.Entries.{Entry, entry_at, entry_place}
use Rattle.carrier_model.specs.Tables.{Head, header_of, difat_of, difat_count, fat_sectors_of}

-- a table: the sectors that hold it, and its words
pub record Table : Type 0 where
  pub sectors : List ℕ
  pub words : List ℕ

-- the mini FAT, the chain of the mini stream, and how many bytes this has
pub record Mini : Type 0 where
  pub table : Table
  pub stream : List ℕ
  pub size : ℕ

-- what the header says, the DIFAT's sectors, the table and the directory's chain
pub record Tables : Type 0 where
  pub head : Head
  pub difat : List ℕ
  pub table : Table
  pub directory : List ℕ

pub record Loaded : Type 0 where
  pub difat : List ℕ
  pub table : Table
  pub directory : List ℕ
  pub mini : Mini

-- a chain's members are sectors of the file that have a word
abbrev pub chain_bound : ℕ → List ℕ → List ℕ → ℕ
chain_bound z b words = min (sector_count z b) (length words)

-- a mini sector holds some of the mini stream, and has a word
abbrev pub mini_bound : Mini → ℕ
mini_bound m = min (div_ceil m.size 64) (length m.table.words)

unfoldable pub tables_of : ℕ → List ℕ → Result Tables Fault
tables_of z b = do
  h ← header_of z b
  L ← difat_of (difat_count z h.fat_count) 68 z b []
  A ← fat_sectors_of h.fat_count 0 z b L L
  D ← chain_of (table_words z b A) (word_offset z A) h.directory 48 (chain_bound z b (table_words z b A)) (whole_count z b) 1 (L ++ A)
  Ok (record { head = h; difat = L; table = record { sectors = A; words = table_words z b A }; directory = D })

-- the chain in the table of the stream of an entry at o, whose bytes lie within the file
unfoldable pub long_chain_of : ℕ → List ℕ → Table → ℕ → ℕ → ℕ → List ℕ → Result (List ℕ) Fault
long_chain_of z b t start size o earlier = do
  c ← chain_of t.words (word_offset z t.sectors) start (o + 116) (chain_bound z b t.words) (chain_bound z b t.words) (div_ceil size z) earlier
  within ← check (lie_below (length b) (places_of z (starts_of z c) size)) FILE_TRUNCATED (o + 120)
  Ok c

-- the chain in the mini FAT, whose bytes lie within the mini stream
unfoldable pub short_chain_of : ℕ → Mini → ℕ → ℕ → ℕ → List ℕ → Result (List ℕ) Fault
short_chain_of z m start size o earlier = do
  c ← chain_of m.table.words (word_offset z m.table.sectors) start (o + 116) (mini_bound m) (mini_bound m) (div_ceil size 64) earlier
  within ← check (lie_below m.size (places_of 64 (mini_offsets c) size)) FILE_TRUNCATED (o + 120)
  Ok c

-- no mini stream
abbrev pub no_mini : Mini
no_mini = record { table = record { sectors = []; words = [] }; stream = []; size = 0 }

-- The root's size is that of the mini stream, whose sectors its chain has. Where it is 0 there is none.
-- first is the mini FAT's first sector, start the mini stream's, and o the place of the root's entry
unfoldable pub mini_of : ℕ → List ℕ → Table → ℕ → ℕ → ℕ → ℕ → List ℕ → Result Mini Fault
mini_of z b t first start size o earlier =
    if nat_eq size 0 then Ok no_mini else (do
      f ← chain_of t.words (word_offset z t.sectors) first 60 (chain_bound z b t.words) (whole_count z b) 0 earlier
      s ← long_chain_of z b t start size o (earlier ++ f)
      Ok (record { table = record { sectors = f; words = table_words z b f }; stream = s; size = size }))

-- the lists that have taken sectors before the mini FAT
abbrev pub taken_first : Tables → List ℕ
taken_first t = t.difat ++ t.table.sectors ++ t.directory

unfoldable pub load_of : ℕ → List ℕ → Result Loaded Fault
load_of z b = do
  t ← tables_of z b
  kind ← check (nat_eq (entry_at z b (entry_place z t.directory 0)).kind 5) BAD_ENTRY_TYPE (entry_place z t.directory 0 + 66)
  m ← mini_of z b t.table t.head.mini_fat (entry_at z b (entry_place z t.directory 0)).start (entry_at z b (entry_place z t.directory 0)).size (entry_place z t.directory 0) (taken_first t)
  Ok (record { difat = t.difat; table = t.table; directory = t.directory; mini = m })

-- all the sectors that a loaded file has taken
abbrev pub taken_by : Loaded → List ℕ
taken_by s = ((s.difat ++ s.table.sectors ++ s.directory) ++ s.mini.table.sectors) ++ s.mini.stream

-- a stream of so many bytes has its chain in the table, a shorter one in the mini FAT
abbrev pub is_long : Entry → Bool
is_long e = nat_le 4096 e.size

-- The chain of the stream of an entry at o, clear of the earlier chains: those in the table, and those in the mini FAT.
-- An empty stream has none.
unfoldable pub claim_of : ℕ → List ℕ → Loaded → Entry → ℕ → List ℕ → List ℕ → Result (List ℕ) Fault
claim_of z b s e o long short =
    if nat_eq e.size 0 then Ok [] else (
    if is_long e then long_chain_of z b s.table e.start e.size o long
    else short_chain_of z s.mini e.start e.size o short)

-- what a chain takes of the table, and of the mini FAT
abbrev pub long_part : Entry → List ℕ → List ℕ
long_part e chain = if is_long e then chain else []

abbrev pub short_part : Entry → List ℕ → List ℕ
short_part e chain = if is_long e then [] else chain

-- the streams of a chain in the table, and in the mini FAT
abbrev pub long_stream : ℕ → List ℕ → ℕ → List ℕ → Stream
long_stream z b size chain = stream_at b (places_of z (starts_of z chain) size)

abbrev pub short_stream : ℕ → List ℕ → Mini → ℕ → List ℕ → Stream
short_stream z b m size chain = stream_at b (places_of 64 (mini_starts z (starts_of z m.stream) chain) size)

-- the stream of an entry whose chain this is
abbrev pub stream_of : ℕ → List ℕ → Loaded → Entry → List ℕ → Stream
stream_of z b s e chain =
    if is_long e then long_stream z b e.size chain else short_stream z b s.mini e.size chain
