-- A loaded file, with marks of the sectors that are taken.
use Rattle.std.specs.Prelude.{◌≡◌, ℕ, ◌*◌, ◌<◌, ◌≤◌, List, Bool, true, length, All, if◌then◌else◌, Result}
use Rattle.std.specs.Int.{div_ceil}
use Rattle.carrier_model.specs.Trail.{Fault}
use Rattle.carrier_model.specs.Outcomes.{mapped}
use Rattle.carrier_model.specs.Entries.{Entry, entry_at, entry_count, entry_place}
use Rattle.carrier_model.specs.Loads.{Loaded, mini_bound, is_long, claim_of, stream_of}
use Rattle.carrier_model.specs.Sectors.{sector_count, whole_count}
use Rattle.carrier_model.specs.Streams.{Stream, places_of, starts_of, lie_below}

pub record State : Type 0 where
  pub file : List ℕ
  pub size : ℕ
  pub loaded : Loaded
  pub marks : List Bool
  pub mini_marks : List Bool

-- what every loaded file keeps
pub record IsKept (s : State) : Type 0 where
  pub short : length s.file ≤ 268435456
  pub long : s.size ≤ length s.file
  pub count : length s.marks ≡ sector_count s.size s.file
  pub mini_count : length s.mini_marks ≡ mini_bound s.loaded.mini
  pub whole : All (λ n. n < whole_count s.size s.file) s.loaded.directory
  pub few : length s.loaded.directory ≤ sector_count s.size s.file
  pub enough : s.loaded.mini.size ≤ s.size * length s.loaded.mini.stream
  pub within : lie_below (length s.file) (places_of s.size (starts_of s.size s.loaded.mini.stream) s.loaded.mini.size) ≡ true
  pub below : All (λ n. n < 524288) s.loaded.mini.stream

-- where an entry lies, and what it says
abbrev pub place_of : State → ℕ → ℕ
place_of s id = entry_place s.size s.loaded.directory id

abbrev pub entry_of : State → ℕ → Entry
entry_of s id = entry_at s.size s.file (place_of s id)

abbrev pub entries : State → ℕ
entries s = entry_count s.size s.loaded.directory

-- how many pieces its stream has: sectors, or mini sectors
abbrev pub pieces_of : State → ℕ → ℕ
pieces_of s id = div_ceil (entry_of s id).size (if is_long (entry_of s id) then s.size else 64)

-- the chain and the stream of an entry, clear of the earlier chains in the table and in the mini FAT
abbrev pub chain_claimed : State → ℕ → List ℕ → List ℕ → Result (List ℕ) Fault
chain_claimed s id long short = claim_of s.size s.file s.loaded (entry_of s id) (place_of s id) long short

abbrev pub stream_claimed : State → ℕ → List ℕ → List ℕ → Result Stream Fault
stream_claimed s id long short = mapped (stream_of s.size s.file s.loaded (entry_of s id)) (chain_claimed s id long short)
