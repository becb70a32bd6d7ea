-- The streams of a directory, by the number of their entry.
use Rattle.std.specs.Prelude.{◌≡◌, ℕ, ◌<◌, List, [], get_or, length, map, sum, Bool, true, false, ◌&&◌, nat_eq, Result, Ok, Err}
use Rattle.carrier_model.specs.Trail.{Fault}
use Rattle.carrier_model.specs.Files.{Claim, claims_of, chain_in}
use Rattle.carrier_model.specs.Links.{Directory}
use Rattle.carrier_model.specs.Loads.{stream_of}
use Rattle.carrier_model.specs.Streams.{Stream}
use Rattle.carrier_io.specs.declared.reasons.Stop.{Stop}
use Rattle.carrier_io.specs.Reads.{Fails}
use Rattle.carrier_io.specs.Steps.{stepped}
use Rattle.cfb_sectors.specs.Seen.{stream as stream_seen}
use Rattle.cfb_sectors.specs.States.{State, entry_of}
use Rattle.cfb_directory.specs.Walks.{directory_of}
use Rattle.cfb_directory.specs.declared.streams.Streams.{Streams}
use Rattle.cfb_sectors.specs.declared.view.StreamView.{StreamView}

abbrev pub no_stream : Stream
no_stream = record { bytes = []; places = [] }

-- the stream of an entry, by the number of its view
abbrev pub stream_at : List ℕ → List StreamView → ℕ → Stream
stream_at numbers views id = get_or (map stream_seen views) (get_or numbers id 0) no_stream

-- a stream that is marked as visited
abbrev pub is_wanted : List Bool → Directory → ℕ → Bool
is_wanted marks d id = get_or marks id false && nat_eq (d.entry id).kind 2

-- the chains of some streams of a loaded file
abbrev pub claims_in : State → List ℕ → List ℕ → List ℕ → Result (List Claim) Fault
claims_in s ids long short = claims_of s.size s.file s.loaded (directory_of s) ids long short

-- how many sectors the chains have in all
abbrev pub chain_lengths : List Claim → ℕ
chain_lengths cs = sum (map (λ c. length c.chain) cs)

-- the wanted streams with their chains
abbrev pub AreStreams : State → (ℕ → Bool) → List Claim → List ℕ → List StreamView → Type 0
AreStreams s wanted cs numbers views = (id : ℕ) → id < length numbers → wanted id ≡ true → stream_at numbers views id ≡ stream_of s.size s.file s.loaded (entry_of s id) (chain_in cs id)

-- What was answered of these streams: all of them, with as many steps as their chains are long, or the first fault.
abbrev pub AreClaimed : State → (ℕ → Bool) → ℕ → ℕ → Result Streams Stop → Result (List Claim) Fault → Type 0
AreClaimed s wanted before after (Ok streams) read = (cs : List Claim) × (read ≡ Ok cs) × AreStreams s wanted cs streams.numbers.items streams.views.items × (after ≡ stepped before (chain_lengths cs))
AreClaimed s wanted before after (Err e) read = Fails e read
