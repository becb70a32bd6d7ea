-- The streams of a name map, and an entry that was read.
use Rattle.std.specs.Prelude.{[], Option, Some, None}
use Rattle.carrier_model.specs.Streams.{Stream}
use Rattle.msg_model.specs.NameMap as model
use Rattle.msg_nameid.specs.declared.entry.NameStreams.{NameStreams}
use Rattle.msg_nameid.specs.declared.entry.NameEntry.{NameEntry}
use Rattle.cfb_sectors.specs.Seen.{stream as stream_seen}

abbrev pub streams_seen : NameStreams → model.NameStreams
streams_seen s = record { guids = stream_seen s.guids.now; entries = stream_seen s.entries.now; texts = stream_seen s.texts.now }

abbrev pub entry_seen : NameEntry → model.NameEntry
entry_seen e = record { identifier = e.identifier; word = e.word; place = e.offset }

-- of no stream there are no bytes
abbrev pub stream_or_none : Option Stream → Stream
stream_or_none None = record { bytes = []; places = [] }
stream_or_none (Some s) = s
