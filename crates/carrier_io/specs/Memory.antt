-- What the devices in memory tell.
use Rattle.std.specs.Prelude.{ℕ, List, drop, Option, Some, None}
use Rattle.carrier_io.specs.declared.memory.MemorySource.{MemorySource}
use Rattle.carrier_io.specs.declared.memory.MemorySink.{MemorySink}
use Rattle.carrier_io.specs.declared.sure.SureSource.{SureSource}
use Rattle.carrier_io.specs.declared.sure.SureSink.{SureSink}

abbrev pub source_bytes : MemorySource → List ℕ
source_bytes s = drop s.at s.bytes.items

abbrev pub source_left : MemorySource → Option (List ℕ)
source_left s = Some (source_bytes s)

abbrev pub source_faults : MemorySource → ℕ
source_faults s = s.faults

-- the number of the next call, and the numbers of those that fail
abbrev pub source_call : MemorySource → ℕ
source_call s = s.calls

abbrev pub source_failing : MemorySource → List ℕ
source_failing s = s.failing.items

abbrev pub sink_bytes : MemorySink → List ℕ
sink_bytes s = s.bytes.items

abbrev pub sink_held : MemorySink → Option (List ℕ)
sink_held s = Some (sink_bytes s)

abbrev pub sink_faults : MemorySink → ℕ
sink_faults s = s.faults

abbrev pub sink_room : MemorySink → ℕ
sink_room s = s.room

abbrev pub sink_call : MemorySink → ℕ
sink_call s = s.calls

abbrev pub sink_failing : MemorySink → List ℕ
sink_failing s = s.failing.items

abbrev pub sure_bytes : SureSource → List ℕ
sure_bytes s = drop s.at s.bytes.items

abbrev pub sure_left : SureSource → Option (List ℕ)
sure_left s = Some (sure_bytes s)

-- it tells nothing of what it took but how many bytes
abbrev pub untold : SureSink → Option (List ℕ)
untold s = None

abbrev pub taken_of : SureSink → ℕ
taken_of s = s.taken
