-- What the adapters over std tell.
use Rattle.std.specs.Prelude.{ℕ, List, Option}
use Rattle.carrier_io.specs.declared.std_devices.StdSource.{StdSource}
use Rattle.carrier_io.specs.declared.std_devices.StdSink.{StdSink}

-- what the reader has left, and how often a read failed
abbrev pub reader_left : {R : Type 0} → (R → Option (List ℕ)) → StdSource R → Option (List ℕ)
reader_left remaining s = remaining s.reader

abbrev pub reader_faults : {R : Type 0} → StdSource R → ℕ
reader_faults s = s.faults

-- what the writer holds, and how often a write failed
abbrev pub writer_held : {W : Type 0} → (W → Option (List ℕ)) → StdSink W → Option (List ℕ)
writer_held contents s = contents s.writer

abbrev pub writer_faults : {W : Type 0} → StdSink W → ℕ
writer_faults s = s.faults
