-- What stands inside a source and a sink over std.
use Rattle.std.specs.Prelude.{ℕ}
use Rattle.fault_io.specs.declared.standard.StdSource.{StdSource}
use Rattle.fault_io.specs.declared.standard.StdSink.{StdSink}

-- the reader as it stands
abbrev pub source_reader : {R : Type 0} → StdSource R → R
source_reader s = s.reader

-- how many calls failed, which stays at the last value of a u64
abbrev pub reader_faults : {R : Type 0} → StdSource R → ℕ
reader_faults s = s.failed

-- the writer as it stands
abbrev pub sink_writer : {W : Type 0} → StdSink W → W
sink_writer s = s.writer

-- how many calls failed, which stays at the last value of a u64
abbrev pub writer_faults : {W : Type 0} → StdSink W → ℕ
writer_faults s = s.failed
