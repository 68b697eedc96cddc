-- What a source and a sink in memory show.
use Rattle.std.specs.Prelude.{ℕ, List, drop}
use Rattle.fault_io.specs.declared.memory.MemSource.{MemSource}
use Rattle.fault_io.specs.declared.memory.MemSink.{MemSink}

-- the bytes that are left
abbrev pub source_bytes : MemSource → List ℕ
source_bytes s = drop s.at s.bytes.items

-- how many calls were made, which stays at the last value of a u64
abbrev pub source_calls : MemSource → ℕ
source_calls s = s.calls.made

-- the calls that fail, counted from 1
abbrev pub source_failing : MemSource → List ℕ
source_failing s = s.calls.failing.items

-- how many calls failed, which stays at the last value of a u64
abbrev pub source_faults : MemSource → ℕ
source_faults s = s.calls.failed

-- the bytes that were written
abbrev pub sink_bytes : MemSink → List ℕ
sink_bytes s = s.written.items

-- how many calls were made, which stays at the last value of a u64
abbrev pub sink_calls : MemSink → ℕ
sink_calls s = s.calls.made

-- the calls that fail, counted from 1
abbrev pub sink_failing : MemSink → List ℕ
sink_failing s = s.calls.failing.items

-- how many calls failed, which stays at the last value of a u64
abbrev pub sink_faults : MemSink → ℕ
sink_faults s = s.calls.failed
