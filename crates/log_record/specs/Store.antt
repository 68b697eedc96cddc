-- The bytes of a log file: the records after its open gates, each of which may follow those before it. Source: this project's own.
use Rattle.std.specs.Prelude.{◌≤◌, IsErrOf, ◌≡◌, ◌≢◌, drop, ◌++◌, map, ℕ, zero, suc, ◌+◌, ◌-◌, ◌^◌, ◌<◌, ◌%◌, ◌==◌, ◌&&◌, ◌||◌, List, [], ◌∷◌, Bool, not, nat_le, nat_lt, Option, Some, None, Result, Ok, Err, length, take, get_or, if◌then◌else◌}
use Rattle.std.specs.List.{flat_map}
use Rattle.std.specs.Str.{bytes_eq}
use Rattle.wire_types.specs.Grammar.{is_end}
use Rattle.wire_codec.specs.Reading.{Reader, number, text, both}
use Rattle.disk_model.specs.Calls.{Rose}
use Rattle.disk_model.specs.State.{DiskState}
use Rattle.gate_files.specs.Gates.{IsAt, gated, header}
use Rattle.log_record.specs.declared.fault.StoreFault.{StoreFault}
use Rattle.log_record.specs.declared.fault.StoreFault.TheVariants.{Failed}
use Rattle.log_record.specs.declared.gate_file.GateFile.{GateFile}
use Rattle.log_record.specs.declared.record.Record.{Record}
use Rattle.log_record.specs.declared.record.Record.TheVariants as records
use Rattle.log_record.specs.declared.reached.Reached.{Reached}
use Rattle.log_record.specs.Record.{IsRecord, record_bytes, record_of}

-- ---- what may follow

abbrev pub nothing_yet : Reached
nothing_yet = record { number = 0; term = 0; commit = 0; front = 0; last = 0 }

-- the files of starts and of the groups' logs
abbrev pub is_starts : ℕ → Bool
is_starts file = file == 0

abbrev pub is_log : ℕ → Bool
is_log file = not (file == 0) && (file % 1000 == 0)

-- entries from an index on begin after the front and leave no gap
abbrev pub no_gap : Reached → ℕ → ℕ → Bool
no_gap s front first = nat_lt front first && (nat_le (first - 1) s.last || (first - 1 == front))

-- nothing that was promised is taken back: the entries begin after the front and leave no gap, the commit index is within the log, and term, commit index and front don't fall
abbrev pub batch_follows : Reached → ℕ → ℕ → ℕ → ℕ → ℕ → ℕ → Bool
batch_follows s term commit front front_term first count =
    no_gap s front first && nat_le front commit && nat_lt commit (first + count) && is_end front front_term && nat_le s.term term && nat_le s.commit commit && nat_le s.front front

-- starts count from 1; a batch follows in a group's log
abbrev pub follows : ℕ → Reached → Record → Bool
follows file s (records.Batch term vote commit front front_term first entries) = is_log file && batch_follows s term commit front front_term first (length entries)
follows file s (records.Start number) = is_starts file && nat_le 1 number && (number - 1 == s.number)

abbrev pub after : Reached → Record → Reached
after s (records.Batch term vote commit front front_term first entries) = record { number = s.number; term = term; commit = commit; front = front; last = first - 1 + length entries }
after s (records.Start number) = record { number = number; term = s.term; commit = s.commit; front = s.front; last = s.last }

-- what these records reach, where each may follow those before it
abbrev pub reached : ℕ → Reached → List Record → Option Reached
reached file s [] = Some s
reached file s (r ∷ rs) = if follows file s r then reached file (after s r) rs else None

-- ---- reading

-- the length of a record, and the record
abbrev pub sized_at : Reader (ℕ × List ℕ)
sized_at = both (number 4 0 (2 ^ 32 - 1)) text

abbrev pub Opening : Type 0
Opening = Result (List Record × ℕ) ℕ

-- a record before those that are read
abbrev pub with_record : Record → Opening → Opening
with_record r (Ok o) = Ok (r ∷ o.0, o.1)
with_record r (Err at) = Err at

abbrev pub if_follows : Bool → Opening → ℕ → Opening
if_follows b next at = if b then next else Err at

abbrev pub whole_record : Result Record ℕ → ℕ → Option (Record × ℕ)
whole_record (Ok r) next = Some (r, next)
whole_record (Err place) next = None

abbrev pub with_gate : List ℕ → Result ((ℕ × List ℕ) × ℕ) ℕ → Option (Record × ℕ)
with_gate bytes (Ok p) = if nat_lt p.1 (length bytes) then whole_record (record_of p.0.1) p.1 else None
with_gate bytes (Err place) = None

-- the record after the gate at a place, with the place of the next gate, if both are there
abbrev pub gated_at : List ℕ → ℕ → Option (Record × ℕ)
gated_at bytes at = with_gate bytes (sized_at bytes (at + 1))

-- the records from an open gate on, where the one after it may follow
abbrev pub from_record : ℕ → Reached → ℕ → Option (Record × ℕ) → (Record → ℕ → Opening) → Opening
from_record file s at (Some r) next = if_follows (follows file s r.0) (with_record r.0 (next r.0 r.1)) at
from_record file s at None next = Err at

-- the records from the gate at a place on, with the place of the first gate that isn't open; or the place of a gate after which no record stands that may follow. At most n gates are read
unfoldable pub from_place : ℕ → ℕ → Reached → List ℕ → ℕ → Opening
from_place zero file s bytes at = Err at
from_place (suc n) file s bytes at = if get_or bytes at 0 == 1 then from_record file s at (gated_at bytes at) (λ r next. from_place n file (after s r) bytes next) else Ok ([], at)

abbrev pub begins : List ℕ → Bool
begins bytes = nat_lt 8 (length bytes) && bytes_eq (take 8 bytes) header

-- the records of a file's bytes, with the place of its first gate that isn't open; or the place of what is refused, which is 0 for the header
unfoldable pub store_of : ℕ → List ℕ → Opening
store_of file bytes = if begins bytes then from_place (length bytes) file nothing_yet bytes 8 else Err 0

-- ---- files

-- a record that can be saved: its bytes are fewer than 2^32
pub record IsSmall (r : Record) : Type 0 where
  pub good : IsRecord r
  pub few : length (record_bytes r) < 2 ^ 32

abbrev pub AreSmall : List Record → Type 0
AreSmall [] = Unit {0}
AreSmall (r ∷ rs) = IsSmall r × AreSmall rs

abbrev pub all_gated : List Record → List ℕ
all_gated rs = flat_map gated (map record_bytes rs)

-- a file's bytes with the place of the first gate that isn't open, and what the records before it reach
pub record IsWhole (file : ℕ) (bytes : List ℕ) (rs : List Record) (gate : ℕ) (s : Reached) : Type 0 where
  pub small : AreSmall rs
  pub stands : bytes ≡ (header ++ all_gated rs) ++ drop gate bytes
  pub place : gate ≡ length (header ++ all_gated rs)
  pub within : gate < length bytes
  pub shut : get_or bytes gate 0 ≢ 1
  pub reaches : reached file nothing_yet rs ≡ Some s

-- bytes that open to these records
abbrev pub OpensTo : ℕ → List Record → List ℕ → Type 0
OpensTo file rs bytes = (gate : ℕ) × (store_of file bytes ≡ Ok (rs, gate))

-- a file that was opened or saved to, with these records, is as they say, and all of it is sure
pub record IsStore (s : DiskState) (g : GateFile) (rs : List Record) : Type 0 where
  pub at_gate : IsAt s g.file g.gate (map record_bytes rs)
  pub small : AreSmall rs
  pub reaches : reached g.file nothing_yet rs ≡ Some g.reached

-- the count of faults never falls, and a call fails only where it rose
pub record Caused {T : Type 0} (old new : DiskState) (result : Result T StoreFault) : Type 0 where
  pub later : old.faults ≤ new.faults
  pub failed : IsErrOf result Failed → Rose old.faults new.faults
