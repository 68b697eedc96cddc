-- What a store holds in memory, and what it says of its file. Source: this project's own.
use Rattle.std.specs.Prelude.{◌≡◌, ◌+◌, ℕ, List, Result, Ok, Err}
use Rattle.host_ids.specs.declared.batch.Batch.{Batch}
use Rattle.host_ids.specs.declared.entry.Entry.{Entry}
use Rattle.disk_model.specs.State.{DiskState}
use Rattle.log_record.specs.declared.gate_file.GateFile.{GateFile}
use Rattle.log_record.specs.declared.record.Record.{Record}
use Rattle.log_record.specs.Durable.{durable_of}
use Rattle.log_record.specs.Store.{IsStore}
use Rattle.log_store.specs.declared.kept.Kept.{Kept}

-- all that is kept, as one batch
abbrev pub batch_of : Kept → Batch
batch_of k = record { id = 0; term = k.term; vote = k.vote; commit = k.commit; front = k.front; front_term = k.front_term; first = k.front + 1; entries = k.entries.items }

abbrev pub with_entries : Batch → List Entry → Batch
with_entries b es = record b { entries = es }

-- a store: its file, and what is kept
pub record Plain : Type 0 where
  pub file : GateFile
  pub kept : Batch

-- a file has records that keep what the store has, and all of it is sure
pub record IsSure (d : DiskState) (s : Plain) : Type 0 where
  pub records : List Record
  pub is_store : IsStore d s.file records
  pub same : s.kept ≡ durable_of records

-- what a file keeps, or the file and the place of what is refused
abbrev pub told : ℕ → Result Batch ℕ → Result Batch (ℕ × ℕ)
told file (Ok d) = Ok d
told file (Err at) = Err (file, at)
