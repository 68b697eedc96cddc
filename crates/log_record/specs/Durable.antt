-- What a store keeps of the batches that were saved. Source: this project's own.
use Rattle.std.specs.Prelude.{◌≡◌, ◌⊎◌, ℕ, ◌+◌, ◌-◌, ◌^◌, ◌<◌, ◌≤◌, ◌&&◌, List, [], ◌∷◌, ◌++◌, Bool, true, false, Result, Ok, Err, nat_lt, length, take, drop}
use Rattle.host_ids.specs.declared.batch.Batch.{Batch}
use Rattle.host_ids.specs.declared.entry.Entry.{Entry}
use Rattle.disk_model.specs.Crash.{Image}
use Rattle.wire_types.specs.Grammar.{is_end}
use Rattle.log_record.specs.declared.record.Record.{Record}
use Rattle.log_record.specs.declared.record.Record.TheVariants as records
use Rattle.log_record.specs.declared.record.TheConstants.{MOST_VOTE}
use Rattle.log_record.specs.declared.reached.Reached.{Reached}
use Rattle.log_record.specs.Record.{are_from, is_record, record_bytes}
use Rattle.log_record.specs.Store.{Opening, follows, store_of}

-- ---- batches as records

abbrev pub batch_record : Batch → Record
batch_record b = records.Batch b.term b.vote b.commit b.front b.front_term b.first b.entries

-- well formed, with fewer than 2^32 bytes
abbrev pub is_small : Record → Bool
is_small r = is_record r && nat_lt (length (record_bytes r)) (2 ^ 32)

-- a batch that can be saved in a file where so much is reached
abbrev pub takes : ℕ → Reached → Batch → Bool
takes file s b = is_small (batch_record b) && follows file s (batch_record b)

-- ---- what is kept, as one batch of all kept entries; its number is 0

abbrev pub nothing_kept : Batch
nothing_kept = record { id = 0; term = 0; vote = 0; commit = 0; front = 0; front_term = 0; first = 1; entries = [] }

-- of the entries from front + 1 on, those before an index and after a later front
abbrev pub between : Batch → ℕ → ℕ → List Entry
between d front first = drop (front - d.front) (take (first - 1 - d.front) d.entries)

-- the numbers are the batch's, and so are the entries from its first on; of those before it the ones after its front stay
abbrev pub with_batch : Batch → Batch → Batch
with_batch d b = record {
  id = 0;
  term = b.term;
  vote = b.vote;
  commit = b.commit;
  front = b.front;
  front_term = b.front_term;
  first = b.front + 1;
  entries = between d b.front b.first ++ b.entries;
}

abbrev pub with_record : Batch → Record → Batch
with_record d (records.Batch term vote commit front front_term first entries) =
    with_batch d (record { id = 0; term = term; vote = vote; commit = commit; front = front; front_term = front_term; first = first; entries = entries })
with_record d (records.Start number) = d

abbrev pub with_records : Batch → List Record → Batch
with_records d [] = d
with_records d (r ∷ rs) = with_records (with_record d r) rs

-- what records keep, of which each may follow those before it
abbrev pub durable_of : List Record → Batch
durable_of rs = with_records nothing_kept rs

abbrev pub durable_if : Opening → Result Batch ℕ
durable_if (Ok o) = Ok (durable_of o.0)
durable_if (Err at) = Err at

-- what is kept is in form: the entries are well formed, with the indices after the front, whose term is 0 exactly where it is 0; the last index and the front are below 2^64 - 1
pub record IsInForm (d : Batch) : Type 0 where
  pub first : d.first ≡ d.front + 1
  pub vote : d.vote ≤ MOST_VOTE
  pub front : is_end d.front d.front_term ≡ true
  pub formed : are_from (d.front + 1) d.entries ≡ true
  pub within : d.front + length d.entries < 2 ^ 64 - 1

-- and comes to what is reached
pub record Reaches (s : Reached) (d : Batch) : Type 0 where
  pub term : d.term ≡ s.term
  pub commit : d.commit ≡ s.commit
  pub front : d.front ≡ s.front
  pub last : d.front + length d.entries ≡ s.last

-- what a file's bytes keep, or the place of what is refused
abbrev pub durable_in : ℕ → List ℕ → Result Batch ℕ
durable_in file bytes = durable_if (store_of file bytes)

-- bytes that keep this
abbrev pub Keeps : ℕ → Batch → List ℕ → Type 0
Keeps file d bytes = durable_in file bytes ≡ Ok d

-- ---- stores of more files

-- two images agree outside some files
abbrev pub SameOutside : (ℕ → Bool) → Image → Image → Type 0
SameOutside owns c d = (f : ℕ) → owns f ≡ false → d f ≡ c f

-- an image that a crash before could have left, but for a store's files, which open to one state or another
abbrev pub LeavesStore : (ℕ → Bool) → (Image → Result Batch (ℕ × ℕ)) → (Image → Type 0) → Batch → Batch → Image → Type 0
LeavesStore owns opens may_leave old new c = (d : Image) × may_leave d × SameOutside owns d c × ((opens c ≡ Ok old) ⊎ (opens c ≡ Ok new))
