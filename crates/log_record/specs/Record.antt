-- The records of the log files as bytes, and how they are read. Source: this project's own.
use Rattle.std.specs.Prelude.{◌≡◌, ℕ, ◌+◌, ◌-◌, ◌^◌, ◌==◌, ◌&&◌, List, [], ◌∷◌, ◌++◌, Bool, true, Result, min, nat_le, nat_lt, length, if◌then◌else◌}
use Rattle.std.specs.List.{flat_map, list_all}
use Rattle.host_ids.specs.declared.entry.Entry.{Entry}
use Rattle.wire_types.specs.Grammar.{is_entry}
use Rattle.wire_codec.specs.Reading.{Reader, number, number_bytes, both, made, many, whole}
use Rattle.wire_codec.specs.Entry.{greatest, entry_bytes, entry_at, fits}
use Rattle.log_record.specs.declared.record.Record.{Record}
use Rattle.log_record.specs.declared.record.Record.TheVariants as records
use Rattle.log_record.specs.declared.record.TheConstants.{BATCH, START, MOST_VOTE}

-- ---- well-formed records

-- well-formed entries with the indices from one on
abbrev pub are_from : ℕ → List Entry → Bool
are_from first [] = true
are_from first (e ∷ es) = (e.index == first) && is_entry e && are_from (first + 1) es

-- how many entries may stand from an index on: their number fits in four bytes, and the index after them in eight
abbrev pub most_entries : ℕ → ℕ
most_entries first = min (2 ^ 32 - 1) (greatest - first)

-- a batch's vote is a host or 0, and its entries are well formed, with the indices from the first on, and not too many; a start has any number
abbrev pub is_record : Record → Bool
is_record (records.Batch term vote commit front front_term first entries) = nat_le vote MOST_VOTE && nat_le (length entries) (most_entries first) && are_from first entries
is_record (records.Start number) = true

-- ---- batches

abbrev pub Counted : Type 0
Counted = ℕ × List Entry

abbrev pub BatchParts : Type 0
BatchParts = ℕ × (ℕ × (ℕ × (ℕ × (ℕ × (ℕ × Counted)))))

-- the term, the vote, the commit index, the front and its term, the index of the first entry, the number of entries, and the entries
abbrev pub batch_bytes : BatchParts → List ℕ
batch_bytes p =
    number_bytes 8 p.0 ++ (number_bytes 1 p.1.0 ++ (number_bytes 8 p.1.1.0 ++ (number_bytes 8 p.1.1.1.0 ++ (number_bytes 8 p.1.1.1.1.0 ++ (number_bytes 8 p.1.1.1.1.1.0
    ++ (number_bytes 4 p.1.1.1.1.1.1.0 ++ flat_map entry_bytes p.1.1.1.1.1.1.1))))))

-- the tag of a batch, and its numbers before that of its entries
abbrev pub head_bytes : ℕ → ℕ → ℕ → ℕ → ℕ → ℕ → List ℕ
head_bytes term vote commit front front_term first =
    number_bytes 1 BATCH ++ (number_bytes 8 term ++ (number_bytes 1 vote ++ (number_bytes 8 commit ++ (number_bytes 8 front ++ (number_bytes 8 front_term ++ number_bytes 8 first)))))

abbrev pub entries_at : ℕ → Reader Counted
entries_at first = both (number 4 0 (most_entries first)) (λ count. many entry_at first count)

abbrev pub batch_at : Reader BatchParts
batch_at =
    both (number 8 0 greatest) (λ term. both (number 1 0 MOST_VOTE) (λ vote. both (number 8 0 greatest) (λ commit. both (number 8 0 greatest) (λ front. both (number 8 0 greatest)
    (λ front_term. both (number 8 0 greatest) entries_at)))))

abbrev pub of_batch : BatchParts → Record
of_batch p = records.Batch p.0 p.1.0 p.1.1.0 p.1.1.1.0 p.1.1.1.1.0 p.1.1.1.1.1.0 p.1.1.1.1.1.1.1

-- ---- records

-- the tag, and what it says
abbrev pub record_bytes : Record → List ℕ
record_bytes (records.Batch term vote commit front front_term first entries) = number_bytes 1 BATCH ++ batch_bytes (term, (vote, (commit, (front, (front_term, (first, (length entries, entries)))))))
record_bytes (records.Start number) = number_bytes 1 START ++ number_bytes 8 number

abbrev pub of_start : ℕ → Record
of_start n = records.Start n

abbrev pub tagged : ℕ → Reader Record
tagged tag = if tag == BATCH then made of_batch batch_at else made of_start (number 8 0 greatest)

abbrev pub without_tag : ℕ × Record → Record
without_tag p = p.1

abbrev pub record_at : Reader Record
record_at = made without_tag (both (number 1 BATCH START) tagged)

-- the record that has these bytes, or the length of the longest front that begins some record's bytes
unfoldable pub record_of : List ℕ → Result Record ℕ
record_of bytes = whole record_at bytes

-- ---- records that bytes can hold

-- each number of a batch's head fits in its field
abbrev pub fits_head : ℕ → ℕ → ℕ → ℕ → ℕ → Bool
fits_head term commit front front_term first = nat_lt term (2 ^ 64) && nat_lt commit (2 ^ 64) && nat_lt front (2 ^ 64) && nat_lt front_term (2 ^ 64) && nat_lt first (2 ^ 64)

-- each number fits in its field
abbrev pub fits_record : Record → Bool
fits_record (records.Batch term vote commit front front_term first entries) = fits_head term commit front front_term first && list_all fits entries
fits_record (records.Start number) = nat_lt number (2 ^ 64)

pub record IsRecord (r : Record) : Type 0 where
  pub well_formed : is_record r ≡ true
  pub fitting : fits_record r ≡ true
