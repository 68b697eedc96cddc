-- A log: a front index with its term, then entries. Source: dissertation chapters 3 and 5.
use Rattle.std.specs.Prelude.{ℕ, ◌+◌, ◌-◌, ◌==◌, ◌||◌, ◌&&◌, List, [], ◌∷◌, ◌++◌, Bool, nat_lt, nat_le, length, take, drop, Option, Some, None, slice_get, if◌then◌else◌}
use Rattle.host_ids.specs.declared.entry.Entry.{Entry}

pub record Log : Type 0 where
  pub front : ℕ
  pub front_term : ℕ
  pub entries : List Entry

-- no entries, from the front 0
abbrev pub empty : Log
empty = record { front = 0; front_term = 0; entries = [] }

-- the last index
abbrev pub last : Log → ℕ
last l = l.front + length l.entries

-- the term at a place of a list, 0 past its end (no entry has the term 0)
abbrev pub term_or_zero : Option Entry → ℕ
term_or_zero None = 0
term_or_zero (Some e) = e.term

abbrev pub term_in : List Entry → ℕ → ℕ
term_in es k = term_or_zero (slice_get es k)

-- the term at an index from front to last, 0 elsewhere
abbrev pub term_at : Log → ℕ → ℕ
term_at l i = if i == l.front then l.front_term else (if nat_lt i l.front then 0 else term_in l.entries (i - l.front - 1))

abbrev pub last_term : Log → ℕ
last_term l = term_at l (last l)

-- the same, and nothing elsewhere
abbrev pub term_there : Log → ℕ → Option ℕ
term_there l i = if nat_lt i l.front || nat_lt (last l) i then None else Some (term_at l i)

-- at most `most` entries from an index on
abbrev pub slice : Log → ℕ → ℕ → List Entry
slice l first most = take most (drop (first - l.front - 1) l.entries)

-- the entries up to an index, and then these
abbrev pub append_after : Log → ℕ → List Entry → Log
append_after l i es = record l { entries = take (i - l.front) l.entries ++ es }

-- the front becomes an index, with its term; the entries up to it go
abbrev pub cut_front : Log → ℕ → Log
cut_front l i = record { front = i; front_term = term_at l i; entries = drop (i - l.front) l.entries }

abbrev pub reset : ℕ → ℕ → Log
reset i t = record { front = i; front_term = t; entries = [] }

-- a log after entries were laid into it, and the least index that changed
pub record Laid : Type 0 where
  pub log : Log
  pub changed_from : Option ℕ

-- an entry is passed over that is committed, or stands in the log with its term; from the first other one on the log's rest is replaced
abbrev pub is_kept : Log → ℕ → ℕ → ℕ → Bool
is_kept l commit index term = nat_le index commit || (nat_le index (last l) && (term_at l index == term))

abbrev pub laid : Log → ℕ → ℕ → List Entry → Laid
laid l commit prev [] = record { log = l; changed_from = None }
laid l commit prev (e ∷ es) =
    if is_kept l commit (prev + 1) e.term then laid l commit (prev + 1) es
    else record { log = append_after l prev (e ∷ es); changed_from = Some (prev + 1) }
