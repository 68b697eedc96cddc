-- How code tells where the laying of entries into a log begins.
use Rattle.std.specs.Prelude.{ℕ, ◌+◌, List, drop, Option, Some, None}
use Rattle.host_ids.specs.declared.entry.Entry.{Entry}
use Rattle.log_view.specs.Log.{Log, Laid, append_after}

-- laid from the first place on whose entry isn't in the log, if there is one
abbrev pub laid_from : Log → ℕ → List Entry → Option ℕ → Laid
laid_from l prev es None = record { log = l; changed_from = None }
laid_from l prev es (Some place) = record { log = append_after l (prev + place) (drop place es); changed_from = Some (prev + place + 1) }
