-- The notes of a row, by what its code answers.
use Rattle.std.specs.Prelude.{ℕ, List, [], ◌∷◌, Bool, if◌then◌else◌}
use Rattle.host_ids.specs.declared.entry.Key.{Key}
use Rattle.raft_model.specs.declared.note.Note.{Note}
use Rattle.raft_model.specs.declared.note.Note.TheVariants as notes
use Rattle.roster.specs.Roster.{Seat}

abbrev pub led_notes : Seat → ℕ → Bool → List Note
led_notes s term b = if b then notes.Leader s.me term ∷ [] else []

abbrev pub idle_notes : Bool → List Note
idle_notes b = if b then notes.Idle ∷ [] else []

abbrev pub dropped_notes : Key → Bool → List Note
dropped_notes key b = if b then notes.Dropped key ∷ [] else []
