use Rattle.std.proofs.Common.{true, ◌≡◌, refl, [], ◌∷◌, ◌++◌}
use Rattle.raft_model.specs.Step.{row}
use Rattle.raft_model.specs.Allowed.{are_allowed}
use Rattle.raft_model.specs.Group.{act, run}
use Rattle.raft_model.specs.declared.note.Note.TheVariants as notes
use Rattle.raft_runs.specs.Crashed as crashed
use Rattle.raft_runs.specs.Runs.{key}
use Rattle.raft_runs.specs.Witness.Groups.{after}
use Rattle.raft_runs.specs.Witness.Starts as starts
use Rattle.raft_runs.proofs.witness.start_confirms_a_read.Goals as goal

-- the events are allowed
allowed_shown : are_allowed crashed.begun (crashed.events_of ++ starts.returned) ≡ true
unfolding act row
allowed_shown = refl

-- a batch, and the confirmed read
notes_is : (run starts.returned (after crashed.events_of crashed.begun)).notes ≡ notes.Pending 1 1 ∷ notes.Confirmed 2 (key 2 1 2) 3 ∷ []
unfolding run act row
notes_is = refl

pub returns : goal.returns
returns c = record { allowed = allowed_shown; notes = notes_is }
