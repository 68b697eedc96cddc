use Rattle.std.proofs.Common.{◌≡◌, true, refl}
use Rattle.raft_model.specs.Step.{row}
use Rattle.raft_model.specs.Allowed.{are_allowed}
use Rattle.raft_model.specs.Group.{act}
use Rattle.raft_runs.specs.Followed as followed
use Rattle.raft_runs.specs.Minority as minority
use Rattle.raft_runs.specs.Repeated as repeated
use Rattle.raft_runs.specs.Deposed as deposed
use Rattle.raft_runs.specs.Lagging as lagging
use Rattle.raft_runs.specs.Crashed as crashed
use Rattle.raft_runs.specs.Installed as installed
use Rattle.raft_runs.proofs.witness.worked_runs_are_allowed.Goals as goal

followed_shown : are_allowed followed.begun followed.events_of ≡ true
unfolding act row
followed_shown = refl

minority_shown : are_allowed minority.begun minority.events_of ≡ true
unfolding act row
minority_shown = refl

repeated_shown : are_allowed repeated.begun repeated.events_of ≡ true
unfolding act row
repeated_shown = refl

deposed_shown : are_allowed deposed.begun deposed.events_of ≡ true
unfolding act row
deposed_shown = refl

lagging_shown : are_allowed lagging.begun lagging.events_of ≡ true
unfolding act row
lagging_shown = refl

crashed_shown : are_allowed crashed.begun crashed.events_of ≡ true
unfolding act row
crashed_shown = refl

-- a start, three chunks and an install are among these
installed_shown : are_allowed installed.begun installed.events_of ≡ true
unfolding act row
installed_shown = refl

pub returns : goal.returns
returns c = record {
  followed = followed_shown;
  minority = minority_shown;
  repeated = repeated_shown;
  deposed = deposed_shown;
  lagging = lagging_shown;
  crashed = crashed_shown;
  installed = installed_shown;
}
