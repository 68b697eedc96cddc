use Rattle.std.proofs.Common.{◌≡◌, true, refl}
use Rattle.raft_model.specs.Step.{row}
use Rattle.raft_model.specs.Allowed.{are_allowed}
use Rattle.raft_model.specs.Group.{act}
use Rattle.raft_runs.specs.DrawnThree as drawn_three
use Rattle.raft_runs.specs.DrawnFive as drawn_five
use Rattle.raft_runs.specs.DrawnApart as drawn_apart
use Rattle.raft_runs.proofs.witness.drawn_runs_are_allowed.Goals as goal

-- four starts, two of them with a whole batch, and a chunk
three_shown : are_allowed drawn_three.begun drawn_three.events_of ≡ true
unfolding act row
three_shown = refl

-- five starts and a chunk
five_shown : are_allowed drawn_five.begun drawn_five.events_of ≡ true
unfolding act row
five_shown = refl

-- three starts, a chunk and an install
apart_shown : are_allowed drawn_apart.begun drawn_apart.events_of ≡ true
unfolding act row
apart_shown = refl

pub returns : goal.returns
returns c = record {
  three = three_shown;
  five = five_shown;
  apart = apart_shown;
}
