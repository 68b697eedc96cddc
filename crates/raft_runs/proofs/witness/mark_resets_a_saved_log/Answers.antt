use Rattle.std.proofs.Common.{true, ◌≡◌, refl, [], ◌∷◌, ◌++◌}
use Rattle.raft_model.specs.Step.{row}
use Rattle.raft_model.specs.Allowed.{are_allowed}
use Rattle.raft_model.specs.Group.{act, run, replica_at, saved_at}
use Rattle.raft_runs.specs.Witness.Groups.{three, after, log_at, terms}
use Rattle.raft_runs.specs.Witness.Starts as starts
use Rattle.raft_runs.proofs.witness.mark_resets_a_saved_log.Goals as goal

-- the events are allowed
allowed_shown : are_allowed three (starts.overtaken ++ starts.starts_marked) ≡ true
unfolding act row
allowed_shown = refl

-- host 1 has saved an entry of term 1
saved_is : terms (saved_at (after (starts.overtaken ++ starts.starts_marked) three) 1).entries ≡ 1 ∷ []
unfolding run act row
saved_is = refl

-- its log begins at the snapshot
now_is : log_at (after (starts.overtaken ++ starts.starts_marked) three) 1 ≡ record { front = 1; front_term = 2; entries = [] }
unfolding run act row
now_is = refl

-- it knows its place as decided
commit_is : (replica_at (after (starts.overtaken ++ starts.starts_marked) three) 1).commit ≡ 1
unfolding run act row
commit_is = refl

pub returns : goal.returns
returns c = record {
  allowed = allowed_shown;
  saved = saved_is;
  now = now_is;
  commit = commit_is;
}
