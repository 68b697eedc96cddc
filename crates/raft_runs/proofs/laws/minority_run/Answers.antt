use Rattle.raft_runs.proofs.Computed.{minority_notes, minority_decided, minority_replicas, minority_sent}
use Rattle.raft_runs.proofs.laws.minority_run.Goals as goal

pub returns : goal.returns
returns c = record { notes = minority_notes; decided = minority_decided; replicas = minority_replicas; sent = minority_sent }
