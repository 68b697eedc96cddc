use Rattle.raft_runs.proofs.Computed.{followed_notes, followed_decided, followed_replicas, followed_sent}
use Rattle.raft_runs.proofs.laws.followed_run.Goals as goal

pub returns : goal.returns
returns c = record { notes = followed_notes; decided = followed_decided; replicas = followed_replicas; sent = followed_sent }
