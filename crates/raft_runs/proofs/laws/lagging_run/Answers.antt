use Rattle.raft_runs.proofs.Computed.{lagging_notes, lagging_decided, lagging_replicas, lagging_sent}
use Rattle.raft_runs.proofs.laws.lagging_run.Goals as goal

pub returns : goal.returns
returns c = record { notes = lagging_notes; decided = lagging_decided; replicas = lagging_replicas; sent = lagging_sent }
