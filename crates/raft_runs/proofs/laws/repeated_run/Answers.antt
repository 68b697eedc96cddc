use Rattle.raft_runs.proofs.Computed.{repeated_notes, repeated_decided, repeated_replicas, repeated_sent}
use Rattle.raft_runs.proofs.laws.repeated_run.Goals as goal

pub returns : goal.returns
returns c = record { notes = repeated_notes; decided = repeated_decided; replicas = repeated_replicas; sent = repeated_sent }
