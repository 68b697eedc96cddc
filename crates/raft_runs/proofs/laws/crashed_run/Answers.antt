use Rattle.raft_runs.proofs.Computed.{crashed_notes, crashed_decided, crashed_replicas, crashed_sent}
use Rattle.raft_runs.proofs.laws.crashed_run.Goals as goal

pub returns : goal.returns
returns c = record { notes = crashed_notes; decided = crashed_decided; replicas = crashed_replicas; sent = crashed_sent }
