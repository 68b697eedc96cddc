use Rattle.raft_runs.proofs.Computed.{deposed_notes, deposed_decided, deposed_replicas, deposed_sent}
use Rattle.raft_runs.proofs.laws.deposed_run.Goals as goal

pub returns : goal.returns
returns c = record { notes = deposed_notes; decided = deposed_decided; replicas = deposed_replicas; sent = deposed_sent }
