use Rattle.raft_runs.proofs.Computed.{installed_notes, installed_decided, installed_replicas, installed_sent}
use Rattle.raft_runs.proofs.laws.installed_run.Goals as goal

pub returns : goal.returns
returns c = record { notes = installed_notes; decided = installed_decided; replicas = installed_replicas; sent = installed_sent }
