use Rattle.raft_runs.proofs.Computed.{drawn_five_notes, drawn_five_decided, drawn_five_replicas, drawn_five_sent}
use Rattle.raft_runs.proofs.laws.drawn_five_run.Goals as goal

pub returns : goal.returns
returns c = record { notes = drawn_five_notes; decided = drawn_five_decided; replicas = drawn_five_replicas; sent = drawn_five_sent }
