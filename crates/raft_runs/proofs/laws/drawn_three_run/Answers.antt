use Rattle.raft_runs.proofs.Computed.{drawn_three_notes, drawn_three_decided, drawn_three_replicas, drawn_three_sent}
use Rattle.raft_runs.proofs.laws.drawn_three_run.Goals as goal

pub returns : goal.returns
returns c = record { notes = drawn_three_notes; decided = drawn_three_decided; replicas = drawn_three_replicas; sent = drawn_three_sent }
