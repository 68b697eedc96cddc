use Rattle.raft_runs.proofs.Computed.{drawn_apart_notes, drawn_apart_decided, drawn_apart_replicas, drawn_apart_sent}
use Rattle.raft_runs.proofs.laws.drawn_apart_run.Goals as goal

pub returns : goal.returns
returns c = record { notes = drawn_apart_notes; decided = drawn_apart_decided; replicas = drawn_apart_replicas; sent = drawn_apart_sent }
