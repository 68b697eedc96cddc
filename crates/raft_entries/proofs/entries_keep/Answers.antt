use Rattle.raft_entries.specs.Has.{Passes, IsOneOf}
use Rattle.raft_entries.proofs.Keeping.{keeps}
use Rattle.raft_entries.proofs.entries_keep.Goals as goal

pub returns : goal.returns
returns c = record { tests = λ test blank. keeps (Passes test) blank; lists = λ list blank. keeps (IsOneOf list) blank }
