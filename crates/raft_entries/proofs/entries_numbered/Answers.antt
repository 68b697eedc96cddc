use Rattle.raft_entries.proofs.Numbering.Groups.{groups_numbered}
use Rattle.raft_entries.proofs.entries_numbered.Goals as goal

pub returns : goal.returns
returns c = groups_numbered
