use Rattle.raft_safety.proofs.Laws.OneList.{one_list}
use Rattle.raft_safety.proofs.Laws.Rows.{stays_kept}
use Rattle.raft_safety.proofs.one_list.Goals as goal

pub returns : goal.returns
returns c = one_list stays_kept
