use Rattle.raft_safety.proofs.Laws.First.{first_kept}
use Rattle.raft_safety.proofs.Laws.Agreed.{agreed}
use Rattle.raft_safety.proofs.Laws.Rows.{stays_kept, plain_kept}
use Rattle.raft_safety.proofs.groups_agree.Goals as goal

pub returns : goal.returns
returns c = record { begins = first_kept; stays = stays_kept; plain = plain_kept; agrees = agreed }
