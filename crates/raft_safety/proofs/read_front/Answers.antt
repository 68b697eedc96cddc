use Rattle.raft_safety.proofs.Reading.Events.{read_front, first_ask}
use Rattle.raft_safety.proofs.Laws.Rows.{stays_kept}
use Rattle.raft_safety.proofs.read_front.Goals as goal

pub returns : goal.returns
returns c = record { fronts = read_front stays_kept; first = first_ask stays_kept }
