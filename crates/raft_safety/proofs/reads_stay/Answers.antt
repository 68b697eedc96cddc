use Rattle.raft_safety.proofs.Reading.Events.{first_reads, stays_reads, notes_fronts}
use Rattle.raft_safety.proofs.Laws.Rows.{stays_kept}
use Rattle.raft_safety.proofs.reads_stay.Goals as goal

pub returns : goal.returns
returns c = record { begins = first_reads stays_kept; stays = stays_reads stays_kept; fronts = notes_fronts stays_kept }
