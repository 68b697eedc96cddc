-- The row of Saved by what it needs of the batch.
use Rattle.std.specs.Prelude.{◌-◌, ◌==◌, ◌&&◌, Bool, min, max, if◌then◌else◌}
use Rattle.host_ids.specs.declared.batch.Batch.{Batch}
use Rattle.raft_core.specs.declared.saving.BatchMark.{BatchMark}
use Rattle.raft_model.specs.declared.state.State.{State as Replica}
use Rattle.roster.specs.Roster.{Seat}
use Rattle.raft_model.specs.Replica.{Row, quiet, is_candidate}
use Rattle.raft_model.specs.Voting.{granted_by}
use Rattle.raft_model.specs.Saving.{batch_last, then_own_match}

abbrev pub mark : Batch → BatchMark
mark b = record { term = b.term; vote = b.vote; end = batch_last b }

abbrev pub counts_own_by : BatchMark → Seat → Replica → Bool
counts_own_by m s r = is_candidate r && (m.term == r.term) && (m.vote == s.me)

abbrev pub own_vote_by : BatchMark → Seat → Replica → Row
own_vote_by m s r = if counts_own_by m s r then granted_by s s.me r else quiet r

abbrev pub stabilised_by : BatchMark → Replica → Replica
stabilised_by m r = record r { stable = max r.log.front (min m.end (r.from - 1)) }

-- for the mark of a batch this is the row of Saved with that batch
abbrev pub saved_by : BatchMark → Seat → Replica → Row
saved_by m s r = then_own_match s (own_vote_by m s (stabilised_by m r))
