-- The rows of Ready and Saved. Source: this project's own; what must be saved before it is answered is dissertation section 3.8.
use Rattle.std.specs.Prelude.{ℕ, ◌+◌, ◌-◌, ◌^◌, ◌==◌, ◌&&◌, List, [], ◌∷◌, Bool, not, nat_le, min, max, length, drop, Some, None, slice_set, if◌then◌else◌}
use Rattle.host_ids.specs.declared.entry.Entry.{Entry}
use Rattle.host_ids.specs.declared.proposal.Proposal.{Proposal}
use Rattle.host_ids.specs.declared.proposal.Proposal.TheVariants.{Blank, Plain, Session, Register, Close}
use Rattle.host_ids.specs.declared.batch.Batch.{Batch}
use Rattle.roster.specs.Roster.{Seat}
use Rattle.log_view.specs.Log.{last}
use Rattle.raft_model.specs.declared.state.State.{State as Replica}
use Rattle.raft_model.specs.Replica.{Row, quiet, is_leader, is_candidate, is_changed, is_pending, commit_rule}
use Rattle.raft_model.specs.Voting.{granted_by}

-- the bytes of an entry: 51, and its payload
abbrev pub payload : Proposal → List ℕ
payload Blank = []
payload (Plain command) = command
payload (Session client series responded command) = command
payload (Register client) = []
payload (Close client) = []

abbrev pub bytes_of : List Entry → ℕ
bytes_of [] = 0
bytes_of (e ∷ es) = 51 + length (payload e.proposal) + bytes_of es

-- the entries from the least index that changed on
abbrev pub unsaved : Replica → List Entry
unsaved r = drop (r.from - r.log.front - 1) r.log.entries

-- the next batch would have entries of 2^31 bytes or more: it isn't taken
abbrev pub is_stuck : Replica → Bool
is_stuck r = nat_le (2 ^ 31) (bytes_of (unsaved r))

-- batch ids count from 1 to 2^62 and then from 1 again
abbrev pub next_id : ℕ → ℕ
next_id n = if n == 2 ^ 62 then 1 else n + 1

-- the next batch: term, vote, commit index, front and its term, and the entries that changed
abbrev pub batch_of : Replica → Batch
batch_of r = record { id = next_id r.batches; term = r.term; vote = r.vote; commit = r.commit; front = r.log.front; front_term = r.log.front_term; first = r.from; entries = unsaved r }

-- the held envelopes wait for the batch
abbrev pub gave_batch : Replica → Replica
gave_batch r = record r {
  pending = Some (record { batch = batch_of r; envelopes = r.held });
  held = [];
  taken = record { term = r.term; vote = r.vote; commit = r.commit; front = r.log.front };
  from = last r.log + 1;
  batches = next_id r.batches;
}

-- | Ready | pending, not changed, or stuck | note Idle |
-- | Ready | else | the batch is term, vote, commit, front and its term, first = from, and the entries from there; the held envelopes become the batch's; from = last + 1; batch ids count from 1 to 2^62 and then from 1 again |
abbrev pub may_give : Replica → Bool
may_give r = not (is_pending r) && is_changed r && not (is_stuck r)

abbrev pub batch_last : Batch → ℕ
batch_last b = b.first + length b.entries - 1

-- what is saved: up to the batch's last index, as far as the log is still as it was then
abbrev pub stabilised : Batch → Replica → Replica
stabilised b r = record r { stable = max r.log.front (min (batch_last b) (r.from - 1)) }

-- a candidate counts its own vote once it is saved
abbrev pub counts_own : Seat → Batch → Replica → Bool
counts_own s b r = is_candidate r && (b.term == r.term) && (b.vote == s.me)

abbrev pub own_vote : Seat → Batch → Replica → Row
own_vote s b r = if counts_own s b r then granted_by s s.me r else quiet r

-- a leader counts its own entries once they are saved
abbrev pub own_match : Seat → Replica → Replica
own_match s r = if is_leader r then commit_rule s (record r { matched = slice_set r.matched s.me r.stable }) else r

abbrev pub then_own_match : Seat → Row → Row
then_own_match s w = record w { replica = record (own_match s w.replica) { pending = None } }

-- | Saved | pending id | the batch's envelopes go on the wire; stable = greater of front and least of the batch's last index and from - 1; where Candidate and the batch has this term and the vote for me: me is granted, with a majority: Lead; where Leader: matched[me] = stable and the commit rule; no batch is pending |
abbrev pub saved_batch : Seat → Batch → Replica → Row
saved_batch s b r = then_own_match s (own_vote s b (stabilised b r))
