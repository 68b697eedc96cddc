-- A replica, and the words that the rows of its step table share. Source: dissertation chapters 3 and 5; batches, and that envelopes are held until what they promise is saved, are this project's own.
use Rattle.std.specs.Prelude.{ℕ, ◌+◌, ◌-◌, ◌^◌, ◌==◌, ◌||◌, ◌&&◌, List, [], ◌∷◌, ◌++◌, Bool, true, false, not, nat_lt, nat_le, min, Some, None, slice_set, if◌then◌else◌, zero, suc}
use Rattle.host_ids.specs.declared.entry.Entry.{Entry}
use Rattle.host_ids.specs.declared.entry.Key.{Key}
use Rattle.host_ids.specs.declared.proposal.Proposal.{Proposal}
use Rattle.host_ids.specs.declared.proposal.Proposal.TheVariants as proposals
use Rattle.wire_types.specs.declared.envelope.Body.{Body}
use Rattle.wire_types.specs.declared.envelope.Body.TheVariants as bodies
use Rattle.raft_model.specs.declared.role.Role.TheVariants.{Follower, Candidate, Leader}
use Rattle.raft_model.specs.declared.state.State.{State as Replica}
use Rattle.raft_model.specs.declared.note.Note.{Note}
use Rattle.raft_model.specs.declared.note.Note.TheVariants as notes
use Rattle.roster.specs.Roster.{Seat, at, all_at, none_set, is_majority}
use Rattle.read_index.specs.Reads.{no_reads, closed}
use Rattle.log_view.specs.Log
use Rattle.log_view.specs.Log.{Log, last, term_at, term_in, slice}

-- a replica that has just begun
abbrev pub fresh : Replica
fresh = record {
  term = 0;
  vote = 0;
  log = Log.empty;
  commit = 0;
  role = Follower;
  leader = 0;
  granted = none_set;
  next = all_at 0;
  matched = all_at 0;
  reads = no_reads;
  stable = 0;
  from = 1;
  pending = None;
  held = [];
  assembly = [];
  inbox = None;
  taken = record { term = 0; vote = 0; commit = 0; front = 0 };
  batches = 0;
}

-- what an input makes of a replica, and what it notes
pub record Row : Type 0 where
  pub replica : Replica
  pub notes : List Note

abbrev pub quiet : Replica → Row
quiet r = record { replica = r; notes = [] }

abbrev pub notes_idle : Replica → Row
notes_idle r = record { replica = r; notes = notes.Idle ∷ [] }

abbrev pub notes_dropped : Key → Replica → Row
notes_dropped key r = record { replica = r; notes = notes.Dropped key ∷ [] }

abbrev pub is_leader : Replica → Bool
is_leader r = elim r.role as (λ _. Bool) [ Follower ↦ false | Candidate ↦ false | Leader ↦ true ]

abbrev pub is_candidate : Replica → Bool
is_candidate r = elim r.role as (λ _. Bool) [ Follower ↦ false | Candidate ↦ true | Leader ↦ false ]

abbrev pub is_follower : Replica → Bool
is_follower r = elim r.role as (λ _. Bool) [ Follower ↦ true | Candidate ↦ false | Leader ↦ false ]

-- term, vote, commit index, front or log differ from those of the last batch that was taken: a log that changed and changed back has another term
abbrev pub is_changed : Replica → Bool
is_changed r =
    not (r.term == r.taken.term) || not (r.vote == r.taken.vote) || not (r.commit == r.taken.commit)
    || not (r.log.front == r.taken.front) || nat_le r.from (last r.log)

abbrev pub is_pending : Replica → Bool
is_pending r = elim r.pending as (λ _. Bool) [ None ↦ false | Some p ↦ true ]

-- an envelope of the replica's term is held
abbrev pub sent : Seat → ℕ → Body → Replica → Replica
sent s to body r = record r { held = r.held ++ record { from = s.me; to = to; group = s.group; term = r.term; body = body } ∷ [] }

-- an envelope of another term is held: 0 for a proposal, a read and its answer, and a chunk has its own
abbrev pub sent_in : ℕ → Seat → ℕ → Body → Replica → Replica
sent_in term s to body r = record r { held = r.held ++ record { from = s.me; to = to; group = s.group; term = term; body = body } ∷ [] }

-- something for each of these hosts but one, in their order
abbrev pub each_other : ℕ → (ℕ → Replica → Replica) → List ℕ → Replica → Replica
each_other me f [] r = r
each_other me f (v ∷ vs) r = each_other me f vs (if v == me then r else f v r)

-- after an input all held envelopes go on the wire where nothing is left to save
abbrev pub may_release : Replica → Bool
may_release r = not (is_pending r) && not (is_changed r)

-- AppendTo(v): where next[v] is above front and at most last + 1, send Append with prev = next[v] - 1, its term, commit, and the entries from next[v] on, at most 64; else nothing
abbrev pub append_to : Seat → ℕ → Replica → Replica
append_to s v r =
    if nat_lt r.log.front (at r.next v) && nat_le (at r.next v) (last r.log + 1)
    then sent s v (bodies.Append (at r.next v - 1) (term_at r.log (at r.next v - 1)) r.commit (slice r.log (at r.next v) 64)) r
    else r

-- the greatest of the n numbers above low that passes, or low
abbrev pub greatest : (ℕ → Bool) → ℕ → ℕ → ℕ
greatest p low zero = low
greatest p low (suc n) = if p (low + suc n) then low + suc n else greatest p low n

-- a majority has matched an index, and its entry is of the term
abbrev pub may_commit : List ℕ → List ℕ → Log → ℕ → ℕ → Bool
may_commit voters matched l term n = is_majority voters (λ v. nat_le n (at matched v)) && (term_at l n == term)

-- the commit rule: the greatest index above the commit index that may be committed, else the commit index
abbrev pub committed_by : List ℕ → List ℕ → Log → ℕ → ℕ → ℕ
committed_by voters matched l term commit = greatest (may_commit voters matched l term) commit (last l - commit)

abbrev pub commit_rule : Seat → Replica → Replica
commit_rule s r = record r { commit = committed_by s.voters r.matched r.log r.term r.commit }

-- the log changed from an index on: an entry counts as saved only while the log holds it as it was saved
abbrev pub lowered : ℕ → Replica → Replica
lowered i r = record r { from = min r.from i; stable = min r.stable (min r.from i - 1) }

-- an entry of the term at the end of the log
abbrev pub own_entry : Replica → Key → Proposal → Entry
own_entry r key p = record { index = last r.log + 1; term = r.term; key = key; proposal = p }

abbrev pub appended : Key → Proposal → Replica → Replica
appended key p r = lowered (last r.log + 1) (record r { log = record r.log { entries = r.log.entries ++ own_entry r key p ∷ [] } })

abbrev pub no_key : Key
no_key = record { host = 0; start = 0; serial = 0 }

-- a leader appends an entry and sends it to the others
abbrev pub appended_to_all : Seat → Key → Proposal → Replica → Replica
appended_to_all s key p r = each_other s.me (append_to s) s.voters (appended key p r)

-- what a new leader knows of its voters: nothing is matched but what it has saved itself, and no round is answered
abbrev pub crowned : Seat → Replica → Replica
crowned s r = record r {
  role = Leader;
  leader = s.me;
  reads = no_reads;
  next = all_at (last r.log + 1);
  matched = slice_set (all_at 0) s.me r.stable;
}

-- Lead: a new leader appends a blank entry of its term, sends it to the others, and notes that it leads
abbrev pub lead : Seat → Replica → Row
lead s r = record { replica = appended_to_all s no_key proposals.Blank (crowned s r); notes = notes.Leader s.me r.term ∷ [] }

-- a greater term is taken over before the row of its envelope: term = t, vote = 0, role Follower, leader = 0, no grants, no open reads
abbrev pub in_term : ℕ → Replica → Replica
in_term t r = if nat_lt r.term t then record r { term = t; vote = 0; role = Follower; leader = 0; granted = none_set; reads = closed r.reads } else r

-- a replica whose term, last index or round is 2^62 or more takes no more
abbrev pub is_full : Replica → Bool
is_full r = nat_le (2 ^ 62) r.term || nat_le (2 ^ 62) (last r.log) || nat_le (2 ^ 62) r.reads.round

-- the last index that may be applied: it is both committed and saved
abbrev pub ripe : Replica → ℕ
ripe r = min r.commit r.stable
