-- What the worked runs are told by: short words for keys, entries, pieces, envelopes and what a crash leaves, and a digest of each replica.
use Rattle.std.specs.Prelude.{ℕ, ◌+◌, List, map, length}
use Rattle.host_ids.specs.declared.entry.Entry.{Entry}
use Rattle.host_ids.specs.declared.entry.Key.{Key}
use Rattle.host_ids.specs.declared.batch.Batch.{Batch}
use Rattle.host_ids.specs.declared.proposal.Proposal.{Proposal}
use Rattle.wire_types.specs.declared.envelope.Envelope.{Envelope}
use Rattle.wire_types.specs.declared.envelope.Body.{Body}
use Rattle.raft_model.specs.declared.chunk.Chunk.{Chunk}
use Rattle.raft_model.specs.declared.durable.Durable.{Durable}
use Rattle.raft_model.specs.declared.role.Role.{Role}
use Rattle.roster.specs.Roster.{at}
use Rattle.raft_model.specs.declared.state.State.{State as Replica}
use Rattle.raft_model.specs.Group.{Group, replica_at}

abbrev pub key : ℕ → ℕ → ℕ → Key
key host start serial = record { host = host; start = start; serial = serial }

abbrev pub entry : ℕ → ℕ → Key → Proposal → Entry
entry index term k p = record { index = index; term = term; key = k; proposal = p }

abbrev pub piece : ℕ → ℕ → ℕ → ℕ → ℕ → ℕ → List ℕ → Chunk
piece term index last_term number count size bytes =
    record { term = term; index = index; last_term = last_term; number = number; count = count; size = size; bytes = bytes }

abbrev pub post : ℕ → ℕ → ℕ → Body → Envelope
post from to term body = record { from = from; to = to; group = 1; term = term; body = body }

abbrev pub saved_part : ℕ → ℕ → ℕ → ℕ → ℕ → List Entry → Batch
saved_part term vote commit front front_term entries =
    record { id = 0; term = term; vote = vote; commit = commit; front = front; front_term = front_term; first = front + 1; entries = entries }

abbrev pub left : Batch → ℕ → ℕ → ℕ → Durable
left batch mark mark_term machine = record { batch = batch; mark = mark; mark_term = mark_term; machine = machine }

-- a replica as far as runs compare it: its log by terms, what it holds by their number, its tables by the group's voters
pub record Digest : Type 0 where
  pub term : ℕ
  pub vote : ℕ
  pub role : Role
  pub leader : ℕ
  pub commit : ℕ
  pub front : ℕ
  pub stable : ℕ
  pub from : ℕ
  pub round : ℕ
  pub held : ℕ
  pub terms : List ℕ
  pub matched : List ℕ
  pub next : List ℕ
  pub answered : List ℕ

abbrev pub digest : List ℕ → Replica → Digest
digest voters r = record {
  term = r.term;
  vote = r.vote;
  role = r.role;
  leader = r.leader;
  commit = r.commit;
  front = r.log.front;
  stable = r.stable;
  from = r.from;
  round = r.reads.round;
  held = length r.held;
  terms = map (λ e. e.term) r.log.entries;
  matched = map (at r.matched) voters;
  next = map (at r.next) voters;
  answered = map (at r.reads.answered) voters;
}

abbrev pub digests : Group → List Digest
digests g = map (λ h. digest g.voters (replica_at g h)) g.voters
