-- What holds of every replica, and what an input must meet. Source: this project's own.
use Rattle.std.specs.Prelude.{◌≡◌, ◌≤◌, ◌<◌, ◌+◌, ◌^◌, ℕ, List, length, Bool, true, Option, IfSome, IsSomeAnd, ⊤}
use Rattle.std.specs.List.{All}
use Rattle.wire_types.specs.declared.envelope.Body.{Body}
use Rattle.wire_types.specs.declared.envelope.Envelope.{Envelope}
use Rattle.wire_types.specs.declared.envelope.Body.TheVariants as bodies
use Rattle.raft_model.specs.declared.chunk.Chunk.{Chunk}
use Rattle.raft_model.specs.declared.input.Input.{Input}
use Rattle.raft_model.specs.declared.input.Input.TheVariants as inputs
use Rattle.raft_model.specs.declared.state.Inbox.{Inbox}
use Rattle.raft_model.specs.declared.state.Pending.{Pending}
use Rattle.raft_model.specs.declared.state.State.{State as Replica}
use Rattle.log_view.specs.Log.{Log, last}
use Rattle.raft_model.specs.Fit.{is_fit, are_fit}
use Rattle.roster.specs.Roster.{Seat}
use Rattle.raft_model.specs.Replica.{is_candidate}

-- term, round and the numbers of batches stay up to 2^62
pub record Numbers (term round batches : ℕ) : Type 0 where
  pub term_short : term ≤ 2 ^ 62
  pub round_short : round ≤ 2 ^ 62
  pub batches_short : batches ≤ 2 ^ 62

-- so do indices; the commit index and what is saved lie from front to last, and what is saved below what changed
pub record Places (candidate : Bool) (log : Log) (commit stable from : ℕ) : Type 0 where
  pub last_short : last log ≤ 2 ^ 62
  pub may_lead : candidate ≡ true → last log < 2 ^ 62
  pub front_committed : log.front ≤ commit
  pub committed : commit ≤ last log
  pub front_saved : log.front ≤ stable
  pub saved : stable < from
  pub changed : from ≤ last log + 1

-- a batch has its place in a log
abbrev pub InPlace : Pending → Type 0
InPlace p = (p.batch.front < p.batch.first) × (p.batch.first + length p.batch.entries ≤ 2 ^ 62 + 1)

abbrev pub IsReceived : Inbox → Type 0
IsReceived b = (b.count + 1 < 2 ^ 32) × (b.received.index ≤ 2 ^ 62)

pub record Known (matched : List ℕ) (pending : Option Pending) (assembly : List Chunk) (inbox : Option Inbox) : Type 0 where
  pub matched_short : All (λ i. i ≤ 2 ^ 62) matched
  pub in_place : IfSome pending InPlace
  pub hand_short : length assembly + 1 < 2 ^ 32
  pub received : IfSome inbox IsReceived

-- and the numbers of the proposals in its log are in their ranges
abbrev pub InRange : Replica → Type 0
InRange r = Numbers r.term r.reads.round r.batches × Places (is_candidate r) r.log r.commit r.stable r.from × Known r.matched r.pending r.assembly r.inbox × (are_fit r.log.entries ≡ true)

-- the numbers of an envelope's body that a replica takes over
abbrev pub BodyWithin : Body → Type 0
BodyWithin (bodies.Vote l lt) = ⊤
BodyWithin (bodies.VoteReply granted) = ⊤
BodyWithin (bodies.Append prev pt c es) = (prev + length es ≤ 2 ^ 62) × (are_fit es ≡ true)
BodyWithin (bodies.AppendReply ok i) = i ≤ 2 ^ 62
BodyWithin (bodies.Beat c round) = ⊤
BodyWithin (bodies.BeatReply round) = ⊤
BodyWithin (bodies.SnapChunk index last_term number count size bytes) = (index ≤ 2 ^ 62) × (number + 1 < 2 ^ 32) × (count + 1 < 2 ^ 32)
BodyWithin (bodies.SnapReply i want whole) = i ≤ 2 ^ 62
BodyWithin (bodies.Propose key p) = is_fit p ≡ true
BodyWithin (bodies.ReadAsk key) = ⊤
BodyWithin (bodies.ReadAnswer key i) = ⊤

-- an envelope comes from a host, its term and the numbers that a replica takes over from it are up to 2^62, and those of its proposals are in their ranges
abbrev pub IsMail : Envelope → Type 0
IsMail e = (1 ≤ e.from) × (e.from ≤ 9) × (e.term ≤ 2 ^ 62) × BodyWithin e.body

-- an input's envelope is such a one; the numbers of a piece that is to be sent are up to 2^62, and those of a proposal in their ranges; an installed snapshot has the index of the received one
abbrev pub IsWithin : Replica → Input → Type 0
IsWithin r inputs.Timeout = ⊤
IsWithin r inputs.Beat = ⊤
IsWithin r (inputs.Envelope e) = IsMail e
IsWithin r (inputs.Propose key p) = is_fit p ≡ true
IsWithin r (inputs.Ask key) = ⊤
IsWithin r (inputs.Chunk to c) = (c.term ≤ 2 ^ 62) × (c.index ≤ 2 ^ 62) × (c.number + 1 < 2 ^ 32) × (c.count + 1 < 2 ^ 32)
IsWithin r (inputs.Compact i) = ⊤
IsWithin r (inputs.Installed i t) = IsSomeAnd r.inbox (λ b. b.received.index ≡ i)

-- what a replica holds may be given to another one
abbrev pub Holds : Replica → Type 0
Holds r = All IsMail r.held × IfSome r.pending (λ p. All IsMail p.envelopes)

abbrev pub IsSeat : Seat → Type 0
IsSeat s = (1 ≤ s.me) × (s.me ≤ 9)
