-- The invariant: what every list of allowed events keeps of a group. Source: dissertation section 3.6; the form is this project's own.
use Rattle.std.specs.Prelude.{◌≡◌, ◌≢◌, ◌⊎◌, ℕ, ◌<◌, ◌≤◌, List, [], ◌∷◌, length, true, false, Some}
use Rattle.host_ids.specs.declared.entry.Entry.{Entry}
use Rattle.raft_model.specs.declared.saved.SavedState.{SavedState}
use Rattle.wire_types.specs.declared.envelope.Envelope.{Envelope}
use Rattle.wire_types.specs.declared.envelope.Body.TheVariants as bodies
use Rattle.raft_model.specs.declared.state.State.{State as Replica}
use Rattle.raft_model.specs.declared.state.Pending.{Pending}
use Rattle.raft_model.specs.declared.state.Inbox.{Inbox}
use Rattle.roster.specs.Roster.{is_majority}
use Rattle.raft_model.specs.Group.{Group, replica_at, saved_at, is_member, term_of, is_decided}
use Rattle.raft_safety.specs.History.{Reign, History, IsLed, Agree, IsOwn, IsSafe, IsChosen, IsStrict, MatchesWithin, Counts}
use Rattle.raft_safety.specs.Replicas.{of_batch, of_replica, to_be_saved, IsSecured, Stands}
use Rattle.raft_safety.specs.Envelopes.{Tells, TellsAll}

-- an envelope is among these
abbrev pub IsOnWire : List Envelope → Envelope → Type 0
IsOnWire [] e = ⊥
IsOnWire (x ∷ xs) e = (e ≡ x) ⊎ IsOnWire xs e

-- an answer of v in term t, at least up to i, is on the wire
pub record HasAnswer (wire : List Envelope) (v t i : ℕ) : Type 0 where
  pub envelope : Envelope
  pub there : IsOnWire wire envelope
  pub from : envelope.from ≡ v
  pub term : envelope.term ≡ t
  pub index : ℕ
  pub most : i ≤ index
  pub body : (envelope.body ≡ bodies.AppendReply true index) ⊎ ((want : ℕ) × (envelope.body ≡ bodies.SnapReply index want true))

-- a reign was elected by a majority of secured votes, began with the log of its campaign, and holds no entry of a term above its own
pub record IsReign (voters : List ℕ) (h : History) (Secured : ℕ → ℕ → ℕ → Type 0) (R : Reign) : Type 0 where
  pub some : R.leader ≢ 0
  pub majority : is_majority voters R.quorum ≡ true
  pub votes : (v : ℕ) → R.quorum v ≡ true → (h.vote v R.term ≡ R.leader) × Secured v R.term R.leader
  pub begins : Agree (length (h.campaign R.term R.leader)) R.log (h.campaign R.term R.leader)
  pub strict : IsStrict h R.log
  pub monotone : (i k : ℕ) → i ≤ k → k ≤ length R.log → term_of R.log i ≤ term_of R.log k
  pub terms : (k : ℕ) → k ≤ length R.log → term_of R.log k ≤ R.term

-- the last elected first: a leader's log keeps what a voter of its quorum held, where those of all leaders elected before it do; and no term is led twice
abbrev pub LaterKeep : History → List Reign → Type 0
LaterKeep h [] = Unit {0}
LaterKeep h (R ∷ older) =
    ((Q : Reign) (n v : ℕ) → IsLed h.reigns Q → Q.term < R.term → IsOwn Q n → IsSafe older Q n → R.quorum v ≡ true → n ≤ h.told v Q.term → Agree n R.log Q.log)
    × ((Q : Reign) → IsLed older Q → (Q.term ≢ R.term) × (Q.order < R.order)) × LaterKeep h older

-- a place was decided by a leader of the remembered term, by a chosen entry at it or above
pub record IsDecided (voters : List ℕ) (h : History) (d : List Entry) (k : ℕ) : Type 0 where
  pub reign : Reign
  pub led : IsLed h.reigns reign
  pub term : reign.term ≡ h.decided_in k
  pub reach : k ≤ h.reach k
  pub chosen : IsChosen voters h reign (h.reach k)
  pub same : Agree k d reign.log

-- the candidate's log holds what the voter held, and ends in no lower term
pub record Saw (R : Reign) (n : ℕ) (C : List Entry) : Type 0 where
  pub there : Agree n C R.log
  pub last : R.term ≤ term_of C (length C)

-- a vote: its campaign is secured and matches; and while its term isn't led, the voter saw in the candidate's log what it held
pub record IsVote (h : History) (d : List Entry) (Secured : ℕ → ℕ → ℕ → Type 0) (v t c : ℕ) : Type 0 where
  pub secured : c ≢ v → Secured c t c
  pub matches : MatchesWithin h d (h.floor t c) (h.campaign t c)
  pub saw : ((R : Reign) → IsLed h.reigns R → R.term ≢ t) → (R : Reign) (n : ℕ) → Counts h h.told v R n → R.term < t → Saw R n (h.campaign t c)

-- a campaign can't be won any more: a later term is led whose quorum none of its voters is in
pub record IsLost (h : History) (t c : ℕ) : Type 0 where
  pub reign : Reign
  pub led : IsLed h.reigns reign
  pub later : t < reign.term
  pub outside : c ≢ 0 → (v : ℕ) → h.vote v t ≡ c → reign.quorum v ≡ false

-- what a host told of a term reaches no further than the log of the term's leader
pub record IsBounded (h : History) (v t : ℕ) : Type 0 where
  pub reign : Reign
  pub led : IsLed h.reigns reign
  pub term : reign.term ≡ t
  pub most : h.told v t ≤ length reign.log

-- of a voter's answers in a term, those saved are at most those being saved, and these at most those told
pub record IsLevel (h : History) (v t : ℕ) : Type 0 where
  pub answer : h.answer v t ≤ h.saving v t
  pub saving : h.saving v t ≤ h.told v t

-- the sentences that name no host's replica: on reigns, the decided list, votes, campaigns and answers
pub record Common (voters : List ℕ) (h : History) (d : List Entry) (Secured : ℕ → ℕ → ℕ → Type 0) : Type 0 where
  pub reigns : (R : Reign) → IsLed h.reigns R → IsReign voters h Secured R
  pub later : LaterKeep h h.reigns
  pub decided : (k : ℕ) → 0 < k → k ≤ length d → IsDecided voters h d k
  pub strict : IsStrict h d
  pub votes : (v t c : ℕ) → c ≢ 0 → h.vote v t ≡ c → IsVote h d Secured v t c
  pub campaigns : (t c k : ℕ) → k ≤ length (h.campaign t c) → (term_of (h.campaign t c) k ≤ t) ⊎ IsLost h t c
  pub floored : (t c : ℕ) → h.floor t c ≤ length d
  pub floors : (t c k : ℕ) → 0 < k → k ≤ h.floor t c → Agree k (h.campaign t c) d → (h.decided_in k ≤ t) ⊎ IsLost h t c
  pub levels : (v t : ℕ) → IsLevel h v t
  pub bounded : (v t : ℕ) → (h.told v t ≡ 0) ⊎ IsBounded h v t

-- the sentences on one host, by what it has saved and its replica
pub record IsHost (h : History) (d : List Entry) (Secured Answers : ℕ → ℕ → ℕ → Type 0) (v : ℕ) (b : SavedState) (r : Replica) : Type 0 where
  pub stands : Stands h d Secured Answers v b r
  pub held : TellsAll h d Answers h.told v r.held (of_replica d r)
  pub waiting : (p : Pending) → r.pending ≡ Some p → TellsAll h d Answers h.saving v p.envelopes (of_batch d (to_be_saved b r)) × TellsAll h d Answers h.saving v p.envelopes (of_replica d r)
  pub inbox : (s : Inbox) → r.inbox ≡ Some s → is_decided d s.received.index s.received.term ≡ true
  pub covered : r.log.front ≤ r.stable
  pub based : (b.front_term ≡ term_of d b.front) × ((to_be_saved b r).front_term ≡ term_of d (to_be_saved b r).front) × (r.log.front_term ≡ term_of d r.log.front)

-- an envelope on the wire binds its sender at all three stages
pub record IsTold (h : History) (d : List Entry) (Answers : ℕ → ℕ → ℕ → Type 0) (e : Envelope) (b : SavedState) (r : Replica) : Type 0 where
  pub saved : Tells h d Answers h.answer e.from e.to e.term e.body (of_batch d b)
  pub saving : Tells h d Answers h.answer e.from e.to e.term e.body (of_batch d (to_be_saved b r))
  pub now : Tells h d Answers h.answer e.from e.to e.term e.body (of_replica d r)

-- each table has a place for each number of a host
pub record HasTables (g : Group) : Type 0 where
  pub replicas : length g.replicas ≡ 10
  pub saves : length g.saves ≡ 10
  pub up : length g.up ≡ 10

-- a host's saved term and vote exclude another vote than this one in a term
abbrev pub Secured : Group → ℕ → ℕ → ℕ → Type 0
Secured g v t c = IsSecured (saved_at g v).term (saved_at g v).vote t c

-- the invariant of a group, with a history
pub record Inv (h : History) (g : Group) : Type 0 where
  pub tables : HasTables g
  pub voters : is_member g 0 ≡ false
  pub common : Common g.voters h g.decided (Secured g)
  pub hosts : (v : ℕ) → IsHost h g.decided (Secured g) (HasAnswer g.wire) v (saved_at g v) (replica_at g v)
  pub wire : (e : Envelope) → IsOnWire g.wire e → IsTold h g.decided (HasAnswer g.wire) e (saved_at g e.from) (replica_at g e.from)

-- the invariant of a group: some history fits. None is kept by the code
pub record Kept (g : Group) : Type 0 where
  pub history : History
  pub holds : Inv history g
