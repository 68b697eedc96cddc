-- What an envelope tells of its sender. Held, it binds the replica as it stands; with the pending batch, what will be saved; on the wire, what is saved.
-- Source: this project's own.
use Rattle.std.specs.Prelude.{◌≡◌, ◌≢◌, ◌⊎◌, ℕ, ◌+◌, ◌≤◌, List, [], ◌∷◌, length, take, drop, min, true}
use Rattle.host_ids.specs.declared.entry.Entry.{Entry}
use Rattle.wire_types.specs.declared.envelope.Envelope.{Envelope}
use Rattle.wire_types.specs.declared.envelope.Body.{Body}
use Rattle.wire_types.specs.declared.envelope.Body.TheVariants as bodies
use Rattle.raft_model.specs.Group.{term_of, is_decided}
use Rattle.raft_safety.specs.History.{Reign, History, IsLed, Agree, HoldsUpTo, IsOld}
use Rattle.raft_safety.specs.Replicas.{Stage, IsSecured}

-- an AppendReply that grants up to an index: while the term is the same the places are there, as far as a snapshot hasn't taken their place; and it counts
pub record IsAnswer (h : History) (d : List Entry) (level : ℕ → ℕ → ℕ) (v t i : ℕ) (x : Stage) : Type 0 where
  pub since : t ≤ x.term
  pub present : x.term ≡ t → HoldsUpTo h d x.commit x.log t (min i (length x.log))
  pub counts : (i ≤ level v t) ⊎ IsOld h d v t i

-- a SnapReply for a whole snapshot: its place is committed, and it counts
pub record IsSnapAnswer (h : History) (d : List Entry) (level : ℕ → ℕ → ℕ) (v t i : ℕ) (x : Stage) : Type 0 where
  pub committed : i ≤ x.commit
  pub counts : (i ≤ level v t) ⊎ IsOld h d v t i

-- entries of a leader's log, with what stands before them there, and a commit index that is decided
pub record IsOfLeader (h : History) (d : List Entry) (from t prev pt c : ℕ) (es : List Entry) : Type 0 where
  pub reign : Reign
  pub led : IsLed h.reigns reign
  pub term : reign.term ≡ t
  pub leader : reign.leader ≡ from
  pub reaches : prev + length es ≤ length reign.log
  pub before : term_of reign.log prev ≡ pt
  pub entries : es ≡ take (length es) (drop prev reign.log)
  pub commit : Agree c reign.log d

-- a Vote asks with the log of a campaign, whose candidate voted for itself
pub record IsCampaign (h : History) (from t l lt : ℕ) (x : Stage) : Type 0 where
  pub some : from ≢ 0
  pub vote : h.vote from t ≡ from
  pub secured : IsSecured x.term x.vote t from
  pub length : length (h.campaign t from) ≡ l
  pub last : term_of (h.campaign t from) l ≡ lt

-- a granted VoteReply is of a vote that is remembered, and that excludes another one
pub record IsGrant (h : History) (from to t : ℕ) (x : Stage) : Type 0 where
  pub some : to ≢ 0
  pub vote : h.vote from t ≡ to
  pub secured : IsSecured x.term x.vote t to

-- what an envelope tells, by its kind; a chunk is of a decided place, and a beat names no more than its addressee has answered
abbrev pub Tells : History → List Entry → (ℕ → ℕ → ℕ → Type 0) → (ℕ → ℕ → ℕ) → ℕ → ℕ → ℕ → Body → Stage → Type 0
Tells h d HasAnswer level from to t (bodies.Vote l lt) x = IsCampaign h from t l lt x
Tells h d HasAnswer level from to t (bodies.VoteReply granted) x = granted ≡ true → IsGrant h from to t x
Tells h d HasAnswer level from to t (bodies.Append prev pt c es) x = IsOfLeader h d from t prev pt c es
Tells h d HasAnswer level from to t (bodies.AppendReply ok i) x = ok ≡ true → IsAnswer h d level from t i x
Tells h d HasAnswer level from to t (bodies.Beat c round) x = IsOfLeader h d from t 0 0 c [] × ((c ≡ 0) ⊎ HasAnswer to t c)
Tells h d HasAnswer level from to t (bodies.BeatReply round) x = Unit {0}
Tells h d HasAnswer level from to t (bodies.SnapChunk i lt number count size bytes) x = is_decided d i lt ≡ true
Tells h d HasAnswer level from to t (bodies.SnapReply i want whole) x = whole ≡ true → IsSnapAnswer h d level from t i x
Tells h d HasAnswer level from to t (bodies.Propose key p) x = Unit {0}
Tells h d HasAnswer level from to t (bodies.ReadAsk key) x = Unit {0}
Tells h d HasAnswer level from to t (bodies.ReadAnswer key i) x = Unit {0}

-- all of these envelopes are from a host, and each tells of it what it says
abbrev pub TellsAll : History → List Entry → (ℕ → ℕ → ℕ → Type 0) → (ℕ → ℕ → ℕ) → ℕ → List Envelope → Stage → Type 0
TellsAll h d HasAnswer level v [] x = Unit {0}
TellsAll h d HasAnswer level v (e ∷ es) x = (e.from ≡ v) × Tells h d HasAnswer level v e.to e.term e.body x × TellsAll h d HasAnswer level v es x
