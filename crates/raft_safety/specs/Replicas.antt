-- What holds of a replica: as it was saved, with the batch that is being saved, and as it stands. Source: this project's own.
use Rattle.std.specs.Prelude.{◌≡◌, ◌≢◌, ◌⊎◌, ℕ, ◌+◌, ◌-◌, ◌<◌, ◌≤◌, List, ◌++◌, length, take, drop, max, true, Bool, Some, None}
use Rattle.host_ids.specs.declared.entry.Entry.{Entry}
use Rattle.raft_model.specs.declared.saved.SavedState.{SavedState}
use Rattle.raft_model.specs.declared.role.Role.TheVariants.{Candidate, Leader}
use Rattle.raft_model.specs.declared.state.State.{State as Replica}
use Rattle.raft_model.specs.declared.state.Taken.{Taken}
use Rattle.roster.specs.Roster.{at, is_set}
use Rattle.log_view.specs.Log.{last}
use Rattle.raft_model.specs.Group.{merged, term_of}
use Rattle.raft_safety.specs.History.{Reign, History, IsLed, Agree, IsOwn, MatchesWithin, IsOld, Counts, Keeps}

-- a replica at one of its three stages (saved, being saved, as it stands). Its whole log is the decided list up to its front, and then its own entries
pub record Stage : Type 0 where
  pub term : ℕ
  pub vote : ℕ
  pub commit : ℕ
  pub front : ℕ
  pub log : List Entry

-- a log with its front filled in from the decided list
abbrev pub whole : List Entry → ℕ → List Entry → List Entry
whole d front es = take front d ++ es

-- what is saved, or will be, as a stage
abbrev pub of_batch : List Entry → SavedState → Stage
of_batch d b = record { term = b.term; vote = b.vote; commit = b.commit; front = b.front; log = whole d b.front b.entries }

-- a replica as it stands, as a stage
abbrev pub of_replica : List Entry → Replica → Stage
of_replica d r = record { term = r.term; vote = r.vote; commit = r.commit; front = r.log.front; log = whole d r.log.front r.log.entries }

-- what will be saved once the pending batch is; with none pending, what is saved
abbrev pub to_be_saved : SavedState → Replica → SavedState
to_be_saved b r = elim r.pending as (λ _. SavedState) [ None ↦ b | Some p ↦ merged b p.batch ]

-- what holds at each stage of a host, for what it counts as held of the leaders' logs at that stage
pub record IsSound (h : History) (d : List Entry) (level : ℕ → ℕ → ℕ) (v : ℕ) (x : Stage) : Type 0 where
  pub front : x.front ≤ x.commit
  pub commit : Agree x.commit x.log d
  pub vote : x.vote ≢ 0 → h.vote v x.term ≡ x.vote
  pub matches : MatchesWithin h d x.commit x.log
  pub terms : (k : ℕ) → 0 < k → k ≤ length x.log → (term_of x.log k ≤ x.term) ⊎ Agree k x.log d
  pub keeps : (R : Reign) (n : ℕ) → Counts h level v R n → Keeps R n x.log
  pub ahead : (t : ℕ) → x.term < t → level v t ≡ 0

-- a later stage of one replica: term, commit index and front don't fall, and a vote stays in its term
pub record Follows (x y : Stage) : Type 0 where
  pub term : x.term ≤ y.term
  pub vote : x.term ≡ y.term → x.vote ≢ 0 → y.vote ≡ x.vote
  pub commit : x.commit ≤ y.commit
  pub front : x.front ≤ y.front

-- a voter's term and vote exclude another vote than this one in a term
abbrev pub IsSecured : ℕ → ℕ → ℕ → ℕ → Type 0
IsSecured term vote t c = (t < term) ⊎ ((term ≡ t) × (vote ≡ c))

-- a term in which a host has given no vote: one above its own, or its own where it has no vote
abbrev pub IsFree : ℕ → ℕ → ℕ → Type 0
IsFree term vote t = (term < t) ⊎ ((term ≡ t) × (vote ≡ 0))

-- the first n places of a log are as they were saved, but for what its front covers
pub record IsSavedLog (n front : ℕ) (saved now : List Entry) : Type 0 where
  pub within : n ≤ max front (length saved)
  pub same : take n now ≡ take n (take front now ++ drop front saved)

-- up to a place a stage is as another was saved
abbrev pub IsSavedTo : ℕ → Stage → Stage → Type 0
IsSavedTo n saved now = IsSavedLog n now.front saved.log now.log

-- a candidate voted for itself with the log of its campaign, and has counted only votes that are saved
pub record IsCampaigning (h : History) (Secured : ℕ → ℕ → ℕ → Type 0) (v t c : ℕ) (counted : List Bool) (es : List Entry) : Type 0 where
  pub some : v ≢ 0
  pub vote : c ≡ v
  pub voted : h.vote v t ≡ v
  pub log : h.campaign t v ≡ es
  pub new : (R : Reign) → IsLed h.reigns R → R.term ≡ t → R.leader ≢ v
  pub granted : (u : ℕ) → is_set counted u ≡ true → (h.vote u t ≡ v) × Secured u t v

-- what is known of a candidate
abbrev pub IsCandidate : History → List Entry → (ℕ → ℕ → ℕ → Type 0) → ℕ → Replica → Type 0
IsCandidate h d Secured v r = IsCampaigning h Secured v r.term r.vote r.granted (whole d r.log.front r.log.entries)

-- a leader has its reign; what it has matched was answered
pub record IsReigning (h : History) (d : List Entry) (HasAnswer : ℕ → ℕ → ℕ → Type 0) (v t from : ℕ) (reached : List ℕ) (es : List Entry) : Type 0 where
  pub reign : Reign
  pub led : IsLed h.reigns reign
  pub term : reign.term ≡ t
  pub leader : reign.leader ≡ v
  pub log : reign.log ≡ es
  pub told : h.told v t ≡ length reign.log
  pub saving : (n : ℕ) → IsOwn reign n → n < from → n ≤ h.saving v t
  pub mine : (at reached v ≤ length reign.log) ⊎ IsOld h d v t (at reached v)
  pub own : (n : ℕ) → IsOwn reign n → n ≤ at reached v → (n ≤ h.answer v t) ⊎ IsOld h d v t n
  pub matched : (u : ℕ) → u ≢ v → (at reached u ≡ 0) ⊎ HasAnswer u t (at reached u)

-- what is known of a leader
abbrev pub IsLeader : History → List Entry → (ℕ → ℕ → ℕ → Type 0) → ℕ → Replica → Type 0
IsLeader h d HasAnswer v r = IsReigning h d HasAnswer v r.term r.from r.matched (whole d r.log.front r.log.entries)

-- the last batch that was taken says what will be saved; and where neither front nor entries changed since, the log isn't shorter than the batch left it
pub record IsLastTaken (saving : SavedState) (taken : Taken) (from base end : ℕ) : Type 0 where
  pub term : taken.term ≡ saving.term
  pub vote : taken.vote ≡ saving.vote
  pub commit : taken.commit ≡ saving.commit
  pub front : taken.front ≡ saving.front
  pub tail : (from ≤ end) ⊎ ((saving.front + length saving.entries ≤ end) ⊎ (taken.front ≢ base))

-- what a replica remembers of the state that was given out to be saved
abbrev pub IsTaken : SavedState → Replica → Type 0
IsTaken saving r = IsLastTaken saving r.taken r.from r.log.front (last r.log)

-- what holds of a replica at its three stages, and of what it is in its term
pub record Stands (h : History) (d : List Entry) (Secured HasAnswer : ℕ → ℕ → ℕ → Type 0) (v : ℕ) (b : SavedState) (r : Replica) : Type 0 where
  pub saved : IsSound h d h.answer v (of_batch d b)
  pub saving : IsSound h d h.saving v (of_batch d (to_be_saved b r))
  pub now : IsSound h d h.told v (of_replica d r)
  pub first : Follows (of_batch d b) (of_batch d (to_be_saved b r))
  pub second : Follows (of_batch d (to_be_saved b r)) (of_replica d r)
  pub later : (t : ℕ) → IsFree r.term r.vote t → h.vote v t ≡ 0
  pub taken : IsTaken (to_be_saved b r) r
  pub stable : r.stable ≤ r.from - 1
  pub ends : r.from ≤ last r.log + 1
  pub from : IsSavedTo (r.from - 1) (of_batch d (to_be_saved b r)) (of_replica d r)
  pub on_disk : IsSavedTo r.stable (of_batch d b) (of_replica d r)
  pub candidate : r.role ≡ Candidate → IsCandidate h d Secured v r
  pub leader : r.role ≡ Leader → IsLeader h d HasAnswer v r
