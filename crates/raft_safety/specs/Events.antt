-- What it means that events are allowed, as the proofs take it, and which events are allowed in any group. Source: this project's own.
use Rattle.std.specs.Prelude.{◌≡◌, ◌⊎◌, ◌≤◌, ℕ, List, length, true, Some}
use Rattle.log_view.specs.Log.{term_at}
use Rattle.raft_model.specs.declared.durable.Durable.{Durable}
use Rattle.raft_model.specs.declared.event.LaneEvent.{LaneEvent}
use Rattle.raft_model.specs.declared.event.LaneEvent.TheVariants as events
use Rattle.raft_model.specs.declared.saved.SavedState.{SavedState}
use Rattle.raft_model.specs.declared.state.Pending.{Pending}
use Rattle.raft_model.specs.declared.state.Inbox.{Inbox}
use Rattle.raft_model.specs.Restarting.{state_of, begun_log, beginning, is_fit}
use Rattle.raft_model.specs.Group.{Group, replica_at, saved_at, merged, is_decided, term_of}
use Rattle.raft_model.specs.Allowed.{is_allowed, are_allowed}

abbrev pub IsAllowed : Group → LaneEvent → Type 0
IsAllowed g e = is_allowed g e ≡ true

-- each of these events is allowed where it comes
abbrev pub AreAllowed : Group → List LaneEvent → Type 0
AreAllowed g es = are_allowed g es ≡ true

-- what a crash may leave of a host: what it has saved, or that with its whole pending batch
abbrev pub IsLeft : Group → ℕ → SavedState → Type 0
IsLeft g v b = (b ≡ saved_at g v) ⊎ ((p : Pending) × ((replica_at g v).pending ≡ Some p) × (b ≡ merged (saved_at g v) p.batch))

-- a start is allowed
pub record IsAllowedStart (g : Group) (v : ℕ) (s : Durable) : Type 0 where
  pub left : IsLeft g v (state_of s.batch)
  pub mark : is_decided g.decided s.mark s.mark_term ≡ true
  pub machine : s.machine ≤ length g.decided
  pub begins : term_at (begun_log s) (beginning s) ≡ term_of g.decided (beginning s)
  pub fit : is_fit s ≡ true

-- an install is of the place and the term of the snapshot that was received
pub record IsNamed (g : Group) (v i t : ℕ) : Type 0 where
  pub snapshot : Inbox
  pub inbox : (replica_at g v).inbox ≡ Some snapshot
  pub index : snapshot.received.index ≡ i
  pub term : snapshot.received.term ≡ t

-- a plain event, which is allowed in any group: no crash, no start, no compaction and no snapshot
abbrev pub IsPlain : LaneEvent → Type 0
IsPlain (events.Timeout v) = Unit {0}
IsPlain (events.Beat v) = Unit {0}
IsPlain (events.Deliver k) = Unit {0}
IsPlain (events.Ready v) = Unit {0}
IsPlain (events.Saved v id) = Unit {0}
IsPlain (events.Propose v key p) = Unit {0}
IsPlain (events.Ask v key) = Unit {0}
IsPlain (events.Chunk v to c) = ⊥
IsPlain (events.Compact v i) = ⊥
IsPlain (events.Installed v i t) = ⊥
IsPlain (events.Down v) = ⊥
IsPlain (events.Restart v s) = ⊥
