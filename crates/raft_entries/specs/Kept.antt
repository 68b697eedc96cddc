-- What all of a group has, and that it stays: by what hosts, envelopes and the decided list have. Source: this project's own.
use Rattle.std.specs.Prelude.{◌≡◌, ◌≤◌, ◌⊎◌, ℕ, List, length, Option, Some, None, ⊤}
use Rattle.std.specs.List.{All, AllByRecursion}
use Rattle.host_ids.specs.declared.batch.Batch.{Batch}
use Rattle.host_ids.specs.declared.entry.Entry.{Entry}
use Rattle.wire_types.specs.declared.envelope.Envelope.{Envelope}
use Rattle.log_view.specs.Log.{last}
use Rattle.raft_model.specs.declared.durable.Durable.{Durable}
use Rattle.raft_model.specs.declared.event.LaneEvent.{LaneEvent}
use Rattle.raft_model.specs.declared.event.LaneEvent.TheVariants as events
use Rattle.raft_model.specs.declared.input.Input.{Input}
use Rattle.raft_model.specs.declared.input.Input.TheVariants as inputs
use Rattle.raft_model.specs.declared.state.State.{State as Replica}
use Rattle.raft_model.specs.declared.state.Pending.{Pending}
use Rattle.raft_model.specs.declared.saved.SavedState.{SavedState}
use Rattle.raft_model.specs.Restarting.{state_of, begun_log, begun_commit}
use Rattle.raft_model.specs.Group.{Group, replica_at, saved_at, merged, act, run, fresh_group}
use Rattle.raft_entries.specs.Mail.{Property}

-- what is said of a group: of proposals with their keys, of envelopes, of what a crash leaves, of replicas over what they have saved, and of the decided list
pub record Having : Type 1 where
  pub Own : Property
  pub Mail : Envelope → Type 0
  pub Left : Durable → Type 0
  pub Host : SavedState → Replica → Type 0
  pub Listed : List Entry → Type 0

-- what has to come with an input of a replica
abbrev pub Given : Property → (Envelope → Type 0) → Input → Type 0
Given Own Mail inputs.Timeout = ⊤
Given Own Mail inputs.Beat = ⊤
Given Own Mail (inputs.Envelope m) = Mail m
Given Own Mail (inputs.Propose key p) = Own key p
Given Own Mail (inputs.Ask key) = ⊤
Given Own Mail (inputs.Chunk to c) = ⊤
Given Own Mail (inputs.Compact i) = ⊤
Given Own Mail (inputs.Installed i t) = ⊤

-- what has to come with an event of a group: of a proposal, and of what a crash leaves, where a host starts from it
abbrev pub Comes : Having → LaneEvent → Type 0
Comes H (events.Timeout h) = ⊤
Comes H (events.Beat h) = ⊤
Comes H (events.Deliver k) = ⊤
Comes H (events.Ready h) = ⊤
Comes H (events.Saved h id) = ⊤
Comes H (events.Propose h key p) = H.Own key p
Comes H (events.Ask h key) = ⊤
Comes H (events.Chunk h to c) = ⊤
Comes H (events.Compact h i) = ⊤
Comes H (events.Installed h i t) = ⊤
Comes H (events.Down h) = ⊤
Comes H (events.Restart h d) = H.Left d

-- it holds of each host over what it has saved, of each envelope on the wire, and of the decided list
pub record Holds (H : Having) (g : Group) : Type 0 where
  pub tables : length g.saves ≡ length g.replicas
  pub hosts : (h : ℕ) → H.Host (saved_at g h) (replica_at g h)
  pub wire : All H.Mail g.wire
  pub decided : H.Listed g.decided

-- what is saved once nothing is pending
abbrev pub then_saved : SavedState → Option Pending → SavedState
then_saved b pending = elim pending as (λ _. SavedState) [ None ↦ b | Some p ↦ merged b p.batch ]

-- the same saved state, as a batch says it: the batch's number and first index don't count
abbrev pub IsState : SavedState → Batch → Type 0
IsState a b = state_of b ≡ a

-- what a crash may leave of a host: what it has saved, alone or with its whole pending batch, in a log that reaches the commit index
pub record IsLeft (b : SavedState) (r : Replica) (d : Durable) : Type 0 where
  pub batch : IsState b d.batch ⊎ IsState (then_saved b r.pending) d.batch
  pub committed : begun_commit d ≤ last (begun_log d)

-- it holds of a group that has just begun, stays with every event and every list of events, and holds of what a crash may leave, from which a host may so start
pub record Stays (H : Having) : Type 0 where
  pub begins : (number : ℕ) (voters : List ℕ) → Holds H (fresh_group number voters)
  pub events : (e : LaneEvent) (g : Group) → Comes H e → Holds H g → Holds H (act e g).group
  pub runs : (es : List LaneEvent) (g : Group) → AllByRecursion (Comes H) es → Holds H g → Holds H (run es g).group
  pub leaves : (g : Group) (h : ℕ) (d : Durable) → IsLeft (saved_at g h) (replica_at g h) d → Holds H g → H.Left d
