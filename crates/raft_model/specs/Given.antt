-- When an event of a group is refused, and what an event must meet. Source: this project's own.
use Rattle.std.specs.Prelude.{◌≡◌, ◌≤◌, ◌<◌, ◌^◌, ◌==◌, ℕ, Bool, true, false, not, nat_le, Option, Some, None, ⊤, if◌then◌else◌}
use Rattle.wire_types.specs.Grammar.{is_key, is_request, is_piece}
use Rattle.raft_model.specs.declared.chunk.Chunk.{Chunk}
use Rattle.raft_model.specs.declared.event.LaneEvent.{LaneEvent}
use Rattle.raft_model.specs.declared.event.LaneEvent.TheVariants as events
use Rattle.raft_model.specs.declared.event.LaneFault.{LaneFault}
use Rattle.raft_model.specs.declared.event.LaneFault.TheVariants as faults
use Rattle.raft_model.specs.declared.state.State.{State as Replica}
use Rattle.raft_model.specs.Replica.{ripe, is_follower}
use Rattle.raft_model.specs.Group.{Group, is_member, is_up, replica_at, envelope_at, is_named}

-- the number of the pending batch, 0 for none
abbrev pub pending_id : Replica → ℕ
pending_id r = elim r.pending as (λ _. ℕ) [ None ↦ 0 | Some p ↦ p.batch.id ]

abbrev pub is_pending_id : Replica → ℕ → Bool
is_pending_id r id = elim r.pending as (λ _. Bool) [ None ↦ false | Some p ↦ (p.batch.id == id) ]

-- the host is no voter, or is down
abbrev pub host_refusal : Group → ℕ → Option LaneFault
host_refusal g h = if not (is_member g h) then Some faults.NotMember else (if is_up g h then None else Some faults.IsDown)

abbrev pub or_else : Option LaneFault → Option LaneFault → Option LaneFault
or_else None b = b
or_else (Some f) b = Some f

abbrev pub refusal_of : Group → LaneEvent → Option LaneFault
refusal_of g (events.Timeout h) = host_refusal g h
refusal_of g (events.Beat h) = host_refusal g h
refusal_of g (events.Deliver k) = elim (envelope_at g.wire k) as (λ _. Option LaneFault) [ None ↦ Some faults.NoEnvelope | Some e ↦ host_refusal g e.to ]
refusal_of g (events.Ready h) = host_refusal g h
refusal_of g (events.Saved h id) = or_else (host_refusal g h) (if is_pending_id (replica_at g h) id then None else Some (faults.NotPending (pending_id (replica_at g h))))
refusal_of g (events.Propose h key p) = host_refusal g h
refusal_of g (events.Ask h key) = host_refusal g h
refusal_of g (events.Chunk h to c) = host_refusal g h
refusal_of g (events.Compact h i) = or_else (host_refusal g h) (if nat_le i (ripe (replica_at g h)) then None else Some (faults.NotRipe (ripe (replica_at g h))))
refusal_of g (events.Installed h i t) = host_refusal g h
refusal_of g (events.Down h) = host_refusal g h
refusal_of g (events.Restart h d) = if not (is_member g h) then Some faults.NotMember else (if is_up g h then Some faults.IsUp else None)

-- a piece of a snapshot goes to another voter; its term is from 1 to its sender's, its index at most 2^62, and it is well formed
pub record MaySend (g : Group) (h to : ℕ) (c : Chunk) : Type 0 where
  pub voter : is_member g to ≡ true
  pub other : (to == h) ≡ false
  pub some_term : 1 ≤ c.term
  pub term_reached : c.term ≤ (replica_at g h).term
  pub index_short : c.index ≤ 2 ^ 62
  pub spelled : is_piece c.index c.last_term c.number c.count c.size c.bytes ≡ true

-- a snapshot that was put in place is the one that was received, past the commit index, at a follower
pub record MayInstall (g : Group) (h i t : ℕ) : Type 0 where
  pub named : is_named g h i t ≡ true
  pub past : (replica_at g h).commit < i
  pub follower : is_follower (replica_at g h) ≡ true

-- what an event must meet; a host isn't started again yet
abbrev pub IsGiven : Group → LaneEvent → Type 0
IsGiven g (events.Timeout h) = ⊤
IsGiven g (events.Beat h) = ⊤
IsGiven g (events.Deliver k) = ⊤
IsGiven g (events.Ready h) = ⊤
IsGiven g (events.Saved h id) = ⊤
IsGiven g (events.Propose h key p) = is_request key p ≡ true
IsGiven g (events.Ask h key) = is_key key ≡ true
IsGiven g (events.Chunk h to c) = MaySend g h to c
IsGiven g (events.Compact h i) = ⊤
IsGiven g (events.Installed h i t) = MayInstall g h i t
IsGiven g (events.Down h) = ⊤
IsGiven g (events.Restart h d) = false ≡ true
