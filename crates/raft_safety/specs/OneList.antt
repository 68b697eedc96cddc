-- One leader a term and one decided list, over all lists of events, between any two moments. Source: dissertation section 3.6.
use Rattle.std.specs.Prelude.{◌≡◌, ◌≤◌, ◌-◌, ℕ, List, ◌++◌, length, take, drop, false}
use Rattle.host_ids.specs.declared.entry.Entry.{Entry}
use Rattle.raft_model.specs.declared.role.Role.TheVariants.{Leader}
use Rattle.raft_model.specs.declared.event.LaneEvent.{LaneEvent}
use Rattle.raft_model.specs.declared.state.State.{State as Replica}
use Rattle.raft_model.specs.Replica.{ripe}
use Rattle.raft_model.specs.Group.{Group, replica_at, is_member, fresh_group, run, term_of}
use Rattle.raft_safety.specs.Events.{AreAllowed}

-- host u leads term t
pub record Leads (g : Group) (u t : ℕ) : Type 0 where
  pub role : (replica_at g u).role ≡ Leader
  pub term : (replica_at g u).term ≡ t

-- a list begins with another one
pub record GoesOn (d e : List Entry) : Type 0 where
  pub more : List Entry
  pub is : e ≡ d ++ more

-- up to an index that isn't below its front, a replica's log holds the places of a list; its front is one of them, with its term
pub record HoldsList (d : List Entry) (i : ℕ) (r : Replica) : Type 0 where
  pub front : r.log.front ≤ i
  pub front_term : r.log.front_term ≡ term_of d r.log.front
  pub within : i ≤ length d
  pub same : take (i - r.log.front) r.log.entries ≡ take (i - r.log.front) (drop r.log.front d)

-- of two moments of a group: no two hosts lead a term, one before and one now either; the decided list of before begins that of now;
-- and what any replica had committed before or has committed now, and so what it may apply, is of the list of now
pub record IsOneList (before now : Group) : Type 0 where
  pub leaders : (u v t : ℕ) → Leads before u t → Leads now v t → u ≡ v
  pub grows : GoesOn before.decided now.decided
  pub committed_before : (u : ℕ) → HoldsList now.decided (replica_at before u).commit (replica_at before u)
  pub committed_now : (u : ℕ) → HoldsList now.decided (replica_at now u).commit (replica_at now u)
  pub applied_before : (u : ℕ) → HoldsList now.decided (ripe (replica_at before u)) (replica_at before u)
  pub applied_now : (u : ℕ) → HoldsList now.decided (ripe (replica_at now u)) (replica_at now u)

-- the first moment after any allowed events, the second after any more, from a fresh group whose voters are hosts from 1 on
abbrev pub OneList : Type 0
OneList = (number : ℕ) (voters : List ℕ) → is_member (fresh_group number voters) 0 ≡ false → (first more : List LaneEvent)
    → AreAllowed (fresh_group number voters) first → AreAllowed (run first (fresh_group number voters)).group more
    → IsOneList (run first (fresh_group number voters)).group (run more (run first (fresh_group number voters)).group).group
