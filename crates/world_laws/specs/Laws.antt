-- The laws of a group's safety: of two moments of it one leader a term and one decided list, and of its reads their fronts. Source: dissertation sections 3.6 and 6.4.
use Rattle.std.specs.Prelude.{◌≡◌, ℕ, List, true, false}
use Rattle.raft_model.specs.declared.event.LaneEvent.{LaneEvent}
use Rattle.raft_model.specs.Replica.{ripe}
use Rattle.raft_model.specs.Group.{Group, replica_at, is_member, fresh_group, run}
use Rattle.raft_safety.specs.Events.{AreAllowed}
use Rattle.raft_safety.specs.OneList.{Leads, GoesOn, HoldsList}
use Rattle.raft_safety.specs.ReadFront.{AreFronted, CoversNow}
use Rattle.group_world.specs.Members.{Kept}

-- hosts that lead the same term, one before and one now, are one
abbrev pub HaveOneLeader : Group → Group → Type 0
HaveOneLeader before now = (u v t : ℕ) → Leads before u t → Leads now v t → u ≡ v

-- the decided list went on; and what any replica had committed before or has now, and all that it might apply, is of the list of now
pub record HaveOneList (before now : Group) : Type 0 where
  pub grows : GoesOn before.decided now.decided
  pub committed_before : (u : ℕ) → HoldsList now.decided (replica_at before u).commit (replica_at before u)
  pub committed_now : (u : ℕ) → HoldsList now.decided (replica_at now u).commit (replica_at now u)
  pub applied_before : (u : ℕ) → HoldsList now.decided (ripe (replica_at before u)) (replica_at before u)
  pub applied_now : (u : ℕ) → HoldsList now.decided (ripe (replica_at now u)) (replica_at now u)

-- a law of two moments holds between this one of a faithful lane and all that more allowed events lead to
abbrev pub FromHere : (Group → Group → Type 0) → Kept → Type 0
FromHere Law lane = lane.faithful ≡ true → (more : List LaneEvent) → AreAllowed lane.group more → Law lane.group (run more lane.group).group

-- a law of two moments holds between any two of every list of allowed events, from a group that has just begun, whose voters are hosts from 1 on
abbrev pub Everywhere : (Group → Group → Type 0) → Type 0
Everywhere Law = (number : ℕ) (voters : List ℕ) → is_member (fresh_group number voters) 0 ≡ false → (first more : List LaneEvent)
    → AreAllowed (fresh_group number voters) first → AreAllowed (run first (fresh_group number voters)).group more
    → Law (run first (fresh_group number voters)).group (run more (run first (fresh_group number voters)).group).group

-- each read of a faithful lane that is confirmed by more allowed events covers all that was decided when a read with its key was first asked,
-- be it before this moment or after it
abbrev pub FrontsFromHere : Kept → Type 0
FrontsFromHere lane = lane.faithful ≡ true → (more : List LaneEvent) → AreAllowed lane.group more → AreFronted (run more lane.group).group.asks (run more lane.group).notes

-- and a read with a new key that is asked now covers all that is decided now, whenever it is confirmed
abbrev pub AsksFromHere : Kept → Type 0
AsksFromHere lane = lane.faithful ≡ true → CoversNow lane.group
