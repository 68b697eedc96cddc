-- A group that a list of allowed events led to, and what holds of whoever keeps one. Source: this project's own.
use Rattle.std.specs.Prelude.{◌≡◌, ℕ, List, false}
use Rattle.raft_model.specs.declared.event.LaneEvent.{LaneEvent}
use Rattle.raft_model.specs.Group.{Group, is_member, fresh_group, act, run}
use Rattle.raft_safety.specs.Events.{IsAllowed, AreAllowed}
use Rattle.raft_safety.specs.OneList.{IsOneList}
use Rattle.raft_safety.specs.ReadFront.{AreFronted}

-- a list of allowed events led from a fresh group, whose voters are hosts from 1 on, to this group
pub record HasRun (g : Group) : Type 0 where
  pub number : ℕ
  pub voters : List ℕ
  pub some : is_member (fresh_group number voters) 0 ≡ false
  pub events : List LaneEvent
  pub allowed : AreAllowed (fresh_group number voters) events
  pub is : (run events (fresh_group number voters)).group ≡ g

-- to a fresh group the empty list led
abbrev pub BeginsToRun : Type 0
BeginsToRun = (number : ℕ) (voters : List ℕ) → is_member (fresh_group number voters) 0 ≡ false → HasRun (fresh_group number voters)

-- after each allowed event a list led there, with one event more
abbrev pub GoesOnToRun : Type 0
GoesOnToRun = (e : LaneEvent) (g : Group) → IsAllowed g e → HasRun g → HasRun (act e g).group

-- between such a group and any moment after it there is one list
abbrev pub RunsAsOne : Type 0
RunsAsOne = (before : Group) → HasRun before → (more : List LaneEvent) → AreAllowed before more → IsOneList before (run more before).group

-- and so between such a group and what its next allowed event makes of it
abbrev pub ActsAsOne : Type 0
ActsAsOne = (before : Group) → HasRun before → (e : LaneEvent) → IsAllowed before e → IsOneList before (act e before).group

-- what its next allowed event notes of a read has its front
abbrev pub ActsFronted : Type 0
ActsFronted = (before : Group) → HasRun before → (e : LaneEvent) → IsAllowed before e → AreFronted (act e before).group.asks (act e before).notes
