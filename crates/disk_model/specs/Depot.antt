-- What the calls of a depot do: nine disks, each of a host.
use Rattle.std.specs.Prelude.{◌≡◌, ◌≢◌, ℕ, ◌≤◌, Option, Some, Result, OnOk}
use Rattle.std.specs.Option.{OnSome, option_map}
use Rattle.std.specs.Borrow.{LendsSo, MutBor, Fml, RattleType}
use Rattle.disk_model.specs.Plan.{Plan, empty_plan, armed, powered}
use Rattle.disk_model.specs.Crash.{Image}
use Rattle.disk_model.specs.State.{DiskState, IsAtRest}
use Rattle.disk_model.specs.Calls.{HasCause}
use Rattle.disk_model.specs.declared.fault.DiskFault.{DiskFault}

pub record IsHost (host : ℕ) : Type 0 where
  pub least : 1 ≤ host
  pub most : host ≤ 9

-- the disk of this host is d, and that of each other is as it was
pub record Placed {P D : Type 0} (home : P → ℕ → Option D) (old : P) (host : ℕ) (d : Option D) (new : P) : Type 0 where
  pub here : home new host ≡ d
  pub others : (h : ℕ) → h ≢ host → home new h ≡ home old h

-- the counts of each host are as they were
abbrev pub KeepsCounts : {P : Type 0} → (P → ℕ → ℕ) → P → P → Type 0
KeepsCounts counts old new = (h : ℕ) → counts new h ≡ counts old h

-- once the loan ends, the depot has what was left of the disk at this host
abbrev pub LendsDisk : (R T : RattleType) → (R.Denot → ℕ → Option T.Denot) → (R.Denot → ℕ → ℕ) → (R.Denot → ℕ → ℕ) → MutBor R.Denot → ℕ → Option (MutBor T.Denot) → Fml
LendsDisk R T home arms taken s host r =
    LendsSo R T s r (λ n w. OnSome r ((home n host ≡ Some w) × ((h : ℕ) → h ≢ host → home n h ≡ home s.now h) × KeepsCounts arms s.now n × KeepsCounts taken s.now n)) (λ n. ((h : ℕ) → home n h ≡ home s.now h) × KeepsCounts arms s.now n × KeepsCounts taken s.now n)

-- all but the plan is as it was, and it has changed by a step
pub record Replanned (step : Plan → Plan) (old new : DiskState) : Type 0 where
  pub seen : (f : ℕ) → new.seen f ≡ old.seen f
  pub listed : (f : ℕ) → new.listed f ≡ old.listed f
  pub tells : old.tells → new.tells
  pub crash : (c : Image) → new.may_leave c → old.may_leave c
  pub moment : new.moment ≡ old.moment
  pub left_since : (t : ℕ) (c : Image) → new.left_since t c → old.left_since t c
  pub keeps : (t : ℕ) (c : Image) → old.left_since t c → new.left_since t c
  pub faults : new.faults ≡ old.faults
  pub plan : new.plan ≡ option_map step old.plan

-- `calls` further calls are let through, and no more
pub record Armed (calls : ℕ) (old new : DiskState) : Type 0 where
  pub rests : Replanned (armed calls) old new
  pub honest : old.honest → new.honest

-- an empty disk of which nothing is listed, at rest
pub record IsNew (s : DiskState) : Type 0 where
  pub honest : s.honest
  pub at_rest : IsAtRest s
  pub faults : s.faults ≡ 0
  pub plan : s.plan ≡ Some empty_plan

-- after a loss of power: an honest disk stands at what a crash might have left, and stays honest
pub record Powered (choice : ℕ) (result : Result (Unit {0}) DiskFault) (old new : DiskState) : Type 0 where
  pub tells : old.tells → new.tells
  pub honest : old.honest → new.honest
  pub left : old.honest → old.may_leave new.seen
  pub at_rest : old.honest → IsAtRest new
  pub cause : HasCause old new result
  pub plan : (p : Plan) → old.plan ≡ Some p → OnOk result (new.plan ≡ Some (powered choice p))

-- what becomes of the disk of a host, where it is at home
abbrev pub AtHome : {D : Type 0} → Option D → Option D → (D → D → Type 0) → Type 0
AtHome {D = D} old new becomes = (d : D) → old ≡ Some d → (e : D) × (new ≡ Some e) × becomes d e
