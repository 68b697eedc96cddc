-- What the calls of a disk do.
use Rattle.std.specs.Prelude.{◌≡◌, ◌≢◌, ℕ, ◌-◌, ◌≤◌, ◌++◌, min, List, [], Bool, true, false, Option, Some, Result, Ok, Err, IsErrOf, length, take, drop}
use Rattle.disk_model.specs.Crash.{Image, SameBut, Follows, Fewer, Elapses}
use Rattle.disk_model.specs.Plan.{Plan, one_more, fails, counted}
use Rattle.disk_model.specs.State.{DiskState}
use Rattle.disk_model.specs.declared.fault.DiskFault.{DiskFault}
use Rattle.disk_model.specs.declared.fault.DiskFault.TheVariants.{Failed, NoMemory}

-- a count went up, or stands at its last value
abbrev pub Rose : ℕ → ℕ → Type 0
Rose before now = one_more before ≤ now

-- the count of faults never falls, and a call fails only where it rose
pub record HasCause {T : Type 0} (old new : DiskState) (result : Result T DiskFault) : Type 0 where
  pub later : old.faults ≤ new.faults
  pub failed : IsErrOf result Failed → Rose old.faults new.faults

-- what every call keeps: a disk that tells goes on to tell, an honest one stays honest, and time goes on
pub record GoesOn (old new : DiskState) : Type 0 where
  pub tells : old.tells → new.tells
  pub honest : old.honest → new.honest
  pub time : old.honest → Elapses old.moment new.moment old.left_since new.left_since new.may_leave

-- nothing is changed, and a crash may leave nothing that it couldn't leave before
pub record Keeps (old new : DiskState) : Type 0 where
  pub seen : old.tells → (f : ℕ) → new.seen f ≡ old.seen f
  pub listed : old.tells → (f : ℕ) → new.listed f ≡ old.listed f
  pub crash : old.honest → Fewer old.may_leave new.may_leave

-- one file is changed by a step that isn't sure before a sync; the others stay, and what a crash may leave of them
pub record Alters (file : ℕ) (step : List ℕ → List ℕ → Type 0) (old new : DiskState) : Type 0 where
  pub seen : old.tells → step (old.seen file) (new.seen file)
  pub others : old.tells → SameBut file old.seen new.seen
  pub listed : old.tells → (f : ℕ) → f ≢ file → new.listed f ≡ old.listed f
  pub crash : old.honest → Follows file step old.may_leave new.may_leave

-- a file has these bytes, and is listed or not
pub record Has (file : ℕ) (content : List ℕ) (is_there : Bool) (s : DiskState) : Type 0 where
  pub bytes : s.seen file ≡ content
  pub listed : s.listed file ≡ is_there

-- after a sync a crash leaves of the file what a read gives, and nothing of a file that isn't listed
pub record IsSure (file : ℕ) (s : DiskState) : Type 0 where
  pub bytes : (c : Image) → s.may_leave c → c file ≡ s.seen file
  pub unlisted : (c : Image) (f : ℕ) → s.may_leave c → s.listed f ≡ false → c f ≡ []

-- a read gives the bytes from a place on, as far as the file and the buffer reach, and leaves the rest of the buffer
pub record Reads (bytes : List ℕ) (at n : ℕ) (old new : List ℕ) : Type 0 where
  pub count : n ≡ min (length old) (length bytes - at)
  pub moved : new ≡ take n (drop at bytes) ++ drop n old

-- what becomes of a plan: a call fails exactly where the plan has it, and then it only counts, as where memory ran out; a fault is counted where the call failed, and nowhere else
abbrev pub Becomes : {T : Type 0} → Plan → (Plan → Plan) → Result T DiskFault → DiskState → DiskState → Type 0
Becomes p done (Ok _) old new = (fails p ≡ false) × (new.plan ≡ Some (done (counted p))) × (new.faults ≡ old.faults)
Becomes p done (Err Failed) old new = (fails p ≡ true) × (new.plan ≡ Some (counted p)) × (new.faults ≡ one_more old.faults)
Becomes p done (Err NoMemory) old new = (fails p ≡ false) × (new.plan ≡ Some (counted p)) × (new.faults ≡ old.faults)

-- where a plan is told, a call does what it has
abbrev pub Planned : {T : Type 0} → DiskState → DiskState → (Plan → Plan) → Result T DiskFault → Type 0
Planned old new done result = (p : Plan) → old.plan ≡ Some p → Becomes p done result old new
