-- What the calls of a source and a sink do, and when they may fail.
use Rattle.std.specs.Prelude.{◌≡◌, ℕ, ◌+◌, ◌-◌, ◌^◌, ◌<◌, ◌≤◌, ◌++◌, min, List, Result, Ok, Err, IsErrOf, IfOk, length}
use Rattle.std.specs.declared.option.Option.{Option}
use Rattle.std.specs.Io.KnownBytes.{Appends}
use Rattle.fault_io.specs.declared.fault.IoFault.{IoFault}
use Rattle.fault_io.specs.declared.fault.IoFault.TheVariants.{Failed, NoMemory}

-- a count goes up by one, and stays where it stands at the last value of a u64
abbrev pub one_more : ℕ → ℕ
one_more count = min (count + 1) (2 ^ 64 - 1)

-- a count of faults went up, or stands at its last value
abbrev pub Rose : ℕ → ℕ → Type 0
Rose before now = one_more before ≤ now

-- a count never falls, and a call fails only where it rose
pub record HasCause {T : Type 0} (before now : ℕ) (result : Result T IoFault) : Type 0 where
  pub later : before ≤ now
  pub failed : IsErrOf result Failed → Rose before now

-- a count goes up by one where the call failed, and stays otherwise
abbrev pub CountsFaults : {T : Type 0} → ℕ → ℕ → Result T IoFault → Type 0
CountsFaults before now (Ok _) = now ≡ before
CountsFaults before now (Err Failed) = now ≡ one_more before
CountsFaults before now (Err NoMemory) = now ≡ before

-- a put of something takes at least a byte
abbrev pub TakesSome : Result ℕ IoFault → List ℕ → Type 0
TakesSome result piece = IfOk result (λ n. 0 < length piece → 0 < n)

-- a front of the bytes was written
abbrev pub WritesFront : Option (List ℕ) → Option (List ℕ) → List ℕ → Type 0
WritesFront old new bytes = (front rest : List ℕ) × (bytes ≡ front ++ rest) × Appends old new front
