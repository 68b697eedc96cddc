-- What crashes may leave over several calls, and of one file alone.
use Rattle.std.specs.Prelude.{◌⊎◌, ℕ, ◌≤◌, List}
use Rattle.disk_model.specs.Crash.{Image, SameBut}
use Rattle.disk_model.specs.State.{DiskState}

-- a crash at any moment from the old state to the new one leaves an image of this kind
pub record LeavesOnly (old new : DiskState) (kind : Image → Type 0) : Type 0 where
  pub later : old.moment ≤ new.moment
  pub each : (c : Image) → new.left_since old.moment c → kind c
  pub before : (t : ℕ) (c : Image) → t ≤ old.moment → new.left_since t c → old.left_since t c ⊎ kind c
  pub keeps : (t : ℕ) (c : Image) → t ≤ old.moment → old.left_since t c → new.left_since t c

-- an image that a crash before could have left, but for one file, of which it leaves bytes of this kind
abbrev pub OnlyOf : (Image → Type 0) → ℕ → (List ℕ → Type 0) → Image → Type 0
OnlyOf may_leave file kind c = (d : Image) × may_leave d × SameBut file d c × kind (c file)
