-- What a crash may leave of files, one call after another.
use Rattle.std.specs.Prelude.{◌≡◌, ◌≢◌, ◌⊎◌, ℕ, ◌+◌, ◌-◌, ◌<◌, ◌≤◌, List, [], length, take, drop}

-- the bytes of each file, none where it isn't listed
abbrev pub Image : Type 0
Image = ℕ → List ℕ

-- the other files are as they were
abbrev pub SameBut : ℕ → Image → Image → Type 0
SameBut file old new = (f : ℕ) → f ≢ file → new f ≡ old f

-- a write of n bytes that isn't sure: any bytes in its range and any past the old end, all else as it was
pub record Torn (at n : ℕ) (old new : List ℕ) : Type 0 where
  pub before : take at (take (length old) new) ≡ take at old
  pub after : take (length old - (at + n)) (drop (at + n) new) ≡ drop (at + n) old
  pub no_shorter : length old ≤ length new

-- a cut to n bytes that isn't sure: undone or not, and any bytes past the old end where it goes past it
abbrev pub Cut : ℕ → List ℕ → List ℕ → Type 0
Cut n old new = (new ≡ old) ⊎ (new ≡ take n old) ⊎ ((length old < n) × (take (length old) new ≡ old))

-- a removal that isn't sure: undone or not
abbrev pub Gone : List ℕ → List ℕ → Type 0
Gone old new = (new ≡ old) ⊎ (new ≡ [])

-- each new outcome of a crash is an old one, but for one file, which a step has changed
abbrev pub Follows : ℕ → (List ℕ → List ℕ → Type 0) → (Image → Type 0) → (Image → Type 0) → Type 0
Follows file step old new = (c : Image) → new c → (d : Image) × old d × SameBut file d c × step (d file) (c file)

-- each new outcome of a crash is an old one
abbrev pub Fewer : (Image → Type 0) → (Image → Type 0) → Type 0
Fewer old new = (c : Image) → new c → old c

-- of this file a crash leaves these bytes and nothing else
abbrev pub Only : ℕ → List ℕ → (Image → Type 0) → Type 0
Only file bytes outcomes = (c : Image) → outcomes c → c file ≡ bytes

-- time goes on: a crash since t may have left what it may have left before, or what it may leave now
pub record Elapses (before now : ℕ) (past since : ℕ → Image → Type 0) (may_leave : Image → Type 0) : Type 0 where
  pub later : before ≤ now
  pub nothing_else : (t : ℕ) (c : Image) → t ≤ before → since t c → past t c ⊎ may_leave c
  pub keeps : (t : ℕ) (c : Image) → t ≤ before → past t c → since t c
