-- The plan of a disk that tells it: which calls fail, which files a loss of power replaces, and what it would leave.
use Rattle.std.specs.Prelude.{ℕ, ◌+◌, ◌-◌, ◌^◌, ◌==◌, min, List, [], ◌∷◌, ◌++◌, Bool, true, false, ◌||◌, not, if◌then◌else◌, nat_le, nat_eq, Option, Some, None}
use Rattle.std.specs.List.{list_any}
use Rattle.disk_model.specs.declared.damage.Damage.{Damage}
use Rattle.disk_model.specs.Files.{Files, FileState, change, each, lost}

-- a count goes up by one, and stays where it stands at the last value of a u64
abbrev pub one_more : ℕ → ℕ
one_more count = min (count + 1) (2 ^ 64 - 1)

pub record Plan : Type 0 where
  -- how many calls were made
  pub made : ℕ
  -- the calls that fail, counted from 1
  pub failing : List ℕ
  -- the last call that doesn't fail, where the disk is armed
  pub last : Option ℕ
  -- how often the power was lost
  pub losses : ℕ
  pub damages : List Damage
  pub files : Files

abbrev pub empty_plan : Plan
empty_plan = record { made = 0; failing = []; last = None; losses = 0; damages = []; files = [] }

abbrev pub is_past : ℕ → Option ℕ → Bool
is_past call None = false
is_past call (Some last) = not (nat_le call last)

-- the next call fails
abbrev pub fails : Plan → Bool
fails p = list_any (nat_eq (one_more p.made)) p.failing || is_past (one_more p.made) p.last

-- a call was made
abbrev pub counted : Plan → Plan
counted p = record p { made = one_more p.made }

-- the files have changed
abbrev pub with_files : (Files → Files) → Plan → Plan
with_files step p = record p { files = step p.files }

-- `calls` further calls are let through, and no more
abbrev pub armed : ℕ → Plan → Plan
armed calls p = record p { last = Some (min (p.made + calls) (2 ^ 64 - 1)) }

-- bytes that a loss of power puts into one file, which is then listed
abbrev pub damaged : List ℕ → FileState → FileState
damaged bytes s = record { listed = true; gone = false; now = bytes; kept = bytes; burnt = bytes }

-- one damage, if it is of this loss
abbrev pub damaged_by : ℕ → Damage → Files → Files
damaged_by loss d files = if d.loss == loss then change d.file (damaged d.bytes.items) files else files

-- the listed damage of this loss, in the order in which it was listed
abbrev pub all_damaged : ℕ → List Damage → Files → Files
all_damaged loss [] files = files
all_damaged loss (d ∷ ds) files = all_damaged loss ds (damaged_by loss d files)

-- damage is listed for this loss
abbrev pub is_damaging : ℕ → List Damage → Bool
is_damaging loss ds = list_any (λ d. nat_eq loss d.loss) ds

-- the power was lost under a choice
abbrev pub powered : ℕ → Plan → Plan
powered choice p = let loss = one_more p.losses in record p { last = None; losses = loss; files = all_damaged loss p.damages (each (lost choice) p.files) }

-- a further call is listed to fail
abbrev pub failing_too : ℕ → Plan → Plan
failing_too call p = record p { failing = p.failing ++ call ∷ [] }

-- a further damage is listed
abbrev pub damaging_too : Damage → Plan → Plan
damaging_too d p = record p { damages = p.damages ++ d ∷ [] }
