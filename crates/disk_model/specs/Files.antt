-- The files of a disk that tells its plan: what is seen of each, and what a loss of power would leave of it.
use Rattle.std.specs.Prelude.{◌≡◌, ◌⊎◌, ℕ, ◌==◌, List, [], Bool, true, false, ◌||◌, if◌then◌else◌, map, length, replicate, unwrap_or}
use Rattle.std.specs.List.{filter}
use Rattle.std.specs.Map.{lookup, set_value}
use Rattle.std.specs.Option.{is_some}
use Rattle.std.specs.BTreeMap.{is_at, insert_entry}
use Rattle.std.specs.Ordering.{nat_cmp}
use Rattle.disk_model.specs.Bytes.{written, cut_to}
use Rattle.disk_model.specs.Crash.{Image}

-- a file that is listed, or was removed since the last sync of the disk
pub record FileState : Type 0 where
  -- whether it is listed
  pub listed : Bool
  -- whether it was removed since the last sync of the disk, and so may come back
  pub gone : Bool
  -- what a read gives
  pub now : List ℕ
  -- what the last sync left
  pub kept : List ℕ
  -- what a read gives, with 255 for each byte that was written since the last sync
  pub burnt : List ℕ

-- the files by ascending numbers
abbrev pub Files : Type 0
Files = List (ℕ × FileState)

-- a file of which the disk has nothing
abbrev pub nothing : FileState
nothing = record { listed = false; gone = false; now = []; kept = []; burnt = [] }

abbrev pub file_at : ℕ → Files → FileState
file_at file files = unwrap_or (lookup (is_at (nat_cmp file)) files) nothing

abbrev pub now_of : FileState → List ℕ
now_of s = if s.listed then s.now else []

abbrev pub kept_of : FileState → List ℕ
kept_of s = if s.listed || s.gone then s.kept else []

abbrev pub burnt_of : FileState → List ℕ
burnt_of s = if s.listed then s.burnt else []

abbrev pub seen_in : Files → Image
seen_in files file = now_of (file_at file files)

abbrev pub is_listed : Files → ℕ → Bool
is_listed files file = (file_at file files).listed

-- after a write
abbrev pub wrote : ℕ → List ℕ → FileState → FileState
wrote at bytes s = record { listed = true; gone = s.gone; now = written at bytes (now_of s); kept = kept_of s; burnt = written at (replicate (length bytes) 255) (burnt_of s) }

-- after a cut
abbrev pub resized : ℕ → FileState → FileState
resized n s = record { listed = true; gone = s.gone; now = cut_to n (now_of s); kept = kept_of s; burnt = cut_to n (burnt_of s) }

-- after a removal: what the last sync left may come back
abbrev pub removed : FileState → FileState
removed s = record { listed = false; gone = true; now = []; kept = kept_of s; burnt = [] }

-- with its removal sure: nothing of before may come back
abbrev pub forgotten : FileState → FileState
forgotten s = record { listed = s.listed; gone = false; now = s.now; kept = if s.gone then [] else s.kept; burnt = s.burnt }

-- after a sync
abbrev pub synced : FileState → FileState
synced s = record { listed = s.listed; gone = s.gone; now = s.now; kept = s.now; burnt = s.now }

-- one file changes, which is made where the disk has nothing of it
abbrev pub change : ℕ → (FileState → FileState) → Files → Files
change file step files = if is_some (lookup (is_at (nat_cmp file)) files) then set_value (is_at (nat_cmp file)) files (step (file_at file files)) else insert_entry nat_cmp files file (step nothing)

-- one file changes if it is listed
abbrev pub change_listed : ℕ → (FileState → FileState) → Files → Files
change_listed file step files = if is_listed files file then set_value (is_at (nat_cmp file)) files (step (file_at file files)) else files

-- each file changes, and those stay that are listed then
abbrev pub each : (FileState → FileState) → Files → Files
each step files = filter (λ e. e.1.listed) (map (λ e. (e.0, step e.1)) files)

-- what a loss of power leaves of a file: what the last sync left, what a read gives, or that with 255 for the written bytes
abbrev pub left_of : ℕ → FileState → List ℕ
left_of choice s = if choice == 0 then kept_of s else if choice == 1 then now_of s else burnt_of s

-- a file after a loss of power: what was removed comes back with what the last sync left
abbrev pub lost : ℕ → FileState → FileState
lost choice s = record { listed = s.listed || choice == 0; gone = false; now = left_of choice s; kept = left_of choice s; burnt = left_of choice s }

-- what a loss of power would leave under a choice
abbrev pub left_in : ℕ → Files → Image
left_in choice files file = left_of choice (file_at file files)

-- what a crash may leave of a file: one of these three, or nothing where it was removed since the last sync
abbrev pub IsLeft : FileState → List ℕ → Type 0
IsLeft s bytes = (bytes ≡ kept_of s) ⊎ (bytes ≡ now_of s) ⊎ (bytes ≡ burnt_of s) ⊎ ((s.gone ≡ true) × (bytes ≡ []))

-- what a crash may leave
abbrev pub Leaves : Files → Image → Type 0
Leaves files c = (f : ℕ) → IsLeft (file_at f files) (c f)

-- a crash leaves of a file what a read gives
pub record IsStill (s : FileState) : Type 0 where
  pub gone : s.gone ≡ false
  pub kept : kept_of s ≡ now_of s
  pub burnt : burnt_of s ≡ now_of s
