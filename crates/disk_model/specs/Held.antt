-- A file of a disk in memory as a file of its plan.
use Rattle.std.specs.Prelude.{◌≡◌, List, ℕ, [], Bool, true, false, Option, Some, None}
use Rattle.disk_model.specs.Undo.{Held}
use Rattle.disk_model.specs.Files.{FileState}

-- what the last sync left, in the file that was removed since or in the one that stands
abbrev pub kept_in : Held → Option Held → List ℕ
kept_in contents None = contents.kept
kept_in contents (Some gone) = gone.kept

abbrev pub is_gone : Option Held → Bool
is_gone None = false
is_gone (Some gone) = true

abbrev pub file_of : Bool → Held → Option Held → FileState
file_of listed contents gone = record { listed = listed; gone = is_gone gone; now = contents.now; kept = kept_in contents gone; burnt = contents.burnt }

-- nothing stands in a file that isn't listed, and nothing that the last sync left in one that was removed since
pub record IsFile (listed : Bool) (contents : Held) (gone : Option Held) : Type 0 where
  pub unlisted_now : listed ≡ false → contents.now ≡ []
  pub unlisted_burnt : listed ≡ false → contents.burnt ≡ []
  pub unlisted_kept : listed ≡ false → contents.kept ≡ []
  pub anew : is_gone gone ≡ true → contents.kept ≡ []
