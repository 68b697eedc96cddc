-- Files of which none was removed since the last sync.
use Rattle.std.specs.Prelude.{Bool, ◌&&◌, not, if◌then◌else◌}
use Rattle.std.specs.List.{list_all}
use Rattle.disk_model.specs.Files.{Files, FileState, nothing, forgotten}

-- a file that is listed, and of which nothing may come back
abbrev pub is_plain : FileState → Bool
is_plain s = s.listed && not s.gone

abbrev pub are_plain : Files → Bool
are_plain files = list_all (λ e. is_plain e.1) files

-- a file once each removal is sure
abbrev pub purged_at : FileState → FileState
purged_at s = if s.listed then forgotten s else nothing
