-- Which disk stands where in a depot in memory.
use Rattle.std.specs.Prelude.{◌≡◌, ℕ, ◌==◌, if◌then◌else◌, Option, Some, None, slice_index_or}
use Rattle.disk_model.specs.Depot.{IsNew}
use Rattle.disk_model.specs.Memory.{disk_state}
use Rattle.disk_model.specs.declared.memory.MemDisk.{MemDisk}
use Rattle.disk_model.specs.declared.mem_depot.MemDepot.{MemDepot}

abbrev pub disk_at : MemDepot → ℕ → Option MemDisk
disk_at d host = if host == 1 then d.one else if host == 2 then d.two else if host == 3 then d.three else if host == 4 then d.four else if host == 5 then d.five else if host == 6 then d.six else if host == 7 then d.seven else if host == 8 then d.eight else if host == 9 then d.nine else None

abbrev pub arms_at : MemDepot → ℕ → ℕ
arms_at d host = slice_index_or d.arms host 0

abbrev pub faults_at : MemDepot → ℕ → ℕ
faults_at d host = slice_index_or d.at_take host 0

-- an empty disk is there
abbrev pub HasNew : Option MemDisk → Type 0
HasNew place = (d : MemDisk) × (place ≡ Some d) × IsNew (disk_state d)
