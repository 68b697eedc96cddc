-- Files of records, each after a gate: a byte that is 1 once the record after it is sure.
use Rattle.std.specs.Prelude.{◌≡◌, ◌≢◌, ◌⊎◌, ℕ, List, [], ◌∷◌, ◌++◌, length}
use Rattle.std.specs.List.{flat_map}
use Rattle.std.specs.Int.{to_be_bytes, w32}
use Rattle.disk_model.specs.Crash.{Only}
use Rattle.disk_model.specs.State.{DiskState}

-- the letters NHLOG001
abbrev pub header : List ℕ
header = 0x4e ∷ 0x48 ∷ 0x4c ∷ 0x4f ∷ 0x47 ∷ 0x30 ∷ 0x30 ∷ 0x31 ∷ []

-- the length of a record and the record
abbrev pub sized : List ℕ → List ℕ
sized r = to_be_bytes w32 (length r) ++ r

-- what the first write of a record puts after its gate: its length, the record and a closed gate
abbrev pub framed : List ℕ → List ℕ
framed r = sized r ++ 0 ∷ []

-- a record after an open gate
abbrev pub gated : List ℕ → List ℕ
gated r = 1 ∷ sized r

-- the header and these records, each after an open gate
abbrev pub opened : List (List ℕ) → List ℕ
opened rs = header ++ flat_map gated rs

-- a gate that isn't open, whatever follows
abbrev pub IsClosed : List ℕ → Type 0
IsClosed bytes = (g : ℕ) × (rest : List ℕ) × (bytes ≡ g ∷ rest) × (g ≢ 1)

-- what stands after open gates, up to the first that isn't open, are these records
abbrev pub Opens : List (List ℕ) → List ℕ → Type 0
Opens rs bytes = (rest : List ℕ) × (bytes ≡ opened rs ++ rest) × IsClosed rest

-- the records of before, or one more
abbrev pub OldOrNew : List (List ℕ) → List ℕ → List ℕ → Type 0
OldOrNew rs r bytes = Opens rs bytes ⊎ Opens (rs ++ r ∷ []) bytes

-- a file with these records, all of it sure, and the place of its first gate that isn't open
pub record IsAt (s : DiskState) (file gate : ℕ) (rs : List (List ℕ)) : Type 0 where
  pub opens : Opens rs (s.seen file)
  pub place : gate ≡ length (opened rs)
  pub sure : Only file (s.seen file) s.may_leave
