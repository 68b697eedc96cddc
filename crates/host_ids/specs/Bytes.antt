-- The bytes of a text, wherever they are.
use Rattle.std.specs.Prelude.{ℕ, ◌≤◌, List, take, ⊤}
use Rattle.std.specs.Arc.{arc_slice_items}
use Rattle.host_ids.specs.declared.text.Bytes.{Bytes}
use Rattle.host_ids.specs.declared.text.Bytes.TheVariants.{Short, Long}

abbrev pub bytes_of : Bytes → List ℕ
bytes_of (Short n bytes) = take n bytes
bytes_of (Long bytes) = arc_slice_items bytes

-- the bytes that count are there
abbrev pub IsShort : Bytes → Type 0
IsShort (Short n bytes) = n ≤ 22
IsShort (Long bytes) = ⊤
