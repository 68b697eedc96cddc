-- Entries as a list, wherever they are.
use Rattle.std.specs.Prelude.{ℕ, ◌+◌, ◌≤◌, List, length, take, drop, ⊤}
use Rattle.std.specs.Arc.{arc_value}
use Rattle.host_ids.specs.declared.entry.Entry.{Entry}
use Rattle.host_ids.specs.declared.entries.Held.{Held}
use Rattle.host_ids.specs.declared.entries.Held.TheVariants.{Own, Shared}

-- a part of a list: a number of entries from a place on
abbrev pub part : ℕ → ℕ → List Entry → List Entry
part first count es = take count (drop first es)

abbrev pub items_of : Held → List Entry
items_of (Own es) = es.items
items_of (Shared all first count) = part first count (arc_value all).items

-- a part lies within what it is a part of
abbrev pub IsWithin : Held → Type 0
IsWithin (Own es) = ⊤
IsWithin (Shared all first count) = first + count ≤ length (arc_value all).items
