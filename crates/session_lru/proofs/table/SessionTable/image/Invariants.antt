use Rattle.std.proofs.Common.{◌≡◌, ◌++◌, length, reverse, true}
use Rattle.std.specs.List.{flat_map, list_all}
use Rattle.session_lru.specs.Section.{session_bytes, section, is_session}
use Rattle.session_lru.proofs.table.SessionTable.image.Given as goal

abbrev pub invariant-loop-client : goal.invariant-loop-client
invariant-loop-client l = (list_all is_session l.rest ≡ true) × (l.out.items ++ flat_map session_bytes (reverse l.rest) ≡ section l.self)

abbrev pub decreases-loop-client : goal.decreases-loop-client
decreases-loop-client l = length l.rest
