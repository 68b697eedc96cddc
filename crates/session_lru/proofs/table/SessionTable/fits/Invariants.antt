use Rattle.std.proofs.Common.{◌≡◌, ◌+◌, ◌-◌, ◌^◌, length, min, reverse}
use Rattle.std.specs.List.{flat_map}
use Rattle.session_lru.specs.Section.{session_bytes, section}
use Rattle.session_lru.proofs.table.SessionTable.fits.Given as goal

abbrev pub invariant-loop-session : goal.invariant-loop-session
invariant-loop-session l = min (l.size + length (flat_map session_bytes (reverse l.rest))) (2 ^ 64 - 1) ≡ min (length (section l.self)) (2 ^ 64 - 1)

abbrev pub decreases-loop-session : goal.decreases-loop-session
decreases-loop-session l = length l.rest
