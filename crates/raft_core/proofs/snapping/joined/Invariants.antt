use Rattle.std.proofs.Common.{◌≡◌, ◌++◌, drop}
use Rattle.std.specs.List.{flat_map}
use Rattle.raft_core.proofs.snapping.joined.Given as goal

abbrev pub invariant-loop-chunk : goal.invariant-loop-chunk
invariant-loop-chunk l = l.bytes.items ++ flat_map (λ b. b.bytes) (drop l.chunk-index l.hand) ≡ flat_map (λ b. b.bytes) l.hand
