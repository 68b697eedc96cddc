use Rattle.std.proofs.Common.{◌≡◌, drop}
use Rattle.std.specs.Prelude.{nat_le}
use Rattle.raft_model.specs.Saving.{bytes_of}
use Rattle.raft_core.proofs.saving.have_bytes.Given as goal

abbrev pub invariant-loop-entry : goal.invariant-loop-entry
invariant-loop-entry l = nat_le l.left (bytes_of (drop l.entry-index l.entries)) ≡ nat_le l.most (bytes_of l.entries)
