use Rattle.std.proofs.Common.{◌-◌, length}
use Rattle.gate_files.proofs.Loaded.{IsLoading}
use Rattle.gate_files.proofs.loading.load.Given as goal

abbrev pub invariant-loop-disk : goal.invariant-loop-disk
invariant-loop-disk g l = IsLoading (g.D.Disk.state l.fn.disk) (g.D.Disk.state l.disk) l.file l.size l.piece.items l.bytes.items

abbrev pub decreases-loop-disk : goal.decreases-loop-disk
decreases-loop-disk g l = l.size - length l.bytes.items
