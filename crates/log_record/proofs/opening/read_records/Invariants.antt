use Rattle.std.proofs.Common.{◌-◌, length}
use Rattle.log_record.proofs.Gating.{Goes}
use Rattle.log_record.proofs.opening.read_records.Given as goal

abbrev pub invariant-loop-opened : goal.invariant-loop-opened
invariant-loop-opened l = Goes l.file l.bytes l.opened.records.items l.opened.gate l.opened.reached

abbrev pub decreases-loop-opened : goal.decreases-loop-opened
decreases-loop-opened l = length l.bytes - l.opened.gate
