use Rattle.log_record.proofs.Many.{Goes}
use Rattle.log_record.proofs.reading.read_many.Given as goal

abbrev pub invariant-loop-read : goal.invariant-loop-read
invariant-loop-read l = Goes l.bytes l.first l.count l.at l.entries.items l.read l.next
