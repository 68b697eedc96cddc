use Rattle.session_lru.proofs.Opening.{Opened}
use Rattle.session_lru.proofs.table.SessionTable.from_image.Given as goal

abbrev pub invariant-loop-read : goal.invariant-loop-read
invariant-loop-read l = Opened l.bytes l.limit l.count l.table l.at l.read
