use Rattle.session_lru.proofs.Fronts.{ReadSoFar}
use Rattle.session_lru.proofs.replies.Replies.read.Given as goal

abbrev pub invariant-loop-read : goal.invariant-loop-read
invariant-loop-read l = ReadSoFar l.bytes l.at l.responded l.count l.replies l.before l.next l.read
