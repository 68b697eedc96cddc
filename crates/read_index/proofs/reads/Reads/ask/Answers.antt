use Rattle.std.proofs.Common.{refl}
use Rattle.read_index.proofs.Order.{opens_last}
use Rattle.read_index.proofs.reads.Reads.ask.Goals as goal

pub invariant_of-self-2 : goal.invariant_of-self-2
invariant_of-self-2 c = rw c.in_ok-push_back.ensures.items (opens_last _ _ _ refl c.self.invariant)
