use Rattle.read_index.proofs.Order.{ascend_on}
use Rattle.read_index.proofs.reads.Reads.beat.Goals as goal

pub invariant_of-self : goal.invariant_of-self
invariant_of-self c = ascend_on _ _ c.self.invariant
