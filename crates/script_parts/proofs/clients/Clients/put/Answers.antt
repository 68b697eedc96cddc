use Rattle.script_parts.proofs.Fits.{fit_insert}
use Rattle.script_parts.proofs.clients.Clients.put.Goals as goal

pub invariant_of-self-2 : goal.invariant_of-self-2
invariant_of-self-2 c = rw c.in_ok-insert.ensures.entries (fit_insert _ c.args.name c.args.session c.self.invariant c.requires)
