use Rattle.script_parts.proofs.Fits.{lent_fit}
use Rattle.script_parts.proofs.clients.Clients.get.Goals as goal

pub returns-clause-fit : goal.returns-clause-fit
returns-clause-fit c = lent_fit c.self.inside.held.entries _ c.get.result c.self.invariant c.get.ensures.value
