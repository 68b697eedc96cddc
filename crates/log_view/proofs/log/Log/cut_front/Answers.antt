use Rattle.std.proofs.Common.{arith}
use Rattle.std.proofs.lemmas.Grind.{common_steps}
use Rattle.log_view.specs.Log.{Log}
use Rattle.log_view.proofs.Tallies.{tally_cut, term_of_entry}
use Rattle.log_view.proofs.log.Log.cut_front.Goals as goal

pub invariant_of-self : goal.invariant_of-self
invariant_of-self c =
    let i = c.self.inside in
    let l : Log = record { front = i.front; front_term = i.front_term; entries = i.held.items } in
    let term = term_of_entry l c.args.index c.index.result.now c.if-index-self.true (grind (arith, common_steps)) c.index.ensures in
    (grind (arith, common_steps), rw (c.drop-drain.ensures.items, c.drain.ensures.kept, term) (tally_cut l c.args.index i.tally (omega arith) c.self.invariant.1))
