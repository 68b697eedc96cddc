use Rattle.std.proofs.Common.{[], ◌∷◌, arith}
use Rattle.std.proofs.lemmas.Grind.{common_steps}
use Rattle.log_view.specs.Log.{Log}
use Rattle.log_view.proofs.Tallies.{tally_append}
use Rattle.log_view.proofs.log.Log.push.Goals as goal

pub invariant_of-self-2 : goal.invariant_of-self-2
invariant_of-self-2 c =
    let i = c.self.inside in
    let l : Log = record { front = i.front; front_term = i.front_term; entries = i.held.items } in
    (grind (arith, common_steps), rw (c.in_ok-push.ensures.items, c.with-tally.ensures, c.last_term.ensures, ← c.self.view_is) (tally_append l (c.args.entry ∷ []) i.tally c.self.invariant.1))
