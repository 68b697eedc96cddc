use Rattle.std.proofs.Common.{◌-◌, arith}
use Rattle.std.proofs.lemmas.Grind.{common_steps}
use Rattle.log_view.specs.Log.{Log}
use Rattle.log_view.proofs.Tallies.{tally_append, tally_take}
use Rattle.log_view.proofs.log.Log.append_after.Goals as goal

pub invariant_of-self-2 : goal.invariant_of-self-2
invariant_of-self-2 c =
    let i = c.self.inside in
    (grind (arith, common_steps), rw (c.truncate.ensures.items, c.reserve.ensures.items) (tally_take i.front_term (c.args.index - i.front) i.held.items i.tally c.self.invariant.1))

pub invariant_of-self-3 : goal.invariant_of-self-3
invariant_of-self-3 c =
    let i = c.self.inside in
    let l : Log = record { front = i.front; front_term = i.front_term; entries = c.truncate.new.self.items } in
    let kept = rw (← c.reserve.ensures.items, ← c.truncate.ensures.items) at (tally_take i.front_term (c.args.index - i.front) i.held.items i.tally c.self.invariant.1) in
    (grind (arith, common_steps), rw (c.in_ok-append.ensures.items, c.with_all-tally.ensures, c.last_term.ensures, c.deref.ensures.value) (tally_append l c.in_ok-more.more.items i.tally kept))
