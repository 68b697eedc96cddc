use Rattle.std.proofs.lemmas.List.{length-take-le}
use Rattle.wire_types.proofs.Growing.{all_shown-part, are_shown-part}
use Rattle.wire_types.proofs.envelopes.Envelopes.push_part.Goals as goal

pub invariant_of-self-in-Some : goal.invariant_of-self-in-Some
invariant_of-self-in-Some c =
    let before = c.self.inside in
    let size = length-take-le _ _ c.requires.within in
    let now = c.in_ok-extend.ensures in
    rw c.in_ok-push.ensures.items
    (are_shown-part before.run.entries.items c.extend.new.self.entries.items before.slots.items c.args.head c.in-Some.first c.args.count _ now.grown c.self.invariant size now.within)

pub returns-in-Some : goal.returns-in-Some
returns-in-Some c =
    let before = c.self.inside in
    let size = length-take-le _ _ c.requires.within in
    let now = c.in_ok-extend.ensures in
    rw (c.in_ok-push.ensures.items, ← c.self.view_is)
    (all_shown-part before.done.items before.run.entries.items c.extend.new.self.entries.items before.slots.items c.args.head c.in-Some.first c.args.count _ now.grown c.self.invariant size now.part)
