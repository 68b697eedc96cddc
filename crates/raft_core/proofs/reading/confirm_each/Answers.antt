use Rattle.std.proofs.Common.{◌≡◌, ◌∙◌, true, ap, subst}
use Rattle.read_index.specs.Reads.{is_answered}
use Rattle.raft_core.proofs.Confirming.{goes_on}
use Rattle.raft_core.proofs.reading.confirm_each.Goals as goal

pub loop-read-preserved : goal.loop-read-preserved
loop-read-preserved c =
    let r = c.loop-read.r in
    goes_on
    c.args.seat.now
    c.in-Some.read
    r
    (record r { reads = c.confirmed.new.self })
    (record { replica = c.confirm_one.new.r; notes = c.confirm_one.new.notes.items })
    c.loop-read.notes.items
    c.in-Some.ensures.first
    (ap (λ a. record r { reads = a }) c.in-Some.ensures.stays)
    (subst (λ m. is_answered c.args.seat.now.voters m r.reads c.in-Some.read ≡ true) c.me.ensures.value
    (subst (λ vs. is_answered vs c.me.result r.reads c.in-Some.read ≡ true) c.voters.ensures.value c.in-Some.ensures.some))
    c.in_ok-confirm_one.ensures.row
    ∙ c.loop-read.invariant
