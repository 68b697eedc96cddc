-- The decided list goes on, whatever the events.
use Rattle.std.proofs.Common.{◌-◌, List, [], ◌∷◌, ◌++◌, length, take, drop, refl, sym, ap, ◌∙◌, ◌&&◌}
use Rattle.std.specs.Prelude.{nat_lt, nat_le}
use Rattle.std.proofs.lemmas.Bool.{cond_both}
use Rattle.std.proofs.lemmas.List.{append-nil, append_assoc}
use Rattle.host_ids.specs.declared.entry.Entry.{Entry}
use Rattle.raft_model.specs.declared.event.LaneEvent.{LaneEvent}
use Rattle.raft_model.specs.declared.state.State.{State as Replica}
use Rattle.raft_model.specs.Group.{Group, continued, act, run}
use Rattle.raft_safety.specs.OneList.{GoesOn}
use Rattle.raft_safety.proofs.Laws.Cases.{act_leaves}

-- a list goes on as itself
pub goes_none : (d : List Entry) → GoesOn d d
goes_none d = record { more = []; is = sym (append-nil d) }

-- a list that goes on as a second one, which goes on as a third, goes on as the third
goes_further : {a b c : List Entry} → GoesOn a b → GoesOn b c → GoesOn a c
goes_further {a} x y = record { more = x.more ++ y.more; is = y.is ∙ ap (λ xs. xs ++ y.more) x.is ∙ append_assoc a x.more y.more }

-- the decided list goes on, or stays, where a replica moves
pub goes_continued : (d : List Entry) (r : Replica) → GoesOn d (continued d r)
goes_continued d r = cond_both (nat_lt (length d) r.commit && nat_le r.log.front (length d)) _ _ (GoesOn d)
    (λ _. record { more = take (r.commit - length d) (drop (length d - r.log.front) r.log.entries); is = refl }) (λ _. goes_none d)

-- the decided list goes on, or stays, with each event
act_goes_on : (e : LaneEvent) (g : Group) → GoesOn g.decided (act e g).group.decided
act_goes_on e g = act_leaves g (λ n. GoesOn g.decided n.decided) (λ up. goes_none g.decided) (λ up saves v q sent. goes_continued g.decided q) (λ key v q sent new. goes_continued g.decided q) e

-- and over any list of events
pub run_goes_on : (es : List LaneEvent) (g : Group) → GoesOn g.decided (run es g).group.decided
unfolding run
run_goes_on [] g = goes_none g.decided
run_goes_on (e ∷ es) g = goes_further (act_goes_on e g) (run_goes_on es (act e g).group)
