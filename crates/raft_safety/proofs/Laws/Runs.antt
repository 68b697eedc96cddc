-- A group that a list of allowed events led to, and what is shown of such a list from there.
use Rattle.std.proofs.Common.{◌≡◌, List, [], ◌∷◌, ◌++◌, refl, sym, ap, ◌∙◌, subst}
use Rattle.raft_model.specs.declared.event.LaneEvent.{LaneEvent}
use Rattle.raft_model.specs.Group.{Group, fresh_group, act, run}
use Rattle.raft_safety.specs.Events.{IsAllowed, AreAllowed}
use Rattle.raft_safety.specs.OneList.{IsOneList, OneList}
use Rattle.raft_safety.specs.Runs.{BeginsToRun, GoesOnToRun, RunsAsOne, ActsAsOne}
use Rattle.raft_safety.proofs.Allowed.{parts_of, all_of}

-- a list with one event more leads where that event leads from the list's group
run_more : (es : List LaneEvent) (e : LaneEvent) (g : Group) → (run (es ++ e ∷ []) g).group ≡ (act e (run es g).group).group
unfolding run
run_more [] e g = refl
run_more (x ∷ es) e g = run_more es e (act x g).group

-- a list of one event leads where the event does
run_one : (e : LaneEvent) (g : Group) → (run (e ∷ []) g).group ≡ (act e g).group
unfolding run
run_one e g = refl

-- a list with one event more is allowed where the list is, and that event after it
allowed_more : (es : List LaneEvent) (e : LaneEvent) (g : Group) → AreAllowed g es → IsAllowed (run es g).group e → AreAllowed g (es ++ e ∷ [])
unfolding run
allowed_more [] e g all one = all_of e [] g one refl
allowed_more (x ∷ es) e g all one = let a = parts_of x es g all in all_of x (es ++ e ∷ []) g a.0 (allowed_more es e (act x g).group a.1 one)

-- the empty list leads from a group that has just begun to itself
pub begins : BeginsToRun
unfolding run
begins number voters some = record { number = number; voters = voters; some = some; events = []; allowed = refl; is = refl }

-- one more allowed event makes a longer such list
pub goes_on : GoesOnToRun
goes_on e g one x = record {
  number = x.number;
  voters = x.voters;
  some = x.some;
  events = x.events ++ e ∷ [];
  allowed = allowed_more x.events e (fresh_group x.number x.voters) x.allowed (subst (λ y. IsAllowed y e) (sym x.is) one);
  is = run_more x.events e (fresh_group x.number x.voters) ∙ ap (λ y. (act e y).group) x.is;
}

-- over any more allowed events there are one leader a term and one list
pub runs : OneList → RunsAsOne
runs one before x more all = subst (λ y. IsOneList y (run more y).group) x.is (one x.number x.voters x.some x.events more x.allowed (subst (λ y. AreAllowed y more) (sym x.is) all))

-- and so there are over one event more
pub acts : OneList → ActsAsOne
acts one before x e allowed = subst (λ y. IsOneList before y) (run_one e before) (runs one before x (e ∷ []) (all_of e [] before allowed refl))
