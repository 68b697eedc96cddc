-- The fronts of a whole run are also those of the part of it after any moment.
use Rattle.std.proofs.Common.{◌≡◌, true, ℕ, List, [], ◌∷◌, ◌++◌, refl, sym, ap, ◌∙◌, subst}
use Rattle.std.proofs.lemmas.List.{append_assoc}
use Rattle.std.proofs.lemmas.Bool.{and_parts, and_from}
use Rattle.host_ids.specs.declared.entry.Key.{Key}
use Rattle.raft_model.specs.declared.event.LaneEvent.{LaneEvent}
use Rattle.raft_model.specs.declared.note.Note.{Note}
use Rattle.raft_model.specs.Allowed.{is_allowed, are_allowed}
use Rattle.raft_model.specs.Group.{Group, fresh_group, act, run}
use Rattle.raft_safety.specs.Events.{AreAllowed}
use Rattle.raft_safety.specs.ReadFront.{AreFronted, ReadFront, FirstAsk, CoversNow}
use Rattle.raft_safety.specs.Runs.{HasRun}
use Rattle.group_world.specs.Members.{Kept}
use Rattle.world_laws.specs.Laws.{FrontsFromHere, AsksFromHere}

-- two lists of events, one after the other, lead where their join leads
group_both : (first more : List LaneEvent) (g : Group) → (run (first ++ more) g).group ≡ (run more (run first g).group).group
unfolding run
group_both [] more g = refl
group_both (e ∷ first) more g = group_both first more (act e g).group

-- they note what their join notes
notes_both : (first more : List LaneEvent) (g : Group) → (run (first ++ more) g).notes ≡ (run first g).notes ++ (run more (run first g).group).notes
unfolding run
notes_both [] more g = refl
notes_both (e ∷ first) more g = ap (λ ns. (act e g).notes ++ ns) (notes_both first more (act e g).group) ∙ sym (append_assoc (act e g).notes (run first (act e g).group).notes (run more (run first (act e g).group).group).notes)

-- where each is allowed in its turn, their join is
allowed_both : (first more : List LaneEvent) (g : Group) → AreAllowed g first → AreAllowed (run first g).group more → AreAllowed g (first ++ more)
unfolding run
allowed_both [] more g a b = b
allowed_both (e ∷ first) more g a b =
    let p = and_parts (is_allowed g e) (are_allowed (act e g).group first) a in
    and_from (is_allowed g e) (are_allowed (act e g).group (first ++ more)) p.0 (allowed_both first more (act e g).group p.1 b)

-- where all notes have their fronts, the later ones have
later_fronts : (asks : List (Key × ℕ)) (ns ms : List Note) → AreFronted asks (ns ++ ms) → AreFronted asks ms
later_fronts asks [] ms f = f
later_fronts asks (n ∷ ns) ms f = later_fronts asks ns ms f.1

-- the law of fronts over whole runs gives it from any moment of one
pub fronts_from_here : ReadFront → (lane : Kept) → (lane.faithful ≡ true → HasRun lane.group) → FrontsFromHere lane
fronts_from_here law lane runs faithful more all =
    let x = runs faithful in
    let g = fresh_group x.number x.voters in
    let first = x.events in
    let whole = law x.number x.voters x.some (first ++ more) (allowed_both first more g x.allowed (subst (λ (y : Group). AreAllowed y more) (sym x.is) all)) in
    let split : AreFronted (run more (run first g).group).group.asks ((run first g).notes ++ (run more (run first g).group).notes) =
    subst (λ ns. AreFronted (run more (run first g).group).group.asks ns) (notes_both first more g) (subst (λ (y : Group). AreFronted y.asks (run (first ++ more) g).notes) (group_both first more g) whole) in
    subst (λ (y : Group). AreFronted (run more y).group.asks (run more y).notes) x.is (later_fronts (run more (run first g).group).group.asks (run first g).notes (run more (run first g).group).notes split)

-- and so does the law of new keys
pub asks_from_here : FirstAsk → (lane : Kept) → (lane.faithful ≡ true → HasRun lane.group) → AsksFromHere lane
asks_from_here law lane runs faithful =
    let x = runs faithful in
    subst CoversNow x.is (law x.number x.voters x.some x.events x.allowed)
