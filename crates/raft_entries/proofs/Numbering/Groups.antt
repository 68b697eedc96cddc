-- Each step keeps a host numbered over what it has saved, and so every event a group.
use Rattle.std.proofs.Common.{◌≡◌, ◌≤◌, ⊎_elim, inl, ◌+◌, ◌-◌, ◌++◌, ◌&&◌, List, refl, sym, arith, take, drop, length, subst}
use Rattle.std.proofs.lemmas.Bool.{cond_both, and_parts, leb-true}
use Rattle.std.proofs.lemmas.List.Elements.{All-nil}
use Rattle.std.specs.Prelude.{⊤, nat_lt, nat_le, min, max, Some, None, IfSome}
use Rattle.std.specs.List.{All}
use Rattle.host_ids.specs.declared.entry.Entry.{Entry}
use Rattle.raft_model.specs.declared.input.Input.{Input}
use Rattle.raft_model.specs.declared.saved.SavedState.{SavedState}
use Rattle.raft_model.specs.declared.state.State.{State as Replica}
use Rattle.raft_model.specs.declared.state.Pending.{Pending}
use Rattle.roster.specs.Roster.{Seat}
use Rattle.raft_model.specs.Replica.{fresh}
use Rattle.raft_model.specs.Saving.{batch_last, stabilised, own_vote, own_match, saved_batch}
use Rattle.raft_model.specs.Step.{step, saved}
use Rattle.raft_model.specs.Group.{continued, merged, nothing_saved}
use Rattle.raft_entries.specs.Kept.{Given, Stays, then_saved}
use Rattle.raft_entries.specs.Parts.{Parts, parts}
use Rattle.raft_entries.specs.Numbers.{Numbered, IsSaved, IsMail, IsPending, Stands, IsNumbered, Numbering}
use Rattle.raft_entries.proofs.Numbering.Lists.{num_append, num_take, num_drop}
use Rattle.raft_entries.proofs.Numbering.Words.{settles, holds, numbered_words}
use Rattle.raft_entries.proofs.Numbering.Batches.{gives, merges, later_saved, restarts}
use Rattle.raft_entries.proofs.Rows.Steps.{step_by, released_by, saves_by}
use Rattle.raft_entries.proofs.Groups.Moves.{Moves}
use Rattle.raft_entries.proofs.Groups.Events.{stays_by}

-- a replica stays numbered with each input
step_numbered : (b : SavedState) (s : Seat) (input : Input) (r : Replica) → Given (λ key p. ⊤) IsMail input → IsNumbered b (parts r)
    → IsNumbered b (parts (step s input r).replica) × All IsMail (step s input r).sent
step_numbered b s input r of k = step_by (numbered_words b (λ o. IfSome o (IsPending b)) (then_saved b) s) tt input r of (λ l. absurd l) k

-- where nothing is pending, what will be saved is what is saved
idle : (b : SavedState) (x : Parts) → x.pending ≡ None → Stands b b x → IsNumbered b x
idle b x none k = (subst (λ o. IfSome o (IsPending b)) (sym none) tt, subst (λ o. Stands b (then_saved b o) x) (sym none) k)

-- a replica stays numbered with Saved, over what was pending too
save_numbered : (b : SavedState) (s : Seat) (p : Pending) (r : Replica) → r.pending ≡ Some p → IsSaved b → IsNumbered b (parts r)
    → IsSaved (merged b p.batch) × IsNumbered (merged b p.batch) (parts (saved s p r).replica) × All IsMail (saved s p r).sent
save_numbered b s p r e h k =
    let c = merged b p.batch in
    let pending : IsPending b p = subst (λ o. IfSome o (IsPending b)) e k.0 in
    let before : Stands b c (parts r) = subst (λ o. Stands b (then_saved b o) (parts r)) e k.1 in
    let settled = settles (parts r) (max r.log.front (min (batch_last p.batch) (r.from - 1))) (omega arith) (omega (arith, k.1.places)) before in
    let q = saves_by (numbered_words c (λ o. ⊤) (λ o. c) s) tt p.batch.term p.batch.vote (stabilised p.batch r) (tt, settled) in
    let voted = own_match s (own_vote s p.batch (stabilised p.batch r)).replica in
    let ends : Stands c c (parts (record voted { pending = None })) = holds (parts voted) voted.held None q.1.held q.1 in
    let x = released_by (numbered_words c (λ o. o ≡ None) (λ o. c) s) tt p.envelopes (saved_batch s p.batch r) pending.mail (refl, ends) in
    (merges b p.batch h pending.batch pending.reaches, idle c (parts (saved s p r).replica) x.0.0 x.0.1, x.1)

-- a numbered decided list goes on numbered by a numbered log
continues : (d : List Entry) (r : Replica) → Numbered 1 d → Numbered (r.log.front + 1) r.log.entries → Numbered 1 (continued d r)
continues d r h k =
    let rest = drop (length d - r.log.front) r.log.entries in
    let more = take (r.commit - length d) rest in
    let is_longer = nat_lt (length d) r.commit in
    let is_near = nat_le r.log.front (length d) in
    cond_both (is_longer && is_near) (d ++ more) d (Numbered 1)
    (λ e.
    let up = leb-true r.log.front (length d) (and_parts is_longer is_near e).1 in
    num_append 1 (length d + 1) d more (omega arith) h
    (num_take (length d + 1) (r.commit - length d) rest (num_drop (r.log.front + 1) (length d + 1) (length d - r.log.front) r.log.entries (omega (arith, up)) k)))
    (λ _. h)

-- what a host that has just begun has saved: nothing
nothing_numbered : IsSaved nothing_saved
nothing_numbered = record { entries = tt; terms = All-nil (λ (e : Entry). e.term ≤ 0); front_committed = omega arith; committed = omega arith }

-- a replica that has just begun is numbered over that
fresh_numbered : IsNumbered nothing_saved (parts fresh)
fresh_numbered = (tt, record { entries = tt; terms = All-nil (λ (e : Entry). e.term ≤ 0); some_term = inl refl; places = omega arith; held = All-nil IsMail })

-- each step of a host keeps it numbered
moves_numbered : Moves Numbering
moves_numbered = record {
  begins = (nothing_numbered, fresh_numbered);
  none = tt;
  steps = λ b s input r of k. let x = step_numbered b s input r of k.1 in ((k.0, x.0), x.1);
  readies = λ b r none k. (k.0, gives b r none k.1);
  saves = λ b s p r e k. let x = save_numbered b s p r e k.0 k.1 in ((x.0, x.1), x.2);
  leaves = λ b r d left k. (⊎_elim (λ e. subst IsSaved (sym e) k.0) (λ e. subst IsSaved (sym e) (later_saved b r.pending k.0 k.1.0)) left.batch, left.committed);
  restarts = λ d left. (left.0, restarts d left.0 left.1);
  lists = λ d b r h k. continues d r h k.1.1.entries;
}

-- every event of a group keeps it numbered
pub groups_numbered : Stays Numbering
groups_numbered = stays_by moves_numbered
