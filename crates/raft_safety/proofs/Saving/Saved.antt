-- Saved: the batch is saved, a candidate counts its own vote, and a leader what it has saved itself.
use Rattle.std.proofs.Common.{◌≡◌, ◌≤◌, ◌++◌, refl, sym, subst, arith, None}
use Rattle.raft_model.specs.Saving.{stabilised, own_vote}
use Rattle.raft_model.specs.Group.{seat, merged, continued}
use Rattle.raft_safety.specs.History.{History}
use Rattle.raft_safety.proofs.Frame.Opened.{Open}
use Rattle.raft_safety.proofs.Frame.Tables.{at_mine}
use Rattle.raft_safety.proofs.Frame.Levels.{with_levels}
use Rattle.raft_safety.proofs.Laws.Owed.{SavedRow}
use Rattle.raft_safety.proofs.Replication.AppendReply.{own_match_step}
use Rattle.raft_safety.proofs.Elections.VoteReply.{own_vote_step}
use Rattle.raft_safety.proofs.Saving.Pending.{saved_pending}
use Rattle.raft_safety.proofs.Saving.Stored.{saved_step}

-- Saved keeps the invariant: the batch is taken off first, then votes and matched indices count what is saved
pub saved_row : SavedRow
saved_row p g v h b r d w some o pending =
    let c = merged b p.batch in
    let k = with_levels v (h.saving v) (h.saving v) h in
    let x = w ++ p.envelopes in
    let f = own_vote_step p.batch refl refl (saved_step p pending o p.envelopes (λ m on. on) some) in
    let q = (own_vote (seat g v) p.batch (record (stabilised p.batch r) { pending = None })).replica in
    let level : f.history.saving v q.term ≤ f.history.answer v q.term =
    (let s : k.saving v q.term ≡ h.saving v q.term = at_mine v (h.saving v) h.saving q.term in
    let a : k.answer v q.term ≡ h.saving v q.term = at_mine v (h.saving v) h.answer q.term in
    omega (arith, f.saving v q.term, f.answer v q.term, s, a)) in
    let z = own_match_step f.holds level in
    subst (λ y. (i : History) × Open i g v c y (continued d y) x) (sym (saved_pending (seat g v) p.batch r)) (z.history, z.holds)
