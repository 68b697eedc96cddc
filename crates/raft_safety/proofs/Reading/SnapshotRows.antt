-- The rows of snapshots, and of a log that is cut at its front, touch no open read.
use Rattle.std.proofs.Common.{ℕ, ◌≤◌, length, Bool, sym, subst, arith, Some, None, ◌==◌, ◌&&◌}
use Rattle.std.specs.Prelude.{nat_lt, nat_le}
use Rattle.std.proofs.lemmas.Bool.{cond_both, and_parts}
use Rattle.raft_model.specs.declared.chunk.Chunk.{Chunk}
use Rattle.raft_model.specs.declared.state.State.{State as Replica}
use Rattle.roster.specs.Roster.{Seat}
use Rattle.raft_model.specs.Replica.{is_leader, is_follower, ripe, in_term}
use Rattle.raft_model.specs.Appending.{follows, progress, with_progress, reached}
use Rattle.raft_model.specs.Snapping.{taken, after_take, on_chunk, on_snap_reply, sends_chunk, compacted, stays, based, replied, installed}
use Rattle.raft_model.specs.Group.{Group, replica_at, seat}
use Rattle.raft_safety.specs.Events.{IsNamed}
use Rattle.raft_safety.specs.Rounds.{HasReads, view}
use Rattle.raft_safety.proofs.Argument.WholeLogs.{decided_place}
use Rattle.raft_safety.proofs.Frame.Roles.{waits}
use Rattle.raft_safety.proofs.Reading.Steps.{RowReads, Does, RowOut}
use Rattle.raft_safety.proofs.Reading.OtherRows.{in_term_commit, follower_does, sends, more_does, out, committed, start, terms}

module _ {g : Group} (p : HasReads g) (v : ℕ) where
  -- the host's replica
  abbrev r : Replica
  r = replica_at g v

  -- its seat
  abbrev s : Seat
  s = seat g v

  -- what a row owes of a replica, with the rounds as they are
  abbrev D : Replica → Type 0
  D = Does p.rounds g v

  -- SnapChunk keeps what is owed of reads
  pub chunk_out : (from : ℕ) (c : Chunk) → RowOut g v (on_chunk s from c (in_term c.term r))
  chunk_out from c =
      let q = in_term c.term r in
      let d = terms p v c.term in
      let f = follows from q in
      let df : D f = follower_does q.commit (let m = committed p v in omega (arith, in_term_commit c.term r, m)) d in
      let w = taken q.assembly c in
      cond_both (nat_lt c.term q.term) _ _ (RowOut g v) (λ _. out p v (sends _ tt d) tt) (λ _. cond_both (is_leader q) _ _ (RowOut g v) (λ _. out p v d tt)
      (λ _. cond_both (nat_le c.index q.commit) _ _ (RowOut g v) (λ _. out p v (sends _ tt df) tt)
      (λ _. out p v (elim w.whole as (λ y. D (after_take s from c (record w { whole = y }) f)) [ None ↦ sends _ tt df | Some bytes ↦ df ]) tt)))

  -- SnapReply keeps it
  pub snap_reply_out : (from t i : ℕ) (whole : Bool) → RowOut g v (on_snap_reply s from t i whole (in_term t r))
  snap_reply_out from t i whole =
      let q = in_term t r in
      cond_both (whole && (t == q.term) && is_leader q) _ _ (RowOut g v)
      (λ _. out p v (more_does s from (with_progress (reached from i (progress q)) q) (terms p v t)) tt) (λ _. out p v (terms p v t) tt)

  -- the sending of a chunk keeps it
  pub sends_chunk_out : (to : ℕ) (c : Chunk) → RowOut g v (sends_chunk s to c r)
  sends_chunk_out to c = out p v (sends _ tt (start p v)) tt

  -- Compact keeps it
  pub compacted_out : (i : ℕ) → RowOut g v (compacted i r)
  compacted_out i = cond_both (nat_lt r.log.front i && nat_le i (ripe r)) _ _ (RowOut g v) (λ _. out p v (start p v) tt) (λ _. out p v (start p v) tt)

  -- a snapshot of decided places that is put in keeps it
  pub installed_out : (i t : ℕ) → i ≤ length g.decided → RowOut g v (installed s i t r)
  installed_out i t less = cond_both (is_follower r && nat_lt r.commit i) _ _ (RowOut g v)
      (λ e.
      let role = waits r (and_parts (is_follower r) (nat_lt r.commit i) e).0 in
      let d : RowReads p.rounds g v (record (view r) { commit = i }) = subst (λ x. RowReads p.rounds g v (record (view r) { role = x; commit = i })) (sym role) (follower_does i less (start p v)) in
      let db : D (based i t r) = cond_both (stays r.log i t) _ _ D (λ _. d) (λ _. d) in
      out p v (elim r.inbox as (λ y. D (replied s i y (based i t r))) [ None ↦ db | Some w ↦ sends _ tt db ]) tt)
      (λ _. out p v (start p v) tt)

  -- the snapshot in the inbox is of decided places
  pub named_within : (i t : ℕ) → IsNamed g v i t → i ≤ length g.decided
  named_within i t a =
      let s = a.snapshot in
      let m = (decided_place g.decided s.received.index s.received.term ((p.common.kept.holds.hosts v).inbox s a.inbox)).0 in
      omega (arith, m, a.index)
