-- A chunk is sent and taken in, and a leader hears that a snapshot is there.
use Rattle.std.proofs.Common.{◌≡◌, ℕ, ◌+◌, ◌≤◌, List, true, false, refl, ap, ◌∙◌, subst, inr, Option, Some, None, ◌==◌, ◌&&◌}
use Rattle.std.specs.Prelude.{nat_lt, nat_le}
use Rattle.std.proofs.lemmas.Bool.{leb-true, eqb-true, and_parts}
use Rattle.host_ids.specs.declared.entry.Entry.{Entry}
use Rattle.raft_model.specs.declared.saved.SavedState.{SavedState}
use Rattle.wire_types.specs.declared.envelope.Envelope.{Envelope}
use Rattle.wire_types.specs.declared.envelope.Body.TheVariants as bodies
use Rattle.raft_model.specs.declared.chunk.Chunk.{Chunk}
use Rattle.raft_model.specs.declared.state.State.{State as Replica}
use Rattle.raft_model.specs.declared.state.Inbox.{Inbox}
use Rattle.raft_model.specs.Replica.{is_leader, sent, in_term}
use Rattle.raft_model.specs.Appending.{follows, more_to, progress, with_progress}
use Rattle.raft_model.specs.Appending as appending
use Rattle.raft_model.specs.Snapping.{taken, after_take}
use Rattle.raft_model.specs.Group.{Group, seat, is_decided}
use Rattle.raft_safety.specs.History.{History}
use Rattle.raft_safety.specs.Envelopes.{Tells}
use Rattle.raft_safety.specs.Invariant.{HasAnswer}
use Rattle.raft_safety.proofs.Frame.Opened.{Open}
use Rattle.raft_safety.proofs.Frame.Words.{holding, follow_step, rest, rest_step}
use Rattle.raft_safety.proofs.Frame.Settle.{Reached, reached, in_term_step, delivered, either_row}
use Rattle.raft_safety.proofs.Replication.Sending.{more_to_step}
use Rattle.raft_safety.proofs.Replication.OldAnswers.{old_answer}
use Rattle.raft_safety.proofs.Replication.AppendReply.{progress_step, more_matched}
use Rattle.raft_safety.proofs.Laws.Owed.{SendChunkRow, ChunkRow, SnapReplyRow}
use Rattle.raft_safety.proofs.Frame.Roles.{leads}

-- the chunks in hand change, and the inbox, to a snapshot of decided places
inbox_step : {g : Group} {v : ℕ} {h : History} {b : SavedState} {r : Replica} {d : List Entry} {w : List Envelope} (assembly : List Chunk) (inbox : Option Inbox) → Open h g v b r d w
    → ((s : Inbox) → inbox ≡ Some s → is_decided d s.received.index s.received.term ≡ true) → Open h g v b (record r { assembly = assembly; inbox = inbox }) d w
inbox_step {r = r} assembly inbox o decided =
    let s = o.mine.stands in
    rest_step (record (rest r) { assembly = assembly; inbox = inbox }) o o.mine.held s.candidate s.leader decided

-- a chunk of a decided place may be sent
pub send_chunk_row : SendChunkRow
send_chunk_row to c g v h b r d w some o decided =
    reached (holding (record { from = v; to = to; group = g.number; term = c.term; body = bodies.SnapChunk c.index c.last_term c.number c.count c.size c.bytes }) refl decided o)

-- a chunk of a decided place at one that doesn't lead
module _ {g : Group} {v : ℕ} {h : History} {b : SavedState} {r : Replica} {d : List Entry} {w : List Envelope} (o : Open h g v b r d w) (from : ℕ) (c : Chunk)
    (decided : is_decided d c.index c.last_term ≡ true) where
  -- a chunk is taken in: more are asked for, or the snapshot is whole
  take_row : Reached g v b d w (after_take (seat g v) from c (taken r.assembly c) r)
  take_row =
      let t = taken r.assembly c in
      elim t.whole as (λ x. Reached g v b d w (let q : Replica = elim x as (λ _. Replica) [
        | None ↦ sent (seat g v) from (bodies.SnapReply c.index t.want false) (record r { assembly = t.hand })
        | Some bytes ↦ record r { assembly = t.hand; inbox = Some (record { received = record { index = c.index; term = c.last_term; bytes = bytes }; sender = from; count = c.count }) }
      ] in q)) [
        | None ↦ reached (holding (record { from = v; to = from; group = g.number; term = r.term; body = bodies.SnapReply c.index t.want false }) refl (λ yes. absurd (cc))
            (inbox_step t.hand r.inbox o o.mine.inbox))
        | Some bytes ↦
            let x : Inbox = record { received = record { index = c.index; term = c.last_term; bytes = bytes }; sender = from; count = c.count } in
            reached (inbox_step t.hand (Some x) o (λ s is. let same : x ≡ s = (let z : Some x ≡ Some s = is in cc) in subst (λ (y : Inbox). is_decided d y.received.index y.received.term ≡ true) same decided))
      ]

  -- a host that has committed the place says that it needs no more
  covered_row : c.index ≤ r.commit → Reached g v b d w (sent (seat g v) from (bodies.SnapReply c.index (c.count + 1) true) r)
  covered_row low = reached (holding (record { from = v; to = from; group = g.number; term = r.term; body = bodies.SnapReply c.index (c.count + 1) true }) refl
      (λ yes. record { committed = low; counts = old_answer o h.told c.index low }) o)

-- the row of SnapChunk keeps the invariant
pub chunk_row : ChunkRow
chunk_row m index lt number count size bytes body g v h b r0 d w some before to on =
    let r = in_term m.term r0 in
    let o : Open h g v b r d w = in_term_step m.term before in
    let c : Chunk = record { term = m.term; index = index; last_term = lt; number = number; count = count; size = size; bytes = bytes } in
    let told = delivered m o on in
    let decided : is_decided d index lt ≡ true = subst (λ y. Tells h d (HasAnswer w) h.answer m.from m.to m.term y told.stage) body told.tells in
    let f : Replica = follows m.from r in
    let of : Open h g v b f d w = follow_step m.from o in
    either_row (nat_lt m.term r.term) _ _
    (λ _. reached (holding (record { from = v; to = m.from; group = g.number; term = r.term; body = bodies.SnapReply index 0 false }) refl (λ whole. absurd (cc)) o))
    (λ _. either_row (is_leader r) _ _ (λ _. reached o)
    (λ _. either_row (nat_le index r.commit) _ _ (λ e. covered_row of m.from c decided (leb-true index r.commit e)) (λ _. take_row of m.from c decided)))

-- the row of SnapReply keeps the invariant: a whole snapshot counts as matched
pub snap_reply_row : SnapReplyRow
snap_reply_row m i want all body g v h b r0 d w some before to on =
    let r = in_term m.term r0 in
    let o : Open h g v b r d w = in_term_step m.term before in
    let p = appending.reached m.from i (progress r) in
    either_row (all && (m.term == r.term) && is_leader r) _ _
    (λ e.
    let parts = and_parts (all && (m.term == r.term)) (is_leader r) e in
    let first = and_parts all (m.term == r.term) parts.0 in
    let is : m.body ≡ bodies.SnapReply i want true = body ∙ ap (bodies.SnapReply i want) first.0 in
    reached (more_to_step m.from (record {
      open_group = progress_step p.next p.matched o (λ x. more_matched o m on i (inr (want, is)) (eqb-true m.term r.term first.1) (o.mine.stands.leader x));
      role = leads r parts.1;
    })).open_group)
    (λ _. reached o)
