-- A batch is numbered when it is taken and when it is joined with what is saved, and so is the log of a replica that starts again.
use Rattle.std.proofs.Common.{◌≡◌, ◌≤◌, inl, ◌+◌, ◌-◌, ℕ, refl, arith, take, drop, length, subst}
use Rattle.std.proofs.lemmas.List.{length-append, length-take, length-drop}
use Rattle.std.proofs.lemmas.List.Elements.{All-nil, All-append, All-take, All-drop}
use Rattle.std.specs.Prelude.{max, Option, Some, None, IfSome}
use Rattle.host_ids.specs.declared.entry.Entry.{Entry}
use Rattle.host_ids.specs.declared.batch.Batch.{Batch}
use Rattle.raft_model.specs.declared.durable.Durable.{Durable}
use Rattle.raft_model.specs.declared.saved.SavedState.{SavedState}
use Rattle.raft_model.specs.declared.state.State.{State as Replica}
use Rattle.raft_model.specs.declared.state.Pending.{Pending}
use Rattle.log_view.specs.Log.{Log, last}
use Rattle.raft_model.specs.Restarting.{state_of, restarted, begun_log, begun_commit}
use Rattle.raft_model.specs.Saving.{gave_batch, batch_of, unsaved}
use Rattle.raft_model.specs.Group.{merged}
use Rattle.raft_entries.specs.Kept.{then_saved}
use Rattle.raft_entries.specs.Parts.{parts}
use Rattle.raft_entries.specs.Numbers.{Numbered, UpTo, IsBatch, IsSaved, IsMail, Reaches, IsPending, IsNumbered}
use Rattle.raft_entries.proofs.Numbering.Lists.{num_append, num_take, num_drop, up_to}
use Rattle.raft_entries.proofs.Groups.Moves.{begins_with}

-- a batch takes what changed, and goes on where what is saved reaches to
pub gives : (b : SavedState) (r : Replica) → r.pending ≡ None → IsNumbered b (parts r) → IsNumbered b (parts (gave_batch r))
gives b r none k =
    let q = k.1.places in
    let x : Reaches b r.term r.log.front r.from = subst (λ o. Reaches (then_saved b o) r.term r.log.front r.from) none q.reaches in
    let n = r.from - r.log.front - 1 in
    let old = drop (r.log.front - b.front) b.entries in
    let one = length-append (take n old) (unsaved r) in
    let two = length-take n old in
    let three = length-drop (r.log.front - b.front) b.entries in
    let four = length-drop n r.log.entries in
    let batch : IsBatch (batch_of r) = record {
      entries = num_drop (r.log.front + 1) r.from n r.log.entries (omega (arith, q.front_saved, q.saved)) k.1.entries;
      terms = All-drop (λ e. e.term ≤ r.term) n r.log.entries k.1.terms;
      above_front = omega (arith, q.front_saved, q.saved);
      front_committed = q.front_committed;
      committed = omega (arith, four, q);
    } in (
      record { batch = batch; reaches = x; mail = k.1.held },
      record { entries = k.1.entries; terms = k.1.terms; some_term = k.1.some_term; places = omega (arith, one, two, three, four, q, x); held = All-nil IsMail },
    )

-- what is saved, joined with a batch that goes on where it reaches to, is numbered
pub merges : (b : SavedState) (p : Batch) → IsSaved b → IsBatch p → Reaches b p.term p.front p.first → IsSaved (merged b p)
merges b p h k r =
    let m = p.front - b.front in
    let n = p.first - p.front - 1 in
    let old = drop m b.entries in
    let one = length-take n old in
    let two = length-drop m b.entries in
    let three = length-append (take n old) p.entries in
    let earlier : Numbered (p.front + 1) old = num_drop (b.front + 1) (p.front + 1) m b.entries (omega (arith, r.front_before)) h.entries in record {
      entries = num_append (p.front + 1) p.first (take n old) p.entries (omega (arith, one, two, k.above_front, r)) (num_take (p.front + 1) n old earlier) k.entries;
      terms = All-append (λ e. e.term ≤ p.term) (take n old) p.entries
          (All-take (λ e. e.term ≤ p.term) n old (All-drop (λ e. e.term ≤ p.term) m b.entries (up_to b.term p.term b.entries r.term_saved h.terms))) k.terms;
      front_committed = k.front_committed;
      committed = omega (arith, one, two, three, k.above_front, k.committed, r);
    }

-- what is saved once nothing is pending is numbered
pub later_saved : (b : SavedState) (o : Option Pending) → IsSaved b → IfSome o (IsPending b) → IsSaved (then_saved b o)
later_saved b None h k = h
later_saved b (Some p) h k = merges b p.batch h k.batch k.reaches

-- a log that a replica may start with: it is numbered, and ends where what is saved does, or at its front
record IsBegun (b : SavedState) (commit : ℕ) (l : Log) : Type 0 where
  entries : Numbered (l.front + 1) l.entries
  terms : UpTo b.term l.entries
  committed : l.front ≤ commit
  front : b.front ≤ l.front
  ends : last l ≤ max l.front (b.front + length b.entries)

-- a replica that starts again is numbered
pub restarts : (d : Durable) → IsSaved (state_of d.batch) → begun_commit d ≤ last (begun_log d) → IsNumbered (state_of d.batch) (parts (restarted d))
restarts d h within =
    let l = begun_log d in
    let b = state_of d.batch in
    let k : IsBegun b (begun_commit d) l = begins_with d (IsBegun b (begun_commit d))
    (λ above. record { entries = tt; terms = All-nil (λ (e : Entry). e.term ≤ b.term); committed = omega arith; front = omega (arith, above); ends = omega arith })
    (record { entries = h.entries; terms = h.terms; committed = omega (arith, h.front_committed); front = omega arith; ends = omega arith }) in
    (tt, record { entries = k.entries; terms = k.terms; some_term = inl refl; places = omega (arith, within, k.committed, k.front, k.ends); held = All-nil IsMail })
