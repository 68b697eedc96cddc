-- The row of AppendReply: a leader learns what a voter has matched, may commit, and sends more.
use Rattle.std.proofs.lemmas.Bool.{cond_both}
use Rattle.std.proofs.Common.{◌≡◌, ◌≢◌, ◌⊎◌, ⊎_elim, ℕ, ◌+◌, ◌≤◌, List, length, Bool, true, false, refl, sym, ap, ◌∙◌, subst, arith, inl, inr, if◌then◌else◌, ◌==◌, ◌&&◌, max}
use Rattle.std.specs.Prelude.{nat_lt, nat_le, slice_set}
use Rattle.std.proofs.lemmas.Bool.{cases_eq, eqb-true, and_parts}
use Rattle.std.proofs.lemmas.List.{get_or-set_same, get_or-set_other, set_past}
use Rattle.host_ids.specs.declared.entry.Entry.{Entry}
use Rattle.raft_model.specs.declared.saved.SavedState.{SavedState}
use Rattle.wire_types.specs.declared.envelope.Envelope.{Envelope}
use Rattle.wire_types.specs.declared.envelope.Body.TheVariants as bodies
use Rattle.raft_model.specs.declared.state.State.{State as Replica}
use Rattle.raft_model.specs.declared.role.Role.TheVariants.{Leader}
use Rattle.log_view.specs.Log.{last}
use Rattle.roster.specs.Roster.{at}
use Rattle.raft_model.specs.Replica.{Row, quiet, is_leader, append_to, commit_rule, in_term}
use Rattle.raft_model.specs.Appending.{more_to, heard, progress, with_progress}
use Rattle.raft_model.specs.Saving.{own_match}
use Rattle.raft_model.specs.Group.{Group, seat, continued}
use Rattle.raft_safety.specs.History.{History, IsOwn, IsOld, Reign}
use Rattle.raft_safety.specs.Replicas.{IsLeader}
use Rattle.raft_safety.specs.Envelopes.{Tells}
use Rattle.raft_safety.specs.Invariant.{HasAnswer, IsOnWire}
use Rattle.raft_safety.proofs.Frame.Opened.{Open}
use Rattle.raft_safety.proofs.Frame.Settle.{Reached, reached, in_term_step, delivered, either_row}
use Rattle.raft_safety.proofs.Replication.Sending.{append_to_step, more_to_step}
use Rattle.raft_safety.proofs.Argument.WholeLogs.{whole_length, saved_within}
use Rattle.raft_safety.proofs.Replication.Committing.{commit_rule_step}
use Rattle.raft_safety.proofs.Laws.Owed.{AppendReplyRow}
use Rattle.raft_safety.proofs.Frame.Growth.{old_less}
use Rattle.raft_safety.proofs.Argument.Agreement.{le_or}
use Rattle.raft_safety.proofs.Frame.Roles.{leads}
use Rattle.raft_safety.proofs.Frame.Words.{rest, rest_step}

-- a place of a table that was set, or is as it was
pub at_set : (xs : List ℕ) (i x u : ℕ) → ((u ≡ i) × (at (slice_set xs i x) u ≡ x)) ⊎ (at (slice_set xs i x) u ≡ at xs u)
at_set xs i x u =
    ⊎_elim
    (λ same. ⊎_elim
    (λ past. inr (ap (λ ys. at ys u) (set_past xs i x past)))
    (λ within. inl (same, ap (at (slice_set xs i x)) same ∙ get_or-set_same xs i x 0 within))
    (le_or (length xs) i))
    (λ other. inr (get_or-set_other xs i u x 0 other))
    (cases_eq u i)

-- what is matched was answered, by the leader itself too
pub record IsMatched (h : History) (d : List Entry) (HasAnswer : ℕ → ℕ → ℕ → Type 0) (v t : ℕ) (R : Reign) (matched : List ℕ) : Type 0 where
  pub own : (n : ℕ) → IsOwn R n → n ≤ at matched v → (n ≤ h.answer v t) ⊎ IsOld h d v t n
  pub mine : (at matched v ≤ length R.log) ⊎ IsOld h d v t (at matched v)
  pub others : (u : ℕ) → u ≢ v → (at matched u ≡ 0) ⊎ HasAnswer u t (at matched u)

-- what a leader knows of its voters changes
pub progress_step : {g : Group} {v : ℕ} {h : History} {b : SavedState} {r : Replica} {d : List Entry} {w : List Envelope} (next matched : List ℕ) (o : Open h g v b r d w)
    → ((e : r.role ≡ Leader) → IsMatched h d (HasAnswer w) v r.term (o.mine.stands.leader e).reign matched) → Open h g v b (record r { next = next; matched = matched }) d w
progress_step {r = r} next matched o m =
    let s = o.mine.stands in
    rest_step (record (rest r) { next = next; matched = matched }) o o.mine.held s.candidate
    (λ e. let l = s.leader e in let k = m e in
    record { reign = l.reign; led = l.led; term = l.term; leader = l.leader; log = l.log; told = l.told; saving = l.saving; own = k.own; mine = k.mine; matched = k.others })
    o.mine.inbox

-- an answer of this term has come to a leader
module _ {g : Group} {v : ℕ} {h : History} {b : SavedState} {r : Replica} {d : List Entry} {w : List Envelope} (o : Open h g v b r d w) (m : Envelope) (on : IsOnWire w m) (i : ℕ) where
  -- an answer to an append, or for a whole snapshot
  abbrev pub IsReply : Type 0
  IsReply = (m.body ≡ bodies.AppendReply true i) ⊎ ((want : ℕ) × (m.body ≡ bodies.SnapReply i want true))

  -- what such an answer tells is saved by its sender, or is of a term that is over
  counted : IsReply → (i ≤ h.answer m.from m.term) ⊎ IsOld h d m.from m.term i
  counted body =
      let told = delivered m o on in
      ⊎_elim
      (λ e.
      let x : Tells h d (HasAnswer w) h.answer m.from m.to m.term (bodies.AppendReply true i) told.stage = subst (λ y. Tells h d (HasAnswer w) h.answer m.from m.to m.term y told.stage) e told.tells in
      (x refl).counts)
      (λ e.
      let x : Tells h d (HasAnswer w) h.answer m.from m.to m.term (bodies.SnapReply i e.0 true) told.stage = subst
      (λ y. Tells h d (HasAnswer w) h.answer m.from m.to m.term y told.stage) e.1 told.tells in
      (x refl).counts)
      body

  -- so the matched index may rise to it
  pub more_matched : IsReply → m.term ≡ r.term → (l : IsLeader h d (HasAnswer w) v r) → IsMatched h d (HasAnswer w) v r.term l.reign (slice_set r.matched m.from (max (at r.matched m.from) i))
  more_matched body term l =
      let x = max (at r.matched m.from) i in
      let table = slice_set r.matched m.from x in
      let most : (i ≤ h.answer m.from r.term) ⊎ IsOld h d m.from r.term i = subst (λ t. (i ≤ h.answer m.from t) ⊎ IsOld h d m.from t i) term (counted body) in
      record {
        own = λ n own at_most. ⊎_elim
            (λ set.
            let same : at r.matched m.from ≡ at r.matched v = ap (at r.matched) (sym set.0) in
            let mine : (i ≤ h.answer v r.term) ⊎ IsOld h d v r.term i = subst (λ u. (i ≤ h.answer u r.term) ⊎ IsOld h d u r.term i) (sym set.0) most in
            ⊎_elim (λ low. l.own n own low)
            (λ high. let less : n ≤ i = omega (arith, set.1, at_most, same, high) in ⊎_elim (λ c. inl (omega (arith, less, c))) (λ y. inr (old_less h d v r.term n i less y)) mine)
            (le_or n (at r.matched v)))
            (λ old. l.own n own (omega (arith, old, at_most)))
            (at_set r.matched m.from x v);
        mine = ⊎_elim
            (λ set.
            let same : at r.matched m.from ≡ at r.matched v = ap (at r.matched) (sym set.0) in
            ⊎_elim
            (λ low. let z : at r.matched v ≡ at table v = omega (arith, set.1, same, low) in subst (λ n. (n ≤ length l.reign.log) ⊎ IsOld h d v r.term n) z l.mine)
            (λ high.
            let z : i ≡ at table v = omega (arith, set.1, high) in
            subst (λ n. (n ≤ length l.reign.log) ⊎ IsOld h d v r.term n) z
            (⊎_elim (λ c. inl (let y = o.common.levels v r.term in omega (arith, c, y.answer, y.saving, l.told))) (λ y. inr y)
            (subst (λ u. (i ≤ h.answer u r.term) ⊎ IsOld h d u r.term i) (sym set.0) most)))
            (le_or i (at r.matched m.from)))
            (λ old. subst (λ n. (n ≤ length l.reign.log) ⊎ IsOld h d v r.term n) (sym old) l.mine)
            (at_set r.matched m.from x v);
        others = λ u other. ⊎_elim
            (λ set. ⊎_elim
            (λ low.
            let z : at r.matched u ≡ at table u = (let same : at r.matched m.from ≡ at r.matched u = ap (at r.matched) (sym set.0) in omega (arith, set.1, same, low)) in
            subst (λ n. (n ≡ 0) ⊎ HasAnswer w u r.term n) z (l.matched u other))
            (λ high.
            let z : i ≡ at table u = omega (arith, set.1, high) in
            inr (subst (HasAnswer w u r.term) z (record { envelope = m; there = on; from = sym set.0; term = term; index = i; most = omega arith; body = body })))
            (le_or i (at r.matched m.from)))
            (λ old. subst (λ n. (n ≡ 0) ⊎ HasAnswer w u r.term n) (sym old) (l.matched u other))
            (at_set r.matched m.from x u);
      }

-- a leader whose entries are saved counts them, and may commit
module _ {g : Group} {v : ℕ} {h : History} {b : SavedState} {r : Replica} {d : List Entry} {w : List Envelope} (o : Open h g v b r d w) (all_saved : h.saving v r.term ≤ h.answer v r.term) where
  -- a leader may count its own log as far as it is saved
  own_matched : (l : IsLeader h d (HasAnswer w) v r) → IsMatched h d (HasAnswer w) v r.term l.reign (slice_set r.matched v r.stable)
  own_matched l =
      let s = o.mine.stands in
      let disk : r.stable ≤ length l.reign.log = subst (λ xs. r.stable ≤ length xs) (sym l.log)
      (saved_within (let y = whole_length d r.log.front r.log.entries (omega (arith, s.now.front, s.now.commit.right)) in omega (arith, y)) s.on_disk) in
      record {
        own = λ n own m. ⊎_elim
            (λ set. inl (omega (arith, l.saving n own (omega (arith, m, set.1, s.stable, own.place)), all_saved)))
            (λ old. l.own n own (omega (arith, old, m)))
            (at_set r.matched v r.stable v);
        mine = ⊎_elim (λ set. inl (omega (arith, set.1, disk))) (λ old. subst (λ n. (n ≤ length l.reign.log) ⊎ IsOld h d v r.term n) (sym old) l.mine) (at_set r.matched v r.stable v);
        others = λ u other. ⊎_elim
            (λ set. absurd (other set.0))
            (λ old. subst (λ n. (n ≡ 0) ⊎ HasAnswer w u r.term n) (sym old) (l.matched u other))
            (at_set r.matched v r.stable u);
      }

  -- after a save a leader counts itself, and the commit rule runs
  pub own_match_step : Reached g v b d w (own_match (seat g v) r)
  own_match_step =
      cond_both (is_leader r) _ r (λ q. Reached g v b d w q)
      (λ e. commit_rule_step (progress_step r.next (slice_set r.matched v r.stable) o (λ y. own_matched (o.mine.stands.leader y))) (leads r e))
      (λ _. reached o)

-- to send more changes neither commit index nor log
pub continued_more : (g : Group) (v u : ℕ) (d : List Entry) (q : Replica) → continued d (more_to (seat g v) u q) ≡ continued d q
continued_more g v u d q =
    cond_both (nat_lt (at q.matched u) (last q.log)) _ q (λ p. continued d p ≡ continued d q)
    (λ _. cond_both (nat_lt q.log.front (at q.next u) && nat_le (at q.next u) (last q.log + 1)) _ q (λ p. continued d p ≡ continued d q) (λ _. refl) (λ _. refl))
    (λ _. refl)

-- the list goes on as far as the leader has committed, and the voter is sent more
pub then_more_step : {g : Group} {v : ℕ} (u : ℕ) {b : SavedState} {q : Replica} {d : List Entry} {w : List Envelope} → q.role ≡ Leader → Reached g v b d w q → Reached g v b d w (more_to (seat g v) u q)
then_more_step {g} {v} u {b} {q} {d} {w} role x = record {
  history = x.history;
  holds = subst (λ e. Open x.history g v b (more_to (seat g v) u q) e w) (sym (continued_more g v u d q))
      (more_to_step u (record { open_group = x.holds; role = role })).open_group;
}

-- an answer of its term at a leader: a matched index rises, or the leader steps back and sends an earlier stretch
leader_row : {g : Group} {v : ℕ} {h : History} {b : SavedState} {r : Replica} {d : List Entry} {w : List Envelope} (m : Envelope) (i : ℕ) → Open h g v b r d w → IsOnWire w m → m.term ≡ r.term
    → r.role ≡ Leader → (ok : Bool) → m.body ≡ bodies.AppendReply ok i
    → Reached g v b d w (let q = with_progress (heard m.from ok i (progress r)) r in
    (let y : Row = if ok then quiet (more_to (seat g v) m.from (commit_rule (seat g v) q)) else quiet (append_to (seat g v) m.from q) in y)).replica
leader_row {g} {v} {h} {b} {r} {d} {w} m i o on term role true body =
    let p = heard m.from true i (progress r) in
    then_more_step m.from role
    (commit_rule_step (progress_step p.next p.matched o (λ e. more_matched o m on i (inl body) term (o.mine.stands.leader e))) role)
leader_row {g} {v} {h} {b} {r} {d} {w} m i o on term role false body =
    let p = heard m.from false i (progress r) in
    reached
    (append_to_step m.from (record {
      open_group = progress_step p.next p.matched o (λ e. let l = o.mine.stands.leader e in record { own = l.own; mine = l.mine; others = l.matched });
      role = role;
    })).open_group

-- the row of AppendReply keeps the invariant
pub append_reply_kept : AppendReplyRow
append_reply_kept m ok i body g v h b r0 d w some before to on =
    let r = in_term m.term r0 in
    let o : Open h g v b r d w = in_term_step m.term before in
    either_row ((m.term == r.term) && is_leader r) _ _
    (λ e. let parts = and_parts (m.term == r.term) (is_leader r) e in leader_row m i o on (eqb-true m.term r.term parts.0) (leads r parts.1) ok body)
    (λ _. reached o)
