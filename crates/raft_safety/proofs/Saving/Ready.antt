-- Ready: what is held waits for the batch, and the host counts all that it holds as being saved.
use Rattle.std.proofs.lemmas.Bool.{and_parts}
use Rattle.std.proofs.Common.{⊎_elim, inl, inr, ◌≡◌, ℕ, ◌+◌, ◌-◌, ◌≤◌, List, ◌++◌, length, take, drop, true, refl, sym, ap, ◌∙◌, subst, arith, inl, inr, Some, None, ◌&&◌, not}
use Rattle.std.proofs.lemmas.List.{take-append-drop}
use Rattle.host_ids.specs.declared.entry.Entry.{Entry}
use Rattle.raft_model.specs.declared.saved.SavedState.{SavedState}
use Rattle.wire_types.specs.declared.envelope.Envelope.{Envelope}
use Rattle.raft_model.specs.declared.state.State.{State as Replica}
use Rattle.raft_model.specs.declared.state.Pending.{Pending}
use Rattle.raft_model.specs.Replica.{is_pending, is_changed}
use Rattle.raft_model.specs.Saving.{may_give, gave_batch, batch_of, is_stuck}
use Rattle.raft_model.specs.Group.{Group, merged}
use Rattle.log_view.specs.Log.{last}
use Rattle.raft_safety.specs.History.{History}
use Rattle.raft_safety.specs.Replicas.{Stage, whole, of_batch, of_replica, to_be_saved, IsSound, Follows, IsSavedTo, Stands}
use Rattle.raft_safety.specs.Envelopes.{Tells, TellsAll}
use Rattle.raft_safety.specs.Invariant.{HasAnswer}
use Rattle.raft_safety.proofs.Frame.Growth.{Grows}
use Rattle.raft_safety.proofs.Frame.Hosts.{sound_grown, tells_grown, tells_all_grown}
use Rattle.raft_safety.proofs.Frame.Opened.{SecuredBut, Open, frame}
use Rattle.raft_safety.proofs.Frame.Tables.{at_mine}
use Rattle.raft_safety.proofs.Frame.Levels.{with_levels, levels_grow, levels_add}
use Rattle.raft_safety.proofs.Frame.Release.{no_pending}
use Rattle.raft_safety.proofs.Argument.Stretches.{split, drop_more}
use Rattle.raft_safety.proofs.Argument.WholeLogs.{whole_length, whole_drop, saved_from, from_saved}
use Rattle.raft_safety.proofs.Frame.Settle.{reached}
use Rattle.raft_safety.proofs.Laws.Owed.{ReadyRow}
use Rattle.raft_safety.proofs.Argument.Agreement.{le_or}

module _ {g : Group} {v : ℕ} {h : History} {b : SavedState} {r : Replica} {d : List Entry} {w : List Envelope} (o : Open h g v b r d w) (may : may_give r ≡ true) where
  -- the replica that has given its batch out
  abbrev q : Replica
  q = gave_batch r

  -- the state that is being saved
  abbrev c : SavedState
  c = merged b (batch_of r)

  -- the history in which all that the host told is being saved
  abbrev k : History
  k = with_levels v (h.told v) (h.answer v) h

  -- what is known of the host's stages
  abbrev s : Stands h d (SecuredBut g v b) (HasAnswer w) v b r
  s = o.mine.stands

  -- no batch was given out before
  no_batch : r.pending ≡ None
  no_batch = no_pending r.pending (and_parts (not (is_pending r)) (is_changed r) (and_parts (not (is_pending r) && is_changed r) (not (is_stuck r)) may).0).0

  -- so what was to be saved is what is saved
  same_batch : to_be_saved b r ≡ b
  same_batch = ap (λ p. elim p as (λ _. SavedState) [ None ↦ b | Some x ↦ merged b x.batch ]) no_batch

  -- the replica follows what is saved
  follows : Follows (of_batch d b) (of_replica d r)
  follows = subst (λ x. Follows (of_batch d x) (of_replica d r)) same_batch s.second

  -- up to the first change the log is as saved
  saved_to : IsSavedTo (r.from - 1) (of_batch d b) (of_replica d r)
  saved_to = subst (λ x. IsSavedTo (r.from - 1) (of_batch d x) (of_replica d r)) same_batch s.from

  -- the saved entries up to the first change, and the changed ones, are the log
  same_entries : c.entries ≡ r.log.entries
  same_entries =
      let n = r.from - 1 in
      let f = r.log.front in
      let i = r.from - f - 1 in
      let X = whole d f r.log.entries in
      let Y = whole d b.front b.entries in
      let fits : f ≤ length d = omega (arith, s.now.front, s.now.commit.right) in
      let within : b.front ≤ length d = omega (arith, follows.front, fits) in
      let old : drop (f - b.front) b.entries ≡ drop f Y =
      (let e : b.front + (f - b.front) ≡ f = omega (arith, follows.front) in ap (drop (f - b.front)) (sym (whole_drop d b.front b.entries within)) ∙ sym (drop_more b.front (f - b.front) Y) ∙ ap
      (λ j. drop j Y) e) in
      let few : take i (drop f Y) ≡ take i r.log.entries = ⊎_elim
      (λ low. let none : i ≡ 0 = omega (arith, low) in ap (λ j. take j (drop f Y)) none ∙ ap (λ j. take j r.log.entries) (sym none))
      (λ x. ⊎_elim
      (λ low. let none : i ≡ 0 = omega (arith, low) in ap (λ j. take j (drop f Y)) none ∙ ap (λ j. take j r.log.entries) (sym none))
      (λ past.
      let e : i ≡ n - f = omega arith in
      ap (λ j. take j (drop f Y)) e ∙ sym (split f n Y (omega (arith, past))) ∙ sym x.1.same ∙ split f n X (omega (arith, past)) ∙ ap (take (n - f)) (whole_drop d f r.log.entries fits) ∙ ap
      (λ j. take j r.log.entries) (sym e))
      (le_or n f))
      (saved_from (let l = whole_length d f r.log.entries fits in omega (arith, l)) saved_to) in
      ap (λ xs. take i xs ++ drop i r.log.entries) old ∙ ap (λ xs. xs ++ drop i r.log.entries) few ∙ take-append-drop i r.log.entries

  -- the state that is being saved is the replica's
  same_stage : of_batch d c ≡ of_replica d r
  same_stage = ap (λ xs. record { term = r.term; vote = r.vote; commit = r.commit; front = r.log.front; log = whole d r.log.front xs }) same_entries

  -- each other host keeps its part, and nothing that counts is lost
  grows : Grows v h k d d (SecuredBut g v b) (SecuredBut g v b) (HasAnswer w) (HasAnswer w)
  grows = levels_grow g.voters v h d (h.told v) (h.answer v) (SecuredBut g v b) (SecuredBut g v b) (HasAnswer w) (HasAnswer w) (λ t. omega arith) (λ u t c some x. x) (λ u t n a. a)

  -- a stage that was sound is so still
  sound : (now : ℕ → ℕ → ℕ) {before : ℕ → ℕ → ℕ} → ((t : ℕ) → now v t ≡ before v t) → ((t : ℕ) → before v t ≤ h.told v t) → {x : Stage} → IsSound h d before v x → IsSound k d now v x
  sound now same below {x} = sound_grown o.common grows now (λ t c some e. e) same below x

  -- the batch is given out, with the envelopes that wait for it
  ready_step : Open k g v b q d w
  ready_step =
      let A = HasAnswer w in
      let fits : r.log.front ≤ length d = omega (arith, s.now.front, s.now.commit.right) in
      let long = whole_length d r.log.front r.log.entries fits in
      let len : length c.entries ≡ length r.log.entries = ap (λ xs. length xs) same_entries in
      let now : IsSound k d k.told v (of_replica d r) = sound k.told (λ t. refl) (λ t. omega arith) s.now in
      frame o (record {
        grows = grows;
        adds = levels_add g.voters v h d (h.told v) (h.answer v) (SecuredBut g v b) (SecuredBut g v b) A A o.common grows (λ t. let l = o.common.levels v t in omega (arith, l.answer, l.saving))
            (λ t. omega arith);
        mine = record {
          stands = record {
            saved = sound k.answer (at_mine v (h.answer v) h.answer) (λ t. let l = o.common.levels v t in omega (arith, l.answer, l.saving)) s.saved;
            saving = subst (λ x. IsSound k d k.saving v x) (sym same_stage) (sound k.saving (at_mine v (h.told v) h.saving) (λ t. omega arith) s.now);
            now = now;
            first = record { term = follows.term; vote = follows.vote; commit = follows.commit; front = follows.front };
            second = record { term = omega arith; vote = λ e some. refl; commit = omega arith; front = omega arith };
            later = s.later;
            taken = record { term = refl; vote = refl; commit = refl; front = refl; tail = inr (inl (omega (arith, len))) };
            stable = omega (arith, s.stable, s.ends);
            ends = omega arith;
            from = subst (λ x. IsSavedTo (last r.log + 1 - 1) x (of_replica d r)) (sym same_stage)
                (from_saved (omega (arith, long)) (inr (omega (arith, long), record { reaches = omega (arith, long); same = refl })));
            on_disk = s.on_disk;
            candidate = λ e. let a = s.candidate e in record { some = a.some; vote = a.vote; voted = a.voted; log = a.log; new = a.new; granted = a.granted };
            leader = λ e. let l = s.leader e in
                record {
                  reign = l.reign;
                  led = l.led;
                  term = l.term;
                  leader = l.leader;
                  log = l.log;
                  told = l.told;
                  mine = l.mine;
                  saving = λ n own m. (let x : k.saving v r.term ≡ h.told v r.term = at_mine v (h.told v) h.saving r.term in omega (arith, x, own.within, l.told));
                  own = λ n own m. ⊎_elim (λ a. inl (let x : k.answer v r.term ≡ h.answer v r.term = at_mine v (h.answer v) h.answer r.term in omega (arith, x, a))) (λ a. inr a) (l.own n own m);
                  matched = l.matched;
                };
          };
          held = tt;
          waiting = λ p e.
              let same : (record { batch = batch_of r; envelopes = r.held }) ≡ p = (let x : Some (record { batch = batch_of r; envelopes = r.held }) ≡ Some p = e in cc) in
              let all : TellsAll k d A k.saving v r.held (of_replica d r) = tells_all_grown o.common grows k.saving h.told v (λ t c some e. e)
              (λ t. let x : k.saving v t ≡ h.told v t = at_mine v (h.told v) h.saving t in omega (arith, x)) r.held (of_replica d r) o.mine.held in
              subst (λ (x : Pending). TellsAll k d A k.saving v x.envelopes (of_batch d c) × TellsAll k d A k.saving v x.envelopes (of_replica d r)) same
              (subst (λ x. TellsAll k d A k.saving v r.held x) (sym same_stage) all, all);
          inbox = o.mine.inbox;
          covered = o.mine.covered;
          based = (o.mine.based.0, o.mine.based.2, o.mine.based.2);
        };
        told = λ m on from t.
            let more : (t : ℕ) → h.answer m.from t ≤ k.answer m.from t = λ t. subst (λ u. h.answer u t ≤ k.answer u t) (sym from) (grows.new_answer t) in
            let T = tells_grown o.common grows k.answer h.answer m.from (λ t c some e. e) more m.to m.term m.body in
            let now : Tells k d A k.answer m.from m.to m.term m.body (of_replica d r) = T (of_replica d r) t.now in
            record { saved = T (of_batch d b) t.saved; saving = subst (λ x. Tells k d A k.answer m.from m.to m.term m.body x) (sym same_stage) now; now = now };
        sent = λ m on. inl on;
      })

-- Ready keeps the invariant
pub ready_row : ReadyRow
ready_row g v h b r d w some o may = reached (ready_step o may)
