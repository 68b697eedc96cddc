-- The batch is saved: what was being saved is saved, and some of its envelopes are on the wire; none where a crash came first.
use Rattle.std.proofs.Common.{◌≡◌, ◌≢◌, ⊎_elim, ℕ, ◌-◌, ◌≤◌, List, ◌++◌, refl, sym, ap, ◌∙◌, subst, arith, inl, inr, Some, None}
use Rattle.std.proofs.lemmas.Bool.{cases_eq}
use Rattle.host_ids.specs.declared.entry.Entry.{Entry}
use Rattle.raft_model.specs.declared.saved.SavedState.{SavedState}
use Rattle.wire_types.specs.declared.envelope.Envelope.{Envelope}
use Rattle.raft_model.specs.declared.state.State.{State as Replica}
use Rattle.raft_model.specs.declared.state.Pending.{Pending}
use Rattle.raft_model.specs.Saving.{stabilised}
use Rattle.raft_model.specs.Group.{Group, merged, term_of}
use Rattle.raft_safety.specs.History.{History}
use Rattle.raft_safety.specs.Replicas.{Stage, of_batch, of_replica, to_be_saved, IsSecured, IsSound, Follows, IsSavedTo, IsTaken, Stands}
use Rattle.raft_safety.specs.Envelopes.{Tells, TellsAll}
use Rattle.raft_safety.specs.Invariant.{IsOnWire, HasAnswer}
use Rattle.raft_safety.proofs.Frame.Growth.{Grows}
use Rattle.raft_safety.proofs.Frame.Hosts.{sound_grown, tells_grown, tells_all_grown}
use Rattle.raft_safety.proofs.Frame.Opened.{SecuredBut, Open, frame}
use Rattle.raft_safety.proofs.Frame.Tables.{at_mine}
use Rattle.raft_safety.proofs.Frame.Levels.{with_levels, levels_grow, levels_add}
use Rattle.raft_safety.proofs.Frame.Release.{on_either, answer_longer, one_tells}
use Rattle.raft_safety.proofs.Argument.WholeLogs.{saved_to_less}

-- what a stage secures for a candidate is secured at a later one
pub secured_on : {x y : Stage} → Follows x y → (t c : ℕ) → c ≢ 0 → IsSecured x.term x.vote t c → IsSecured y.term y.vote t c
secured_on {x} {y} f t c some s =
    ⊎_elim
    (λ l. inl (omega (arith, l, f.term)))
    (λ p. ⊎_elim
    (λ same. inr (sym same ∙ p.0, f.vote same (λ z. some (sym p.1 ∙ z)) ∙ p.1))
    (λ other. inl (omega (arith, other, p.0, f.term)))
    (cases_eq x.term y.term))
    s

module _ {g : Group} {v : ℕ} {h : History} {b : SavedState} {r : Replica} {d : List Entry} {w : List Envelope} (p : Pending) (pending : r.pending ≡ Some p) (o : Open h g v b r d w) (es : List Envelope)
    (part : (m : Envelope) → IsOnWire es m → IsOnWire p.envelopes m) where
  -- what is saved now
  abbrev c : SavedState
  c = merged b p.batch

  -- the replica after the save
  abbrev q : Replica
  q = record (stabilised p.batch r) { pending = None }

  -- the history in which all that was being saved is saved, and answered for
  abbrev k : History
  k = with_levels v (h.saving v) (h.saving v) h

  -- what is known of the host's stages
  abbrev s : Stands h d (SecuredBut g v b) (HasAnswer w) v b r
  s = o.mine.stands

  -- what was to be saved is what is saved now
  same_batch : to_be_saved b r ≡ c
  same_batch = ap (λ x. elim x as (λ _. SavedState) [ None ↦ b | Some y ↦ merged b y.batch ]) pending

  -- what is saved now follows what was saved
  first : Follows (of_batch d b) (of_batch d c)
  first = subst (λ x. Follows (of_batch d b) (of_batch d x)) same_batch s.first

  -- the replica follows what is saved now
  second : Follows (of_batch d c) (of_replica d r)
  second = subst (λ x. Follows (of_batch d x) (of_replica d r)) same_batch s.second

  -- a vote that was secured is so still
  secures : (u t a : ℕ) → a ≢ 0 → SecuredBut g v b u t a → SecuredBut g v c u t a
  secures u t a some x = ⊎_elim (λ m. inl (m.0, secured_on first t a some m.1)) (λ m. inr m) x

  -- each other host keeps its part, and nothing that counts is lost
  grows : Grows v h k d d (SecuredBut g v b) (SecuredBut g v c) (HasAnswer w) (HasAnswer (w ++ es))
  grows = levels_grow g.voters v h d (h.saving v) (h.saving v) (SecuredBut g v b) (SecuredBut g v c) (HasAnswer w) (HasAnswer (w ++ es)) (λ t. (o.common.levels v t).answer) secures
      (answer_longer w es)

  -- a stage that was sound is so still
  sound : (now : ℕ → ℕ → ℕ) {before : ℕ → ℕ → ℕ} → ((t : ℕ) → now v t ≡ before v t) → ((t : ℕ) → before v t ≤ h.told v t) → {x : Stage} → IsSound h d before v x → IsSound k d now v x
  sound now same below {x} = sound_grown o.common grows now (λ t c some e. e) same below x

  -- what an envelope told, it still tells
  tells : (m : Envelope) (now before : ℕ → ℕ → ℕ) → ((t : ℕ) → before m.from t ≤ now m.from t) → (x : Stage) → Tells h d (HasAnswer w) before m.from m.to m.term m.body x
      → Tells k d (HasAnswer (w ++ es)) now m.from m.to m.term m.body x
  tells m now before more x t = tells_grown o.common grows now before m.from (λ t c some e. e) more m.to m.term m.body x t

  -- an envelope that waited for the batch tells of what is saved
  told_now : (m : Envelope) → IsOnWire p.envelopes m → (x : Stage) → TellsAll h d (HasAnswer w) h.saving v p.envelopes x
      → (m.from ≡ v) × Tells k d (HasAnswer (w ++ es)) k.answer m.from m.to m.term m.body x
  told_now m on x all =
      let t = one_tells h d (HasAnswer w) h.saving v p.envelopes x m all on in (
        t.0,
        tells m k.answer h.saving (λ i. subst (λ u. h.saving u i ≤ k.answer u i) (sym t.0) (let e : k.answer v i ≡ h.saving v i = at_mine v (h.saving v) h.answer i in omega (arith, e))) x
            (subst (λ u. Tells h d (HasAnswer w) h.saving u m.to m.term m.body x) (sym t.0) t.1),
      )

  -- the batch is saved, and some of its envelopes go on the wire
  pub saved_step : v ≢ 0 → Open k g v c q d (w ++ es)
  saved_step some =
      let A = HasAnswer (w ++ es) in
      let tk : IsTaken c r = subst (λ x. IsTaken x r) same_batch s.taken in
      let from : IsSavedTo (r.from - 1) (of_batch d c) (of_replica d r) = subst (λ x. IsSavedTo (r.from - 1) (of_batch d x) (of_replica d r)) same_batch s.from in
      let level : (t : ℕ) → h.saving v t ≤ h.told v t = λ t. (o.common.levels v t).saving in
      let saving : IsSound h d h.saving v (of_batch d c) = subst (λ x. IsSound h d h.saving v (of_batch d x)) same_batch s.saving in
      let stable : q.stable ≤ r.from - 1 = omega (arith, o.mine.covered, s.stable) in
      frame o (record {
        grows = grows;
        adds = levels_add g.voters v h d (h.saving v) (h.saving v) (SecuredBut g v b) (SecuredBut g v c) (HasAnswer w) A o.common grows (λ t. omega arith) level;
        mine = record {
          stands = record {
            saved = sound k.answer (at_mine v (h.saving v) h.answer) level saving;
            saving = sound k.saving (at_mine v (h.saving v) h.saving) level saving;
            now = sound k.told (λ t. refl) (λ t. omega arith) s.now;
            first = record { term = omega arith; vote = λ e a. refl; commit = omega arith; front = omega arith };
            second = record { term = second.term; vote = second.vote; commit = second.commit; front = second.front };
            later = s.later;
            taken = tk;
            stable = stable;
            ends = s.ends;
            from = from;
            on_disk = saved_to_less q.stable stable from;
            candidate = λ e. let a = s.candidate e in record {
              some = a.some;
              vote = a.vote;
              voted = a.voted;
              log = a.log;
              new = a.new;
              granted = λ u yes. let x = a.granted u yes in (x.0, secures u r.term v some x.1);
            };
            leader = λ e. let l = s.leader e in
                let ans : k.answer v r.term ≡ h.saving v r.term = at_mine v (h.saving v) h.answer r.term in
                let sav : k.saving v r.term ≡ h.saving v r.term = at_mine v (h.saving v) h.saving r.term in
                let less : h.answer v r.term ≤ h.saving v r.term = (o.common.levels v r.term).answer in
                record {
                  reign = l.reign;
                  led = l.led;
                  term = l.term;
                  leader = l.leader;
                  log = l.log;
                  told = l.told;
                  mine = l.mine;
                  saving = λ n own m. omega (arith, sav, l.saving n own m);
                  own = λ n own m. ⊎_elim (λ a. inl (omega (arith, ans, less, a))) (λ a. inr a) (l.own n own m);
                  matched = λ u other. ⊎_elim (λ z. inl z) (λ a. inr (answer_longer w es u r.term _ a)) (l.matched u other);
                };
          };
          held = tells_all_grown o.common grows k.told h.told v (λ t c some e. e) (λ t. omega arith) r.held (of_replica d r) o.mine.held;
          waiting = λ x e. let none : None ≡ Some x = e in absurd (cc);
          inbox = o.mine.inbox;
          covered = omega arith;
          based = (let y : c.front_term ≡ term_of d c.front = subst (λ (x : SavedState). x.front_term ≡ term_of d x.front) same_batch o.mine.based.1 in (y, y, o.mine.based.2));
        };
        told = λ m on from t.
            let up : (i : ℕ) → h.answer m.from i ≤ k.answer m.from i = λ i. subst (λ u. h.answer u i ≤ k.answer u i) (sym from) (grows.new_answer i) in
            let now : Tells k d A k.answer m.from m.to m.term m.body (of_batch d c) = tells m k.answer h.answer up (of_batch d c)
            (subst (λ x. Tells h d (HasAnswer w) h.answer m.from m.to m.term m.body (of_batch d x)) same_batch t.saving) in
            record { saved = now; saving = now; now = tells m k.answer h.answer up (of_replica d r) t.now };
        sent = λ m on. ⊎_elim (λ old. inl old)
            (λ new.
            let x = o.mine.waiting p pending in
            let a = told_now m (part m new) (of_batch d c) (subst (λ y. TellsAll h d (HasAnswer w) h.saving v p.envelopes (of_batch d y)) same_batch x.0) in
            let n = told_now m (part m new) (of_replica d r) x.1 in
            inr (a.0, record { saved = a.1; saving = a.1; now = n.1 }))
            (on_either w es m on);
      })
