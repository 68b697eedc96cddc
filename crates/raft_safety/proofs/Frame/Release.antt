-- What is held goes on the wire where nothing is left to save.
use Rattle.std.proofs.Common.{◌≡◌, ◌⊎◌, ⊎_elim, ℕ, ◌-◌, ◌<◌, ◌≤◌, List, [], ◌∷◌, ◌++◌, length, drop, Bool, true, false, refl, sym, ap, ◌∙◌, subst, arith, inl, inr, Option, Some, None, ◌==◌, ◌||◌}
use Rattle.std.proofs.Common.{not, ◌+◌}
use Rattle.std.specs.Prelude.{nat_le}
use Rattle.std.proofs.lemmas.Bool.{eqb-true, leb-false, and_parts, not-true}
use Rattle.host_ids.specs.declared.entry.Entry.{Entry}
use Rattle.raft_model.specs.declared.saved.SavedState.{SavedState}
use Rattle.wire_types.specs.declared.envelope.Envelope.{Envelope}
use Rattle.raft_model.specs.declared.state.State.{State as Replica}
use Rattle.raft_model.specs.declared.state.Pending.{Pending}
use Rattle.raft_model.specs.Replica.{may_release, is_pending, is_changed}
use Rattle.raft_model.specs.Group.{Group, merged}
use Rattle.log_view.specs.Log.{last}
use Rattle.raft_safety.specs.History.{History, SameFrom}
use Rattle.raft_safety.specs.Replicas.{Stage, whole, of_batch, of_replica, to_be_saved, IsSound, IsSavedTo, IsTaken, Stands}
use Rattle.raft_safety.specs.Envelopes.{Tells, TellsAll}
use Rattle.raft_safety.specs.Invariant.{IsOnWire, HasAnswer}
use Rattle.raft_safety.proofs.Argument.Stretches.{take_whole}
use Rattle.raft_safety.proofs.Argument.WholeLogs.{whole_length, whole_drop, saved_from}
use Rattle.raft_safety.proofs.Frame.Growth.{Grows}
use Rattle.raft_safety.proofs.Frame.Hosts.{sound_grown, tells_grown}
use Rattle.raft_safety.proofs.Frame.Opened.{SecuredBut, Open, frame}
use Rattle.raft_safety.proofs.Frame.Tables.{at_mine}
use Rattle.raft_safety.proofs.Frame.Levels.{with_levels, levels_grow, levels_add}

-- an envelope on a wire is on each longer one
pub on_longer : (w es : List Envelope) (m : Envelope) → IsOnWire w m → IsOnWire (w ++ es) m
on_longer [] es m on = absurd on
on_longer (x ∷ w) es m on = ⊎_elim (λ e. inl e) (λ l. inr (on_longer w es m l)) on

-- an envelope on two wires put together is on one of them
pub on_either : (w es : List Envelope) (m : Envelope) → IsOnWire (w ++ es) m → IsOnWire w m ⊎ IsOnWire es m
on_either [] es m on = inr on
on_either (x ∷ w) es m on = ⊎_elim (λ e. inl (inl e)) (λ l. ⊎_elim (λ a. inl (inr a)) (λ b. inr b) (on_either w es m l)) on

-- an answer on a wire is on each longer one
pub answer_longer : (w es : List Envelope) (u t n : ℕ) → HasAnswer w u t n → HasAnswer (w ++ es) u t n
answer_longer w es u t n a = record { envelope = a.envelope; there = on_longer w es a.envelope a.there; from = a.from; term = a.term; index = a.index; most = a.most; body = a.body }

-- one of envelopes that all tell
pub one_tells : (h : History) (d : List Entry) (Ans : ℕ → ℕ → ℕ → Type 0) (level : ℕ → ℕ → ℕ) (v : ℕ) (es : List Envelope) (x : Stage) (m : Envelope) → TellsAll h d Ans level v es x → IsOnWire es m
    → (m.from ≡ v) × Tells h d Ans level v m.to m.term m.body x
one_tells h d Ans level v [] x m all on = absurd on
one_tells h d Ans level v (e ∷ es) x m all on =
    ⊎_elim
    (λ same. subst (λ z. (z.from ≡ v) × Tells h d Ans level v z.to z.term z.body x) (sym same) (all.0, all.1))
    (λ more. one_tells h d Ans level v es x m all.2 more)
    on

-- a replica that passes the test for no pending batch has none
pub no_pending : (p : Option Pending) → not (elim p as (λ _. Bool) [ None ↦ false | Some q ↦ true ]) ≡ true → p ≡ None
no_pending None e = refl
no_pending (Some q) e = absurd (cc)

-- what an unchanged replica has in common with the last batch that it gave
pub record IsUnchanged (r : Replica) : Type 0 where
  pub pending : r.pending ≡ None
  pub term : r.term ≡ r.taken.term
  pub vote : r.vote ≡ r.taken.vote
  pub commit : r.commit ≡ r.taken.commit
  pub front : r.log.front ≡ r.taken.front
  pub from : last r.log < r.from

-- a test that fails with "or" fails with either part
neither : (a b : Bool) → not (a || b) ≡ true → (not a ≡ true) × (not b ≡ true)
neither true b e = absurd (cc)
neither false b e = (refl, e)

-- a test that doesn't fail is passed
twice : (a : Bool) → not (not a) ≡ true → a ≡ true
twice true e = refl
twice false e = absurd (cc)

-- a replica that may release what it holds is unchanged
pub unchanged : (r : Replica) → may_release r ≡ true → IsUnchanged r
unchanged r may =
    let parts = and_parts (not (is_pending r)) (not (is_changed r)) may in
    let a = neither (not (r.term == r.taken.term) || not (r.vote == r.taken.vote) || not (r.commit == r.taken.commit) || not (r.log.front == r.taken.front)) (nat_le r.from (last r.log)) parts.1 in
    let b = neither (not (r.term == r.taken.term) || not (r.vote == r.taken.vote) || not (r.commit == r.taken.commit)) (not (r.log.front == r.taken.front)) a.0 in
    let c = neither (not (r.term == r.taken.term) || not (r.vote == r.taken.vote)) (not (r.commit == r.taken.commit)) b.0 in
    let e = neither (not (r.term == r.taken.term)) (not (r.vote == r.taken.vote)) c.0 in
    record {
      pending = no_pending r.pending parts.0;
      term = eqb-true r.term r.taken.term (twice (r.term == r.taken.term) e.0);
      vote = eqb-true r.vote r.taken.vote (twice (r.vote == r.taken.vote) e.1);
      commit = eqb-true r.commit r.taken.commit (twice (r.commit == r.taken.commit) c.1);
      front = eqb-true r.log.front r.taken.front (twice (r.log.front == r.taken.front) b.1);
      from = leb-false r.from (last r.log) (not-true (nat_le r.from (last r.log)) a.1);
    }

-- a list of length 0 is empty
none_left : (xs : List Entry) → length xs ≡ 0 → xs ≡ []
none_left [] e = refl
none_left (x ∷ xs) e = absurd (omega (arith, e))

module _ {g : Group} {v : ℕ} {h : History} {b : SavedState} {r : Replica} {d : List Entry} {w : List Envelope} (o : Open h g v b r d w) (may : may_release r ≡ true) where
  -- the replica after that
  abbrev q : Replica
  q = record r { held = [] }

  -- its history: all that it told counts as saved
  abbrev k : History
  k = with_levels v (h.told v) (h.told v) h

  -- what held of it
  abbrev s : Stands h d (SecuredBut g v b) (HasAnswer w) v b r
  s = o.mine.stands

  -- nothing is being saved
  same_batch : to_be_saved b r ≡ b
  same_batch = ap (λ p. elim p as (λ _. SavedState) [ None ↦ b | Some x ↦ merged b x.batch ]) (unchanged r may).pending

  -- what is saved is the last batch that was taken
  taken : IsTaken b r
  taken = subst (λ x. IsTaken x r) same_batch s.taken

  -- its front is the replica's
  same_front : b.front ≡ r.log.front
  same_front = sym taken.front ∙ sym (unchanged r may).front

  -- its log is the replica's: nothing changed since the batch was taken
  same_log : whole d b.front b.entries ≡ whole d r.log.front r.log.entries
  same_log =
      let u = unchanged r may in
      let n = r.from - 1 in
      let f = r.log.front in
      let X = whole d f r.log.entries in
      let Y = whole d f b.entries in
      let fits : f ≤ length d = omega (arith, s.now.front, s.now.commit.right) in
      let long : length X ≡ f + length r.log.entries = whole_length d f r.log.entries fits in
      let size : length Y ≡ f + length b.entries = whole_length d f b.entries fits in
      let short : b.front + length b.entries ≤ last r.log = ⊎_elim (λ l. absurd (omega (arith, l, u.from))) (λ t. ⊎_elim (λ l. l) (λ off. absurd (off (sym u.front))) t) taken.tail in
      let from : IsSavedTo n (of_batch d b) (of_replica d r) = subst (λ x. IsSavedTo n (of_batch d x) (of_replica d r)) same_batch s.from in
      let entries : b.entries ≡ r.log.entries = ⊎_elim
      (λ low. none_left b.entries (omega (arith, low, short, u.from, same_front)) ∙ sym (none_left r.log.entries (omega (arith, low, u.from))))
      (λ x.
      let tail : SameFrom f n X Y = subst (λ j. SameFrom f n X (whole d j b.entries)) same_front x.1 in
      sym (whole_drop d f b.entries fits) ∙ ap (drop f) (sym (take_whole n Y (omega (arith, size, short, same_front, u.from)))) ∙ sym tail.same
      ∙ ap (drop f) (take_whole n X (omega (arith, long, u.from))) ∙ whole_drop d f r.log.entries fits)
      (saved_from (omega (arith, long)) from) in
      ap (λ j. whole d j b.entries) same_front ∙ ap (whole d f) entries

  -- so the host has saved what it stands as
  same_stage : of_batch d b ≡ of_replica d r
  same_stage =
      let u = unchanged r may in
      let t : b.term ≡ r.term = sym taken.term ∙ sym u.term in
      let c : b.vote ≡ r.vote = sym taken.vote ∙ sym u.vote in
      let m : b.commit ≡ r.commit = sym taken.commit ∙ sym u.commit in
      let f : b.front ≡ r.log.front = sym taken.front ∙ sym u.front in
      ap (λ x. record { term = x; vote = b.vote; commit = b.commit; front = b.front; log = whole d b.front b.entries }) t
      ∙ ap (λ x. record { term = r.term; vote = x; commit = b.commit; front = b.front; log = whole d b.front b.entries }) c
      ∙ ap (λ x. record { term = r.term; vote = r.vote; commit = x; front = b.front; log = whole d b.front b.entries }) m
      ∙ ap (λ x. record { term = r.term; vote = r.vote; commit = r.commit; front = x; log = whole d b.front b.entries }) f
      ∙ ap (λ x. record { term = r.term; vote = r.vote; commit = r.commit; front = r.log.front; log = x }) same_log

  -- and is saving the same
  same_saving : of_batch d (to_be_saved b r) ≡ of_replica d r
  same_saving = ap (of_batch d) same_batch ∙ same_stage

  -- all that it told counts as saved
  grows : Grows v h k d d (SecuredBut g v b) (SecuredBut g v b) (HasAnswer w) (HasAnswer (w ++ r.held))
  grows = levels_grow g.voters v h d (h.told v) (h.told v) (SecuredBut g v b) (SecuredBut g v b) (HasAnswer w) (HasAnswer (w ++ r.held))
      (λ t. let l = o.common.levels v t in omega (arith, l.answer, l.saving)) (λ u t c some x. x) (answer_longer w r.held)

  -- what is held tells of what is saved
  tells_now : (m : Envelope) → IsOnWire r.held m → (m.from ≡ v) × Tells k d (HasAnswer (w ++ r.held)) k.answer m.from m.to m.term m.body (of_replica d r)
  tells_now m on =
      let t = one_tells h d (HasAnswer w) h.told v r.held (of_replica d r) m o.mine.held on in (
        t.0,
        subst (λ u. Tells k d (HasAnswer (w ++ r.held)) k.answer u m.to m.term m.body (of_replica d r)) (sym t.0)
            (tells_grown o.common grows k.answer h.told v (λ t c some e. e)
            (λ t. let e : k.answer v t ≡ h.told v t = at_mine v (h.told v) h.answer t in omega (arith, e)) m.to m.term m.body (of_replica d r) t.1),
      )

  -- the replica is sound at each level
  sound : (level : ℕ → ℕ → ℕ) → ((t : ℕ) → level v t ≡ h.told v t) → IsSound k d level v (of_replica d r)
  sound level same = sound_grown o.common grows level (λ t c some e. e) same (λ t. omega arith) (of_replica d r) s.now

  -- a replica with nothing left to save puts on the wire what it holds
  pub release_step : Open k g v b q d (w ++ r.held)
  release_step =
      let A = HasAnswer (w ++ r.held) in
      let tk = s.taken in
      frame o (record {
        grows = grows;
        adds = levels_add g.voters v h d (h.told v) (h.told v) (SecuredBut g v b) (SecuredBut g v b) (HasAnswer w) A o.common grows (λ t. omega arith) (λ t. omega arith);
        mine = record {
          stands = record {
            saved = subst (λ x. IsSound k d k.answer v x) (sym same_stage) (sound k.answer (at_mine v (h.told v) h.answer));
            saving = subst (λ x. IsSound k d k.saving v x) (sym same_saving) (sound k.saving (at_mine v (h.told v) h.saving));
            now = sound k.told (λ t. refl);
            first = s.first;
            second = s.second;
            later = s.later;
            taken = tk;
            stable = s.stable;
            ends = s.ends;
            from = s.from;
            on_disk = s.on_disk;
            candidate = λ e. let a = s.candidate e in record { some = a.some; vote = a.vote; voted = a.voted; log = a.log; new = a.new; granted = a.granted };
            leader = λ e. let l = s.leader e in
                let full : (n : ℕ) → n ≤ length l.reign.log → n ≤ h.told v r.term = λ n m. omega (arith, m, l.told) in
                record {
                  reign = l.reign;
                  led = l.led;
                  term = l.term;
                  leader = l.leader;
                  log = l.log;
                  told = l.told;
                  saving = λ n own m. (let x : k.saving v r.term ≡ h.told v r.term = at_mine v (h.told v) h.saving r.term in omega (arith, x, full n own.within));
                  mine = l.mine;
                  own = λ n own m. inl (let x : k.answer v r.term ≡ h.told v r.term = at_mine v (h.told v) h.answer r.term in omega (arith, x, full n own.within));
                  matched = λ u other. ⊎_elim (λ z. inl z) (λ a. inr (answer_longer w r.held u r.term _ a)) (l.matched u other);
                };
          };
          held = tt;
          waiting = λ p e. let none : None ≡ Some p = sym (unchanged r may).pending ∙ e in absurd (cc);
          inbox = o.mine.inbox;
          covered = o.mine.covered;
          based = o.mine.based;
        };
        told = λ m on from t.
            let more : (t : ℕ) → h.answer m.from t ≤ k.answer m.from t = λ t. subst (λ u. h.answer u t ≤ k.answer u t) (sym from) (grows.new_answer t) in
            let T = tells_grown o.common grows k.answer h.answer m.from (λ t c some e. e) more m.to m.term m.body in
            record { saved = T (of_batch d b) t.saved; saving = T (of_batch d (to_be_saved b r)) t.saving; now = T (of_replica d r) t.now };
        sent = λ m on. ⊎_elim (λ old. inl old)
            (λ new. let t = tells_now m new in inr (
              t.0,
              record {
                saved = subst (λ x. Tells k d A k.answer m.from m.to m.term m.body x) (sym same_stage) t.1;
                saving = subst (λ x. Tells k d A k.answer m.from m.to m.term m.body x) (sym same_saving) t.1;
                now = t.1;
              },
            ))
            (on_either w r.held m on);
      })
