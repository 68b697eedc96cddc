-- A step at one host with which the history or the decided list grows, while the wire, what is saved and what is pending stay.
use Rattle.std.proofs.Common.{◌≡◌, ◌≢◌, ℕ, ◌≤◌, List, sym, ap, ◌∙◌, subst, arith, inl, Some, None, true}
use Rattle.host_ids.specs.declared.entry.Entry.{Entry}
use Rattle.raft_model.specs.declared.saved.SavedState.{SavedState}
use Rattle.wire_types.specs.declared.envelope.Envelope.{Envelope}
use Rattle.raft_model.specs.declared.state.State.{State as Replica}
use Rattle.raft_model.specs.Group.{Group, merged, term_of, is_decided}
use Rattle.raft_safety.specs.History.{History}
use Rattle.raft_safety.specs.Replicas.{Stage, of_batch, of_replica, to_be_saved, Stands}
use Rattle.raft_safety.specs.Envelopes.{Tells, TellsAll}
use Rattle.raft_safety.specs.Invariant.{Common, IsTold, HasAnswer}
use Rattle.raft_safety.proofs.Frame.Growth.{Grows}
use Rattle.raft_safety.proofs.Frame.Common.{Adds, common_grown}
use Rattle.raft_safety.proofs.Frame.Hosts.{batch_same, replica_same, tells_grown, tells_all_grown}
use Rattle.raft_safety.proofs.Frame.Opened.{SecuredBut, Open, frame}
use Rattle.raft_safety.proofs.Frame.Words.{Outlives, tells_on, all_on}
use Rattle.raft_model.specs.declared.state.Inbox.{Inbox}

module _ {g : Group} {v : ℕ} {h k : History} {b : SavedState} {r : Replica} (q : Replica) {d e : List Entry} {w : List Envelope} (o : Open h g v b r d w)
    (grows : Grows v h k d e (SecuredBut g v b) (SecuredBut g v b) (HasAnswer w) (HasAnswer w)) (adds : Adds g.voters v h k d e (SecuredBut g v b)) where
  -- the common sentences hold of the longer history and list
  pub common_moved : Common g.voters k e (SecuredBut g v b)
  common_moved = common_grown o.common grows adds

  -- what the host has saved is the same stage, seen with the longer list
  pub saved_longer : of_batch d b ≡ of_batch e b
  saved_longer = let s = o.mine.stands.saved in batch_same o.common grows b (omega (arith, s.front, s.commit.right))

  -- so is what it is saving
  pub saving_longer : of_batch d (to_be_saved b r) ≡ of_batch e (to_be_saved b r)
  saving_longer = let s = o.mine.stands.saving in batch_same o.common grows (to_be_saved b r) (omega (arith, s.front, s.commit.right))

  -- and its replica as it stood
  pub now_longer : of_replica d r ≡ of_replica e r
  now_longer = let s = o.mine.stands.now in replica_same o.common grows r (omega (arith, s.front, s.commit.right))

  module _ (kept : (t c : ℕ) → c ≢ 0 → h.vote v t ≡ c → k.vote v t ≡ c) (told : (t : ℕ) → h.told v t ≤ k.told v t) (saving : (t : ℕ) → h.saving v t ≤ k.saving v t)
      (stands : Stands k e (SecuredBut g v b) (HasAnswer w) v b q)
      (held : r.held ≡ q.held) (pending : r.pending ≡ q.pending) (inbox : (y : Inbox) → q.inbox ≡ Some y → is_decided e y.received.index y.received.term ≡ true)
      (covered : q.log.front ≤ q.stable)
      (based : (b.front_term ≡ term_of e b.front) × ((to_be_saved b q).front_term ≡ term_of e (to_be_saved b q).front) × (q.log.front_term ≡ term_of e q.log.front))
      (lives : Outlives k e v (of_replica e r) (of_replica e q)) where
    -- the replica is saving what it was saving
    same_saving : to_be_saved b r ≡ to_be_saved b q
    same_saving = ap (λ p. elim p as (λ _. SavedState) [ None ↦ b | Some x ↦ merged b x.batch ]) pending

    -- envelopes tell of the longer history what they told
    all_later : (now before : ℕ → ℕ → ℕ) → ((t : ℕ) → before v t ≤ now v t) → (es : List Envelope) (x : Stage) → TellsAll h d (HasAnswer w) before v es x → TellsAll k e (HasAnswer w) now v es x
    all_later now before more es x t = tells_all_grown o.common grows now before v kept more es x t

    -- and those of the replica as it stood tell of it as it stands
    all_now : (now before : ℕ → ℕ → ℕ) → ((t : ℕ) → before v t ≤ now v t) → ((t : ℕ) → now v t ≤ k.told v t) → (es : List Envelope) → TellsAll h d (HasAnswer w) before v es (of_replica d r)
        → TellsAll k e (HasAnswer w) now v es (of_replica e q)
    all_now now before more most es t =
        all_on (HasAnswer w) now es most lives
        (subst (λ x. TellsAll k e (HasAnswer w) now v es x) now_longer (all_later now before more es (of_replica d r) t))

    -- an envelope of the host on the wire binds it as before
    told_moved : {m : Envelope} → m.from ≡ v → IsTold h d (HasAnswer w) m b r → IsTold k e (HasAnswer w) m b q
    told_moved {m} from t =
        let more : (t : ℕ) → h.answer m.from t ≤ k.answer m.from t = λ t. subst (λ u. h.answer u t ≤ k.answer u t) (sym from) (grows.new_answer t) in
        let T = tells_grown o.common grows k.answer h.answer m.from (subst (λ u. (t c : ℕ) → c ≢ 0 → h.vote u t ≡ c → k.vote u t ≡ c) (sym from) kept) more m.to m.term m.body in
        let below : (t : ℕ) → k.answer m.from t ≤ k.told m.from t = λ t. (let l = common_moved.levels m.from t in omega (arith, l.answer, l.saving)) in
        record {
          saved = subst (λ x. Tells k e (HasAnswer w) k.answer m.from m.to m.term m.body x) saved_longer (T (of_batch d b) t.saved);
          saving = subst (λ x. Tells k e (HasAnswer w) k.answer m.from m.to m.term m.body (of_batch e x)) same_saving
              (subst (λ x. Tells k e (HasAnswer w) k.answer m.from m.to m.term m.body x) saving_longer (T (of_batch d (to_be_saved b r)) t.saving));
          now = tells_on (HasAnswer w) k.answer m.to m.term m.body below (subst (λ u. Outlives k e u (of_replica e r) (of_replica e q)) (sym from) lives)
              (subst (λ x. Tells k e (HasAnswer w) k.answer m.from m.to m.term m.body x) now_longer (T (of_replica d r) t.now));
        }

    -- a step at one host with which the history or the list grows, while the wire, what is saved and what is pending stay
    pub moved_step : Open k g v b q e w
    moved_step =
        let a = o.mine in
        frame o (record {
          grows = grows;
          adds = adds;
          mine = record {
            stands = stands;
            held = subst (λ es. TellsAll k e (HasAnswer w) k.told v es (of_replica e q)) held (all_now k.told h.told told (λ t. omega arith) r.held a.held);
            waiting = λ p some.
                let x = a.waiting p (pending ∙ some) in (
                  subst (λ y. TellsAll k e (HasAnswer w) k.saving v p.envelopes (of_batch e y)) same_saving
                      (subst (λ y. TellsAll k e (HasAnswer w) k.saving v p.envelopes y) saving_longer (all_later k.saving h.saving saving p.envelopes (of_batch d (to_be_saved b r)) x.0)),
                  all_now k.saving h.saving saving (λ t. (common_moved.levels v t).saving) p.envelopes x.1,
                );
            inbox = inbox;
            covered = covered;
            based = based;
          };
          told = λ m on from t. told_moved from t;
          sent = λ m on. inl on;
        })
