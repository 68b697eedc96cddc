-- The sentences on a host, and on its envelopes, after an event at another one.
use Rattle.std.proofs.Common.{◌≡◌, ◌≢◌, ⊎_elim, ℕ, ◌+◌, ◌-◌, ◌≤◌, List, [], ◌∷◌, ◌++◌, length, take, drop, refl, sym, ap, ◌∙◌, subst, arith, inl, inr}
use Rattle.std.proofs.lemmas.List.{drop-take}
use Rattle.host_ids.specs.declared.entry.Entry.{Entry}
use Rattle.raft_model.specs.declared.saved.SavedState.{SavedState}
use Rattle.wire_types.specs.declared.envelope.Envelope.{Envelope}
use Rattle.wire_types.specs.declared.envelope.Body.{Body}
use Rattle.wire_types.specs.declared.envelope.Body.TheVariants as bodies
use Rattle.raft_model.specs.declared.state.State.{State as Replica}
use Rattle.roster.specs.Roster.{at}
use Rattle.raft_model.specs.Group.{term_of}
use Rattle.raft_safety.specs.History.{Reign, History}
use Rattle.raft_safety.specs.Replicas.{Stage, whole, of_batch, of_replica, to_be_saved, IsSound, IsSavedTo, IsCandidate, IsLeader}
use Rattle.raft_safety.specs.Envelopes.{IsOfLeader, Tells, TellsAll}
use Rattle.raft_safety.specs.Invariant.{Common, IsHost, IsTold}
use Rattle.raft_safety.proofs.Argument.Agreement.{agree_sym, agree_less, term_agree}
use Rattle.raft_safety.proofs.Frame.Extends.{Extends, extends_term}
use Rattle.raft_safety.proofs.Frame.Growth.{Grows, extends_agree, agree_decided, within_grown, holds_grown, old_grown, counted_at, keeps_extended}
use Rattle.raft_safety.proofs.Argument.WholeLogs.{decided_longer}

-- a longer log holds the same entries above a place within the shorter one
pub entries_longer : (prev n : ℕ) {R S : Reign} → Extends R S → prev + n ≤ length R.log → take n (drop prev S.log) ≡ take n (drop prev R.log)
entries_longer prev n {R} {S} x m =
    sym (drop-take prev n S.log) ∙ ap (drop prev) (agree_less (prev + n) m x.log).same ∙ drop-take prev n R.log

module _ {voters : List ℕ} {v : ℕ} {h k : History} {d e : List Entry} {Secured SecuredNow Answers AnswersNow : ℕ → ℕ → ℕ → Type 0}
    (i : Common voters h d Secured) (g : Grows v h k d e Secured SecuredNow Answers AnswersNow) where
  -- a whole log stays the same where its front was decided before
  pub whole_same : (front : ℕ) (es : List Entry) → front ≤ length d → whole d front es ≡ whole e front es
  whole_same front es m = ap (λ xs. xs ++ es) (sym (agree_less front m g.decided).same)

  -- and so does the decided list's term at the front
  pub term_same : (front : ℕ) → front ≤ length d → term_of d front ≡ term_of e front
  term_same front m = sym (term_agree front g.decided m)

  -- so what is saved is the same stage, seen with the longer list
  pub batch_same : (b : SavedState) → b.front ≤ length d → of_batch d b ≡ of_batch e b
  batch_same b m = ap (λ xs. record { term = b.term; vote = b.vote; commit = b.commit; front = b.front; log = xs }) (whole_same b.front b.entries m)

  -- and a replica
  pub replica_same : (r : Replica) → r.log.front ≤ length d → of_replica d r ≡ of_replica e r
  replica_same r m = ap (λ xs. record { term = r.term; vote = r.vote; commit = r.commit; front = r.log.front; log = xs }) (whole_same r.log.front r.log.entries m)

  -- a stage of a host stays sound, where the host counts what it counted
  pub sound_grown : (now : ℕ → ℕ → ℕ) {before : ℕ → ℕ → ℕ} {u : ℕ} → ((t c : ℕ) → c ≢ 0 → h.vote u t ≡ c → k.vote u t ≡ c) → ((t : ℕ) → now u t ≡ before u t) → ((t : ℕ) → before u t ≤ h.told u t)
      → (x : Stage) → IsSound h d before u x → IsSound k e now u x
  sound_grown now {before} {u} kept same below x s = record {
    front = s.front;
    commit = agree_decided i g s.commit;
    vote = λ some. kept x.term x.vote some (s.vote some);
    matches = within_grown i g x.log x.commit s.matches;
    ahead = λ t l. same t ∙ s.ahead t l;
    terms = λ n a b. ⊎_elim (λ l. inl l) (λ l. inr (agree_decided i g l)) (s.terms n a b);
    keeps = λ S n c.
        let b = counted_at i g below (record { led = c.led; own = c.own; most = omega (arith, c.most, same S.term); safe = c.safe }) in
        keeps_extended i g b.extends (s.keeps b.reign n b.counts);
  }

  -- entries of a leader stay entries of that leader
  pub of_leader_grown : {from t prev pt c : ℕ} {es : List Entry} → IsOfLeader h d from t prev pt c es → IsOfLeader k e from t prev pt c es
  of_leader_grown {prev} {c} {es} q =
      let f = g.forward q.reign q.led in
      record {
        reign = f.reign;
        led = f.led;
        term = f.extends.term ∙ q.term;
        leader = f.extends.leader ∙ q.leader;
        reaches = omega (arith, q.reaches, f.extends.log.left);
        before = extends_term prev f.extends (omega (arith, q.reaches)) ∙ q.before;
        entries = q.entries ∙ sym (entries_longer prev (length es) f.extends q.reaches);
        commit = agree_sym (extends_agree f.extends
            (agree_sym (agree_decided i g q.commit)));
      }

  -- an envelope tells what it told, where its sender counts what it counted
  pub tells_grown : (now before : ℕ → ℕ → ℕ) (from : ℕ) → ((t c : ℕ) → c ≢ 0 → h.vote from t ≡ c → k.vote from t ≡ c) → ((t : ℕ) → before from t ≤ now from t) → (to t : ℕ) (body : Body) (x : Stage)
      → Tells h d Answers before from to t body x → Tells k e AnswersNow now from to t body x
  tells_grown now before from kept more to t (bodies.Vote l lt) x q =
      let same = g.campaigns from t from q.some q.vote in
      record {
        some = q.some;
        vote = kept t from q.some q.vote;
        secured = q.secured;
        length = ap (λ xs. length xs) same.0 ∙ q.length;
        last = ap (λ xs. term_of xs l) same.0 ∙ q.last;
      }
  tells_grown now before from kept more to t (bodies.VoteReply granted) x q = λ yes. let a = q yes in record { some = a.some; vote = kept t to a.some a.vote; secured = a.secured }
  tells_grown now before from kept more to t (bodies.Append prev pt c es) x q = of_leader_grown q
  tells_grown now before from kept more to t (bodies.AppendReply ok n) x q = λ yes. let a = q yes in record {
    since = a.since;
    present = λ same. holds_grown i g (a.present same);
    counts = ⊎_elim (λ c. inl (omega (arith, c, more t))) (λ l. inr (old_grown i g from t n l)) a.counts;
  }
  tells_grown now before from kept more to t (bodies.Beat c round) x q = (of_leader_grown q.0, ⊎_elim (λ z. inl z) (λ a. inr (g.heard to t c a)) q.1)
  tells_grown now before from kept more to t (bodies.BeatReply round) x q = tt
  tells_grown now before from kept more to t (bodies.SnapChunk index lt number count size bytes) x q = decided_longer index lt g.decided q
  tells_grown now before from kept more to t (bodies.SnapReply n want all) x q = λ yes. let a = q yes in record {
    committed = a.committed;
    counts = ⊎_elim (λ c. inl (omega (arith, c, more t))) (λ l. inr (old_grown i g from t n l)) a.counts;
  }
  tells_grown now before from kept more to t (bodies.Propose key p) x q = tt
  tells_grown now before from kept more to t (bodies.ReadAsk key) x q = tt
  tells_grown now before from kept more to t (bodies.ReadAnswer key n) x q = tt

  -- so does each of a list of envelopes
  pub tells_all_grown : (now before : ℕ → ℕ → ℕ) (u : ℕ) → ((t c : ℕ) → c ≢ 0 → h.vote u t ≡ c → k.vote u t ≡ c) → ((t : ℕ) → before u t ≤ now u t) → (es : List Envelope) (x : Stage)
      → TellsAll h d Answers before u es x → TellsAll k e AnswersNow now u es x
  tells_all_grown now before u kept more [] x q = tt
  tells_all_grown now before u kept more (m ∷ ms) x q = (q.0, tells_grown now before u kept more m.to m.term m.body x q.1, tells_all_grown now before u kept more ms x q.2)

  -- another host stays a candidate
  candidate_grown : {u : ℕ} (r : Replica) → u ≢ v → r.log.front ≤ length d → IsCandidate h d Secured u r → IsCandidate k e SecuredNow u r
  candidate_grown {u} r other front c = let some = c.some in record {
    some = some;
    vote = c.vote;
    log = (g.campaigns u r.term u some c.voted).0 ∙ c.log ∙ whole_same r.log.front r.log.entries front;
    voted = g.votes u r.term u some (inl other) c.voted;
    new = λ S led same wrong. ⊎_elim
        (λ x. c.new x.reign x.led (sym x.extends.term ∙ same) (sym x.extends.leader ∙ wrong))
        (λ n. other (sym wrong ∙ n.leader))
        (g.back S led);
    granted = λ w yes. let a = c.granted w yes in (g.votes w r.term u some (inr a.1) a.0, g.secured w r.term u some a.1);
  }

  -- another host stays a leader
  leader_grown : {u : ℕ} (r : Replica) → u ≢ v → r.log.front ≤ length d → IsLeader h d Answers u r → IsLeader k e AnswersNow u r
  leader_grown {u} r other front l = record {
    reign = l.reign;
    led = g.others l.reign l.led (λ e. other (sym l.leader ∙ e));
    term = l.term;
    leader = l.leader;
    log = l.log ∙ whole_same r.log.front r.log.entries front;
    told = g.told u r.term other ∙ l.told;
    saving = λ n own m. omega (arith, l.saving n own m, g.saving u r.term other);
    mine = ⊎_elim (λ m. inl m) (λ x. inr (old_grown i g u r.term (at r.matched u) x)) l.mine;
    own = λ n own m. ⊎_elim (λ c. inl (omega (arith, c, g.answer u r.term other))) (λ x. inr (old_grown i g u r.term n x)) (l.own n own m);
    matched = λ w o. ⊎_elim (λ z. inl z) (λ a. inr (g.heard w r.term (at r.matched w) a)) (l.matched w o);
  }

  -- another host's votes stay as they were
  kept_at : (u : ℕ) → u ≢ v → (t c : ℕ) → c ≢ 0 → h.vote u t ≡ c → k.vote u t ≡ c
  kept_at u other t c some voted = g.votes u t c some (inl other) voted

  -- another host keeps all its sentences
  pub host_grown : {u : ℕ} {b : SavedState} {r : Replica} → u ≢ v → IsHost h d Secured Answers u b r → IsHost k e SecuredNow AnswersNow u b r
  host_grown {u} {b} {r} other q =
      let s = q.stands in
      let saved_front : b.front ≤ length d = omega (arith, s.saved.front, s.saved.commit.right) in
      let saving_front : (to_be_saved b r).front ≤ length d = omega (arith, s.saving.front, s.saving.commit.right) in
      let front : r.log.front ≤ length d = omega (arith, s.now.front, s.now.commit.right) in
      let level = i.levels u in
      let B = batch_same b saved_front in
      let P = batch_same (to_be_saved b r) saving_front in
      let N = replica_same r front in
      record {
        stands = record {
          saved = subst (λ x. IsSound k e k.answer u x) B
              (sound_grown k.answer (kept_at u other) (λ t. g.answer u t other) (λ t. omega (arith, (level t).answer, (level t).saving)) (of_batch d b) s.saved);
          saving = subst (λ x. IsSound k e k.saving u x) P (sound_grown k.saving (kept_at u other) (λ t. g.saving u t other) (λ t. (level t).saving) (of_batch d (to_be_saved b r)) s.saving);
          now = subst (λ x. IsSound k e k.told u x) N (sound_grown k.told (kept_at u other) (λ t. g.told u t other) (λ t. omega arith) (of_replica d r) s.now);
          first = record { term = s.first.term; vote = s.first.vote; commit = s.first.commit; front = s.first.front };
          second = record { term = s.second.term; vote = s.second.vote; commit = s.second.commit; front = s.second.front };
          later = λ t l. ⊎_elim (λ same. sym same ∙ s.later t l) (λ n. absurd (other n.0)) (g.new_votes u t (k.vote u t) (inr other) refl);
          taken = s.taken;
          stable = s.stable;
          ends = s.ends;
          from = subst (λ x. IsSavedTo (r.from - 1) (of_batch e (to_be_saved b r)) x) N (subst (λ x. IsSavedTo (r.from - 1) x (of_replica d r)) P s.from);
          on_disk = subst (λ x. IsSavedTo r.stable (of_batch e b) x) N (subst (λ x. IsSavedTo r.stable x (of_replica d r)) B s.on_disk);
          candidate = λ c. candidate_grown r other front (s.candidate c);
          leader = λ c. leader_grown r other front (s.leader c);
        };
        held = subst (λ x. TellsAll k e AnswersNow k.told u r.held x) N (tells_all_grown k.told h.told u (kept_at u other) (λ t. omega (arith, g.told u t other)) r.held (of_replica d r) q.held);
        waiting = λ p w. let a = q.waiting p w in
            let more : (t : ℕ) → h.saving u t ≤ k.saving u t = λ t. omega (arith, g.saving u t other) in (
              subst (λ x. TellsAll k e AnswersNow k.saving u p.envelopes x) P (tells_all_grown k.saving h.saving u (kept_at u other) more p.envelopes (of_batch d (to_be_saved b r)) a.0),
              subst (λ x. TellsAll k e AnswersNow k.saving u p.envelopes x) N (tells_all_grown k.saving h.saving u (kept_at u other) more p.envelopes (of_replica d r) a.1),
            );
        inbox = λ y is. decided_longer y.received.index y.received.term g.decided (q.inbox y is);
        covered = q.covered;
        based = (q.based.0 ∙ term_same b.front saved_front, q.based.1 ∙ term_same (to_be_saved b r).front saving_front, q.based.2 ∙ term_same r.log.front front);
      }

  -- and its envelopes on the wire bind it as before
  pub told_grown : {m : Envelope} {b : SavedState} {r : Replica} → m.from ≢ v → IsHost h d Secured Answers m.from b r → IsTold h d Answers m b r → IsTold k e AnswersNow m b r
  told_grown {m} {b} {r} other q t =
      let s = q.stands in
      let B = batch_same b (omega (arith, s.saved.front, s.saved.commit.right)) in
      let P = batch_same (to_be_saved b r) (omega (arith, s.saving.front, s.saving.commit.right)) in
      let N = replica_same r (omega (arith, s.now.front, s.now.commit.right)) in
      let more : (t : ℕ) → h.answer m.from t ≤ k.answer m.from t = λ t. omega (arith, g.answer m.from t other) in
      record {
        saved = subst (λ x. Tells k e AnswersNow k.answer m.from m.to m.term m.body x) B (tells_grown k.answer h.answer m.from (kept_at m.from other) more m.to m.term m.body (of_batch d b) t.saved);
        saving = subst (λ x. Tells k e AnswersNow k.answer m.from m.to m.term m.body x) P
            (tells_grown k.answer h.answer m.from (kept_at m.from other) more m.to m.term m.body (of_batch d (to_be_saved b r)) t.saving);
        now = subst (λ x. Tells k e AnswersNow k.answer m.from m.to m.term m.body x) N (tells_grown k.answer h.answer m.from (kept_at m.from other) more m.to m.term m.body (of_replica d r) t.now);
      }
