-- Seals at the head of the wire: what a leader could have sent is remembered there, in any history that fits. Source: this project's own.
use Rattle.std.proofs.Common.{◌≡◌, ◌≢◌, ◌⊎◌, ⊎_elim, ℕ, ◌+◌, ◌<◌, ◌≤◌, List, [], ◌∷◌, length, true, refl, sym, ap, ◌∙◌, subst, arith, inl, inr}
use Rattle.std.specs.Prelude.{nat_lt}
use Rattle.std.proofs.lemmas.Bool.{cases_order, lt-ltb}
use Rattle.wire_types.specs.declared.envelope.Envelope.{Envelope}
use Rattle.raft_model.specs.declared.role.Role.TheVariants.{Candidate, Leader}
use Rattle.raft_model.specs.declared.event.LaneEvent.{LaneEvent}
use Rattle.roster.specs.Roster.{is_majority}
use Rattle.log_view.specs.Log.{term_at}
use Rattle.raft_model.specs.Group.{Group, Acted, replica_at, saved_at, act, run, term_of}
use Rattle.raft_safety.specs.Rounds.{aheads, seal}
use Rattle.raft_safety.specs.History.{Reign, IsLed, Agree}
use Rattle.raft_safety.specs.Replicas.{whole}
use Rattle.raft_safety.specs.Envelopes.{IsOfLeader}
use Rattle.raft_safety.specs.Invariant.{IsOnWire, IsTold, HasAnswer, IsDecided, Secured, Kept}
use Rattle.raft_safety.specs.Events.{IsAllowed, AreAllowed}
use Rattle.raft_safety.specs.Agreed.{StaysKept}
use Rattle.raft_safety.proofs.Argument.Decided.{same_reign, safe}
use Rattle.raft_safety.proofs.Argument.Agreement.{agree_sym, agree_trans, agree_less, term_agree, le_or, less_or_same}
use Rattle.raft_safety.proofs.Frame.Hosts.{host_grown, told_grown}
use Rattle.raft_safety.proofs.Frame.Opened.{grows_none}
use Rattle.raft_safety.proofs.Frame.Release.{on_longer}
use Rattle.raft_safety.proofs.Argument.WholeLogs.{term_whole}
use Rattle.raft_safety.proofs.Laws.Agreed.{same_leader}
use Rattle.raft_safety.proofs.Laws.Ahead.{ahead, later_by_one, act_ahead, allowed_ahead}
use Rattle.raft_safety.proofs.Argument.Quorums.{majority_more}
use Rattle.raft_safety.proofs.Allowed.{parts_of}

-- the event that does the same in the group with some seals
later_by : List Envelope → LaneEvent → LaneEvent
later_by [] e = e
later_by (m ∷ ms) e = later_by_one (later_by ms e)

-- it is allowed there where the event is
allowed_by : (ms : List Envelope) (e : LaneEvent) (g : Group) → IsAllowed g e → IsAllowed (aheads ms g) (later_by ms e)
unfolding later_by
allowed_by [] e g allowed = allowed
allowed_by (m ∷ ms) e g allowed = allowed_ahead m (later_by ms e) (aheads ms g) (allowed_by ms e g allowed)

-- it leaves the group that the event leaves, with the seals at the head of the wire
group_ahead : (ms : List Envelope) (e : LaneEvent) (g : Group) → (act (later_by ms e) (aheads ms g)).group ≡ aheads ms (act e g).group
unfolding later_by
group_ahead [] e g = refl
group_ahead (m ∷ ms) e g = ap (λ (a : Acted). a.group) (act_ahead m (later_by ms e) (aheads ms g)) ∙ ap (ahead m) (group_ahead ms e g)

-- where each allowed event keeps the invariant, it does so with any seals at the head of the wire
pub kept_after : StaysKept → (ms : List Envelope) (e : LaneEvent) (g : Group) → IsAllowed g e → Kept (aheads ms g) → Kept (aheads ms (act e g).group)
kept_after event_kept ms e g allowed k = rw (group_ahead ms e g) at (event_kept (later_by ms e) (aheads ms g) (allowed_by ms e g allowed) k)

-- and so does a list of allowed events
pub run_after : StaysKept → (ms : List Envelope) (es : List LaneEvent) (g : Group) → AreAllowed g es → Kept (aheads ms g) → Kept (aheads ms (run es g).group)
unfolding run
run_after event_kept ms [] g all k = k
run_after event_kept ms (e ∷ es) g all k = let a = parts_of e es g all in run_after event_kept ms es (act e g).group a.1 (kept_after event_kept ms e g a.0 k)

-- the invariant holds with one more seal, of a leader with as much of its log as it has committed
pub sealed : {g : Group} (u : ℕ) → Kept g → (replica_at g u).role ≡ Leader → (c : ℕ) → c ≤ (replica_at g u).commit → Kept (ahead (seal u (replica_at g u).term c) g)
sealed {g} u k role c less =
    let h = k.history in
    let i = k.holds in
    let t = (replica_at g u).term in
    let m = seal u t c in
    let A = HasAnswer g.wire in
    let B = HasAnswer (m ∷ g.wire) in
    let heard : (w s n : ℕ) → A w s n → B w s n = λ w s n a. record { envelope = a.envelope; there = inr a.there; from = a.from; term = a.term; index = a.index; most = a.most; body = a.body } in
    let grows = λ (v : ℕ). grows_none v h g.decided (Secured g) (Secured g) A B (λ w s c y. y) heard in
    let s = (i.hosts u).stands in
    let l = s.leader role in
    let X = whole g.decided (replica_at g u).log.front (replica_at g u).log.entries in
    let leads : IsOfLeader h g.decided u t 0 0 c [] = record {
      reign = l.reign;
      led = l.led;
      term = l.term;
      leader = l.leader;
      reaches = omega arith;
      before = refl;
      entries = refl;
      commit = subst (λ xs. Agree c xs g.decided) (sym l.log) (agree_less c less s.now.commit);
    } in
    record {
      history = h;
      holds = record {
        tables = record { replicas = i.tables.replicas; saves = i.tables.saves; up = i.tables.up };
        voters = i.voters;
        common = i.common;
        hosts = λ v. host_grown i.common (grows (v + 1)) (λ e. omega (arith, e)) (i.hosts v);
        wire = λ e on. ⊎_elim
            (λ new. subst (λ y. IsTold h g.decided B y (saved_at g y.from) (replica_at g y.from)) (sym new) (record { saved = leads; saving = leads; now = leads }))
            (λ old. told_grown i.common (grows (e.from + 1)) (λ z. omega (arith, z)) (i.hosts e.from) (i.wire e old))
            on;
      };
    }

module _ (ms : List Envelope) (g : Group) (k : Kept (aheads ms g)) where
  -- in any history that fits, a seal tells of a reign whose log is decided up to the seal
  pub remembered : (u t c : ℕ) → IsOnWire ms (seal u t c) → IsOfLeader k.history g.decided u t 0 0 c []
  remembered u t c on = (k.holds.wire (seal u t c) (on_longer ms g.wire (seal u t c) on)).now

  -- only the sealed host leads the sealed term
  pub only_sealed : (u t c v : ℕ) → IsOnWire ms (seal u t c) → (replica_at g v).role ≡ Leader → (replica_at g v).term ≡ t → v ≡ u
  only_sealed u t c v on role term =
      let a = remembered u t c on in
      let l = (k.holds.hosts v).stands.leader role in
      sym l.leader ∙ same_leader k l.reign a.reign l.led a.led (l.term ∙ term ∙ sym a.term) ∙ a.leader

  -- a candidate of the sealed term isn't the sealed host
  pub not_candidate : (u t c v : ℕ) → IsOnWire ms (seal u t c) → (replica_at g v).role ≡ Candidate → (replica_at g v).term ≡ t → v ≢ u
  not_candidate u t c v on role term e = let a = remembered u t c on in ((k.holds.hosts v).stands.candidate role).new a.reign a.led (a.term ∙ sym term) (a.leader ∙ sym e)

  -- where a term was led, a majority has saved a term above any lower one
  saved_later : (X : Reign) → IsLed k.history.reigns X → (t : ℕ) → t < X.term → is_majority g.voters (λ w. nat_lt t (saved_at g w).term) ≡ true
  saved_later X led t later =
      let reign = k.holds.common.reigns X led in
      majority_more g.voters X.quorum (λ w. nat_lt t (saved_at g w).term)
      (λ w q. lt-ltb t (saved_at g w).term (let x = (reign.votes w q).1 in ⊎_elim (λ y. omega (arith, y, later)) (λ y. omega (arith, y.0, later)) x))
      reign.majority

  -- a place that was decided in a term up to a reign's is in the reign's log
  in_log : {n : ℕ} (q : IsDecided g.voters k.history g.decided n) (R : Reign) → IsLed k.history.reigns R → q.reign.term ≤ R.term → Agree n g.decided R.log
  in_log {n} q R led low = ⊎_elim
      (λ less. agree_trans q.same (agree_sym (agree_less n q.reach (safe k.holds.common q.led q.chosen R led less))))
      (λ same. subst (λ (S : Reign). Agree n g.decided S.log) (same_reign k.holds.common q.reign R q.led led same) q.same)
      (less_or_same q.reign.term R.term low)

  -- where the decided list was decided in a term up to a leader's and sealed in a lower one, a leader that has committed an entry of its own term has committed it
  own_commit : (u s : ℕ) → IsOnWire ms (seal u s (length g.decided)) → (v : ℕ) → (replica_at g v).role ≡ Leader → term_at (replica_at g v).log (replica_at g v).commit ≡ (replica_at g v).term
      → s < (replica_at g v).term → (q : IsDecided g.voters k.history g.decided (length g.decided)) → q.reign.term ≤ (replica_at g v).term → (replica_at g v).commit < length g.decided → ⊥
  own_commit u s on v role own before q low past =
      let i = k.holds in
      let d = g.decided in
      let n = length d in
      let r = replica_at g v in
      let a = remembered u s n on in
      let host = i.hosts v in
      let c = host.stands.now in
      let l = host.stands.leader role in
      let R = l.reign in
      let agree : Agree n d R.log = in_log q R l.led (omega (arith, low, l.term)) in
      let high : term_of R.log r.commit ≡ r.term = ap (λ xs. term_of xs r.commit) l.log ∙ sym (term_whole d r.log r.commit (omega (arith, c.front, c.commit.right)) host.based.2 c.front) ∙ own in
      let up : term_of R.log r.commit ≤ term_of R.log n = (i.common.reigns R l.led).monotone r.commit n (omega (arith, past)) agree.right in
      let there : term_of d n ≡ term_of R.log n = term_agree n agree (omega arith) in
      let sealed_there : term_of a.reign.log n ≡ term_of d n = term_agree n a.commit (omega arith) in
      let most : term_of a.reign.log n ≤ a.reign.term = (i.common.reigns a.reign a.led).terms n a.commit.left in
      omega (arith, high, up, there, sealed_there, most, a.term, before)

  -- a leader that has committed an entry of its term has committed all that is decided, or a majority has saved a greater term
  pub front_or_gone : (u s : ℕ) → IsOnWire ms (seal u s (length g.decided)) → (v : ℕ) → (replica_at g v).role ≡ Leader → term_at (replica_at g v).log (replica_at g v).commit ≡ (replica_at g v).term
      → (v ≡ u → (replica_at g v).term ≡ s → length g.decided ≤ (replica_at g v).commit)
      → (length g.decided ≤ (replica_at g v).commit) ⊎ (is_majority g.voters (λ w. nat_lt (replica_at g v).term (saved_at g w).term) ≡ true)
  front_or_gone u s on v role own mine =
      let n = length g.decided in
      let t = (replica_at g v).term in
      let a = remembered u s n on in
      ⊎_elim
      (λ same. inl (mine (only_sealed u s n v on role (sym same)) (sym same)))
      (λ o. ⊎_elim
      (λ before. ⊎_elim
      (λ within. inl within)
      (λ past.
      let q = k.holds.common.decided n (omega (arith, past)) (omega arith) in
      ⊎_elim (λ low. absurd (own_commit u s on v role own before q low past)) (λ above. inr (saved_later q.reign q.led t above)) (le_or q.reign.term t))
      (le_or n (replica_at g v).commit))
      (λ above. inr (saved_later a.reign a.led t (omega (arith, above, a.term))))
      o)
      (cases_order s t)
