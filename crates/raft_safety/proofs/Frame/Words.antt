-- Small steps at one host that leave the history, the decided list and the wire alone.
use Rattle.std.proofs.lemmas.Bool.{cond_both, eqb-false}
use Rattle.raft_model.specs.Replica.{each_other}
use Rattle.std.proofs.Common.{◌≢◌, ◌==◌, if◌then◌else◌, ◌≡◌, ⊎_elim, ℕ, ◌<◌, ◌≤◌, List, [], ◌∷◌, ◌++◌, refl, sym, ap, subst, arith, inl, inr, Some, None, length, min, true, Bool, Option}
use Rattle.host_ids.specs.declared.entry.Entry.{Entry}
use Rattle.raft_model.specs.declared.saved.SavedState.{SavedState}
use Rattle.wire_types.specs.declared.envelope.Envelope.{Envelope}
use Rattle.wire_types.specs.declared.envelope.Body.{Body}
use Rattle.wire_types.specs.declared.envelope.Body.TheVariants as bodies
use Rattle.raft_model.specs.declared.state.State.{State as Replica}
use Rattle.read_index.specs.Reads.{Reads, closed}
use Rattle.raft_model.specs.declared.role.Role.{Role}
use Rattle.raft_model.specs.declared.role.Role.TheVariants.{Follower, Candidate, Leader}
use Rattle.raft_model.specs.declared.chunk.Chunk.{Chunk}
use Rattle.raft_model.specs.declared.state.Inbox.{Inbox}
use Rattle.roster.specs.Roster.{none_set}
use Rattle.raft_model.specs.Group.{Group, is_decided, merged}
use Rattle.raft_safety.specs.History.{History, Agree, HoldsUpTo}
use Rattle.raft_safety.specs.Replicas.{Stage, whole, of_batch, of_replica, to_be_saved, IsSecured, IsCandidate, IsLeader}
use Rattle.raft_safety.specs.Envelopes.{Tells, TellsAll}
use Rattle.raft_safety.specs.Invariant.{IsHost, HasAnswer}
use Rattle.raft_safety.proofs.Frame.Opened.{SecuredBut, Open, frame, grows_none, adds_none}

-- a stage holds all that another one promised: what it secured stays secured, and of what it answered in a term that it is still in the places are there
pub record Outlives (h : History) (d : List Entry) (v : ℕ) (x y : Stage) : Type 0 where
  pub term : x.term ≤ y.term
  pub commit : x.commit ≤ y.commit
  pub secured : (t c : ℕ) → IsSecured x.term x.vote t c → IsSecured y.term y.vote t c
  pub holds : (t n : ℕ) → x.term ≡ t → HoldsUpTo h d x.commit x.log t (min n (length x.log)) → y.term ≡ t → HoldsUpTo h d y.commit y.log t (min n (length y.log))

-- what an envelope tells of a stage it tells of one that outlives it
pub tells_on : {h : History} {d : List Entry} (Ans : ℕ → ℕ → ℕ → Type 0) (level : ℕ → ℕ → ℕ) {from : ℕ} (to t : ℕ) (body : Body) {x y : Stage} → ((t : ℕ) → level from t ≤ h.told from t)
    → Outlives h d from x y → Tells h d Ans level from to t body x → Tells h d Ans level from to t body y
tells_on Ans level {from} to t (bodies.Vote l lt) below o q = record { some = q.some; vote = q.vote; secured = o.secured t from q.secured; length = q.length; last = q.last }
tells_on Ans level to t (bodies.VoteReply granted) below o q = λ yes. let a = q yes in record { some = a.some; vote = a.vote; secured = o.secured t to a.secured }
tells_on Ans level to t (bodies.Append prev pt c es) below o q = q
tells_on Ans level to t (bodies.AppendReply ok n) {x} below o q = λ yes. let a = q yes in record {
  since = omega (arith, a.since, o.term);
  present = λ e. let same : x.term ≡ t = omega (arith, a.since, o.term, e) in o.holds t n same (a.present same) e;
  counts = a.counts;
}
tells_on Ans level to t (bodies.Beat c round) below o q = q
tells_on Ans level to t (bodies.BeatReply round) below o q = tt
tells_on Ans level to t (bodies.SnapChunk index lt number count size bytes) below o q = q
tells_on Ans level to t (bodies.SnapReply n want all) below o q = λ yes. let a = q yes in record { committed = omega (arith, a.committed, o.commit); counts = a.counts }
tells_on Ans level to t (bodies.Propose key p) below o q = tt
tells_on Ans level to t (bodies.ReadAsk key) below o q = tt
tells_on Ans level to t (bodies.ReadAnswer key n) below o q = tt

-- so does each of a list of envelopes
pub all_on : {h : History} {d : List Entry} (Ans : ℕ → ℕ → ℕ → Type 0) (level : ℕ → ℕ → ℕ) {v : ℕ} (es : List Envelope) {x y : Stage} → ((t : ℕ) → level v t ≤ h.told v t) → Outlives h d v x y
    → TellsAll h d Ans level v es x → TellsAll h d Ans level v es y
all_on Ans level [] below o q = tt
all_on {h} {d} Ans level {v} (m ∷ ms) {x} {y} below o q = (q.0, tells_on Ans level m.to m.term m.body below o q.1, all_on Ans level ms below o q.2)

-- envelopes that tell, and more that do, all tell
pub all_and : (h : History) (d : List Entry) (Ans : ℕ → ℕ → ℕ → Type 0) (level : ℕ → ℕ → ℕ) (v : ℕ) (es fs : List Envelope) (x : Stage) → TellsAll h d Ans level v es x → TellsAll h d Ans level v fs x
    → TellsAll h d Ans level v (es ++ fs) x
all_and h d Ans level v [] fs x q p = p
all_and h d Ans level v (m ∷ ms) fs x q p = (q.0, q.1, all_and h d Ans level v ms fs x q.2 p)

-- a stage outlives itself
pub outlives_same : (h : History) (d : List Entry) (v : ℕ) (x : Stage) → Outlives h d v x x
outlives_same h d v x = record { term = omega arith; commit = omega arith; secured = λ t c s. s; holds = λ t n e p f. p }

-- what is held up to a place within the log is held as far as the log reaches
pub holds_all : {h : History} {d : List Entry} {limit : ℕ} {X : List Entry} {t n : ℕ} → n ≤ length X → HoldsUpTo h d limit X t n → HoldsUpTo h d limit X t (min n (length X))
holds_all {h} {d} {limit} {X} {t} {n} m q = let e : n ≡ min n (length X) = omega (arith, m) in subst (HoldsUpTo h d limit X t) e q

-- and with a greater limit on the decided places
pub holds_limit : {h : History} {d : List Entry} {a : ℕ} (b : ℕ) {X : List Entry} {t n : ℕ} → a ≤ b → HoldsUpTo h d a X t n → HoldsUpTo h d b X t n
holds_limit b m q = record { within = q.within; decided = q.decided; most = q.most; limited = omega (arith, q.limited, m); front = q.front; rest = q.rest }

-- only the replica changes, and what is pending stays
module _ {g : Group} {v : ℕ} {h : History} {b : SavedState} {r q : Replica} {d : List Entry} {w : List Envelope} where
  -- a step that changes the replica alone, keeps what is pending, and breaks no promise
  pub replica_step : Open h g v b r d w → IsHost h d (SecuredBut g v b) (HasAnswer w) v b q → r.pending ≡ q.pending → Outlives h d v (of_replica d r) (of_replica d q) → Open h g v b q d w
  replica_step o mine pending outlives =
      let grows = grows_none v h d (SecuredBut g v b) (SecuredBut g v b) (HasAnswer w) (HasAnswer w) (λ u t c s. s) (λ u t n a. a) in
      let same : to_be_saved b r ≡ to_be_saved b q = ap (λ p. elim p as (λ _. SavedState) [ None ↦ b | Some p ↦ merged b p.batch ]) pending in
      frame o (record {
        grows = grows;
        adds = adds_none o.common grows;
        mine = mine;
        told = λ m on from t. record {
          saved = t.saved;
          saving = subst (λ x. Tells h d (HasAnswer w) h.answer m.from m.to m.term m.body (of_batch d x)) same t.saving;
          now = tells_on (HasAnswer w) h.answer m.to m.term m.body (λ t. let l = o.common.levels m.from t in omega (arith, l.answer, l.saving))
              (subst (λ u. Outlives h d u (of_replica d r) (of_replica d q)) (sym from) outlives) t.now;
        };
        sent = λ m on. inl on;
      })

-- what of a replica its term, its vote, its commit index, its log and what it saves don't depend on
pub record Rest : Type 0 where
  pub role : Role
  pub leader : ℕ
  pub granted : List Bool
  pub next : List ℕ
  pub matched : List ℕ
  pub reads : Reads
  pub held : List Envelope
  pub assembly : List Chunk
  pub inbox : Option Inbox

-- this part of a replica
abbrev pub rest : Replica → Rest
rest r = record {
  role = r.role;
  leader = r.leader;
  granted = r.granted;
  next = r.next;
  matched = r.matched;
  reads = r.reads;
  held = r.held;
  assembly = r.assembly;
  inbox = r.inbox;
}

-- a replica with another such part
abbrev pub with_rest : Rest → Replica → Replica
with_rest x r = record r {
  role = x.role;
  leader = x.leader;
  granted = x.granted;
  next = x.next;
  matched = x.matched;
  reads = x.reads;
  held = x.held;
  assembly = x.assembly;
  inbox = x.inbox;
}

-- a step that changes this part alone owes what the replica holds, that it is a candidate or leader rightly, and the inbox
pub rest_step : {g : Group} {v : ℕ} {h : History} {b : SavedState} {r : Replica} {d : List Entry} {w : List Envelope} (x : Rest) → Open h g v b r d w
    → TellsAll h d (HasAnswer w) h.told v x.held (of_replica d r)
    → (x.role ≡ Candidate → IsCandidate h d (SecuredBut g v b) v (with_rest x r)) → (x.role ≡ Leader → IsLeader h d (HasAnswer w) v (with_rest x r))
    → ((s : Inbox) → x.inbox ≡ Some s → is_decided d s.received.index s.received.term ≡ true) → Open h g v b (with_rest x r) d w
rest_step {v = v} {h = h} {r = r} {d = d} x o tells candidate leader inbox =
    let a = o.mine in
    let s = a.stands in
    replica_step o
    (record {
      stands = record {
        saved = s.saved;
        saving = s.saving;
        now = s.now;
        first = s.first;
        second = s.second;
        later = s.later;
        taken = s.taken;
        stable = s.stable;
        ends = s.ends;
        from = s.from;
        on_disk = s.on_disk;
        candidate = candidate;
        leader = leader;
      };
      held = tells;
      waiting = a.waiting;
      inbox = inbox;
      covered = a.covered;
      based = a.based;
    })
    refl (outlives_same h d v (of_replica d r))

-- one more envelope is held, which tells what it says of the replica as it stands
pub holding : {g : Group} {v : ℕ} {h : History} {b : SavedState} {r : Replica} {d : List Entry} {w : List Envelope} (m : Envelope) → m.from ≡ v
    → Tells h d (HasAnswer w) h.told v m.to m.term m.body (of_replica d r) → Open h g v b r d w → Open h g v b (record r { held = r.held ++ m ∷ [] }) d w
holding {v = v} {h = h} {r = r} {d = d} {w = w} m from tells o =
    let s = o.mine.stands in
    rest_step (record (rest r) { held = r.held ++ m ∷ [] }) o (all_and h d (HasAnswer w) h.told v r.held (m ∷ []) (of_replica d r) o.mine.held (from, tells, tt)) s.candidate s.leader o.mine.inbox

-- a replica follows, whatever it was
pub follow_step : {g : Group} {v : ℕ} {h : History} {b : SavedState} {r : Replica} {d : List Entry} {w : List Envelope} (leader : ℕ) → Open h g v b r d w
    → Open h g v b (record r { role = Follower; leader = leader }) d w
follow_step {r = r} leader o = rest_step (record (rest r) { role = Follower; leader = leader }) o o.mine.held (λ e. absurd (cc)) (λ e. absurd (cc)) o.mine.inbox

-- the commit index rises within what is decided
pub commit_step : {g : Group} {v : ℕ} {h : History} {b : SavedState} {r : Replica} {d : List Entry} {w : List Envelope} {c : ℕ} → r.commit ≤ c → Agree c (whole d r.log.front r.log.entries) d
    → Open h g v b r d w → Open h g v b (record r { commit = c }) d w
commit_step {g} {v} {h} {b} {r} {d} {w} {c} more agree o =
    let a = o.mine in
    let s = a.stands in
    let k = s.taken in
    let n = s.now in
    let lives : Outlives h d v (of_replica d r) (of_replica d (record r { commit = c })) = record {
      term = omega arith;
      commit = omega arith;
      secured = λ t c s. s;
      holds = λ t n e p f. holds_limit c more p;
    } in
    replica_step o
    (record {
      stands = record {
        saved = s.saved;
        saving = s.saving;
        now = record {
          front = omega (arith, n.front, more);
          commit = agree;
          vote = n.vote;
          matches = λ j x y. (let z = n.matches j x y in (z.0, omega (arith, z.1, more)));
          terms = n.terms;
          keeps = n.keeps;
          ahead = n.ahead;
        };
        first = s.first;
        second = record { term = s.second.term; vote = s.second.vote; commit = omega (arith, s.second.commit, more); front = s.second.front };
        later = s.later;
        taken = k;
        stable = s.stable;
        ends = s.ends;
        from = s.from;
        on_disk = s.on_disk;
        candidate = s.candidate;
        leader = s.leader;
      };
      held = all_on (HasAnswer w) h.told r.held (λ t. omega arith) lives a.held;
      waiting = λ p e. let x = a.waiting p e in (x.0, all_on (HasAnswer w) h.saving p.envelopes (λ t. (o.common.levels v t).saving) lives x.1);
      inbox = a.inbox;
      covered = a.covered;
      based = a.based;
    })
    refl lives

-- a greater term is taken over, without a vote
pub term_step : {g : Group} {v : ℕ} {h : History} {b : SavedState} {r : Replica} {d : List Entry} {w : List Envelope} (t : ℕ) → r.term < t → Open h g v b r d w
    → Open h g v b (record r { term = t; vote = 0; role = Follower; leader = 0; granted = none_set; reads = closed r.reads }) d w
term_step {g} {v} {h} {b} {r} {d} {w} t more o =
    let q = record r { term = t; vote = 0; role = Follower; leader = 0; granted = none_set; reads = closed r.reads } in
    let a = o.mine in
    let s = a.stands in
    let k = s.taken in
    let n = s.now in
    let lives : Outlives h d v (of_replica d r) (of_replica d q) = record {
      term = omega (arith, more);
      commit = omega arith;
      secured = λ u c x. inl (⊎_elim (λ l. omega (arith, l, more)) (λ p. omega (arith, p.0, more)) x);
      holds = λ u m e p f. absurd (omega (arith, e, f, more));
    } in
    replica_step o
    (record {
      stands = record {
        saved = s.saved;
        saving = s.saving;
        now = record {
          front = n.front;
          commit = n.commit;
          vote = λ some. absurd (some refl);
          matches = n.matches;
          terms = λ i x y. ⊎_elim (λ l. inl (omega (arith, l, more))) (λ l. inr l) (n.terms i x y);
          keeps = n.keeps;
          ahead = λ u l. n.ahead u (omega (arith, l, more));
        };
        first = s.first;
        second = record { term = omega (arith, s.second.term, more); vote = λ e. absurd (omega (arith, e, s.second.term, more)); commit = s.second.commit; front = s.second.front };
        later = λ u l. s.later u (inl (⊎_elim (λ x. omega (arith, x, more)) (λ x. omega (arith, x.0, more)) l));
        taken = k;
        stable = s.stable;
        ends = s.ends;
        from = s.from;
        on_disk = s.on_disk;
        candidate = λ e. absurd (cc);
        leader = λ e. absurd (cc);
      };
      held = all_on (HasAnswer w) h.told r.held (λ t. omega arith) lives a.held;
      waiting = λ p e. let x = a.waiting p e in (x.0, all_on (HasAnswer w) h.saving p.envelopes (λ t. (o.common.levels v t).saving) lives x.1);
      inbox = a.inbox;
      covered = a.covered;
      based = a.based;
    })
    refl lives

-- what holds of a replica stays while something is done for each other host that keeps it
pub each_other_stays : (P : Replica → Type 0) (me : ℕ) (f : ℕ → Replica → Replica) → ((u : ℕ) (r : Replica) → u ≢ me → P r → P (f u r)) → (hosts : List ℕ) (r : Replica) → P r
    → P (each_other me f hosts r)
each_other_stays P me f step [] r p = p
each_other_stays P me f step (u ∷ us) r p =
    each_other_stays P me f step us (if u == me then r else f u r) (cond_both (u == me) r (f u r) P (λ _. p) (λ e. step u r (eqb-false u me e) p))
