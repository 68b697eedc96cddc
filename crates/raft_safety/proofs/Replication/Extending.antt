-- A leader appends an entry of its term: its reign's log grows, and it tells itself.
use Rattle.std.proofs.Common.{◌≡◌, ◌≢◌, ⊎_elim, ℕ, suc, ◌+◌, ◌-◌, ◌≤◌, List, [], ◌∷◌, ◌++◌, length, take, true, false, refl, sym, ap, ◌∙◌, subst, arith, inl, inr, ◌==◌, if◌then◌else◌, length-append}
use Rattle.std.proofs.Common.{min}
use Rattle.std.proofs.lemmas.Bool.{cases_eq, eqb-true, eq-eqb, ne_eqb}
use Rattle.std.proofs.lemmas.List.{append_assoc}
use Rattle.host_ids.specs.declared.entry.Entry.{Entry}
use Rattle.host_ids.specs.declared.entry.Key.{Key}
use Rattle.host_ids.specs.declared.proposal.Proposal.{Proposal}
use Rattle.raft_model.specs.declared.saved.SavedState.{SavedState}
use Rattle.wire_types.specs.declared.envelope.Envelope.{Envelope}
use Rattle.raft_model.specs.declared.state.State.{State as Replica}
use Rattle.raft_model.specs.declared.role.Role.TheVariants.{Leader, Candidate}
use Rattle.raft_model.specs.Replica.{appended, own_entry}
use Rattle.raft_model.specs.Group.{Group, term_of}
use Rattle.log_view.specs.Log.{last, term_in}
use Rattle.raft_safety.specs.History.{Reign, History, IsLed, Agree, IsOwn, IsStrict, MatchesWithin, Keeps, HoldsUpTo, IsOld}
use Rattle.raft_safety.specs.Replicas.{Stage, whole, of_batch, of_replica, to_be_saved, IsSound, IsLeader, Stands, IsSavedLog}
use Rattle.raft_safety.specs.Envelopes.{TellsAll}
use Rattle.raft_safety.specs.Invariant.{Common, IsHost, HasAnswer}
use Rattle.raft_safety.proofs.Argument.Agreement.{agree_sym, agree_trans, agree_less, agree_none, agree_longer, term_agree, le_or}
use Rattle.raft_safety.proofs.Frame.Extends.{Extends, extends_none}
use Rattle.raft_safety.proofs.Frame.Growth.{IsLast, Grows, extends_own, vote_grown, counted_at, old_grown, old_less}
use Rattle.raft_safety.proofs.Frame.Reigns.{Aligned, aligned_forward, aligned_back, later_grown}
use Rattle.raft_safety.proofs.Frame.Common.{Adds, common_grown}
use Rattle.raft_safety.proofs.Frame.Hosts.{sound_grown, tells_grown, tells_all_grown}
use Rattle.raft_safety.proofs.Frame.Opened.{SecuredBut, frame}
use Rattle.raft_safety.proofs.Frame.Words.{Outlives, tells_on, all_on}
use Rattle.raft_safety.proofs.Argument.WholeLogs.{whole_length, saved_less}
use Rattle.raft_safety.proofs.Replication.Sending.{Leads}
use Rattle.roster.specs.Roster.{at}
use Rattle.raft_safety.proofs.Frame.Tables.{at_pair, at_there, at_elsewhere}
use Rattle.raft_safety.proofs.Argument.Decided.{same_reign}

-- the reigns with another log for one term
abbrev pub with_log : List Reign → ℕ → List Entry → List Reign
with_log [] t L = []
with_log (R ∷ Rs) t L = (if R.term == t then record R { log = L } else R) ∷ with_log Rs t L

-- the term of the last entry, by the search through the entries
last_in : (xs : List Entry) (e : Entry) → term_in (xs ++ e ∷ []) (length xs) ≡ e.term
last_in [] e = refl
last_in (x ∷ xs) e = last_in xs e

-- the last entry's term is found at its place
last_of : (xs : List Entry) (e : Entry) → term_of (xs ++ e ∷ []) (length xs + 1) ≡ e.term
last_of xs e = let s : length xs + 1 ≡ suc (length xs) = omega arith in ap (term_of (xs ++ e ∷ [])) s ∙ last_in xs e

-- an entry of its own term may be added to a reign's log
pub extends_more : (R : Reign) (e : Entry) → e.term ≡ R.term → Extends R (record R { log = R.log ++ e ∷ [] })
extends_more R e same = record {
  term = refl;
  leader = refl;
  quorum = refl;
  order = refl;
  log = agree_longer (e ∷ []) (record { left = omega arith; right = omega arith; same = refl });
  new = λ k a b.
      let l : length (R.log ++ e ∷ []) ≡ length R.log + 1 = length-append R.log (e ∷ []) in
      let place : k ≡ length R.log + 1 = omega (arith, a, b, l) in
      subst (λ n. term_of (R.log ++ e ∷ []) n ≡ R.term) (sym place) (last_of R.log e ∙ same);
}

-- where no term is led twice, only the reign itself has its term
module _ (rs : List Reign) (R : Reign) (e : Entry) (same : e.term ≡ R.term) (one : (Q : Reign) → IsLed rs Q → Q.term ≡ R.term → Q ≡ R) where
  -- the longer log
  abbrev L : List Entry
  L = R.log ++ e ∷ []

  -- each reign is extended by what stands in its place
  grown_one : (Q : Reign) → (Q.term ≡ R.term → Q ≡ R) → Extends Q (if Q.term == R.term then record Q { log = L } else Q)
  grown_one Q is = elim (Q.term == R.term) as (λ x. (Q.term == R.term) ≡ x → Extends Q (if x then record Q { log = L } else Q)) [
    | true ↦ λ t. subst (λ S. Extends S (record S { log = L })) (sym (is (eqb-true Q.term R.term t))) (extends_more R e same)
    | false ↦ λ t. extends_none Q
  ] refl

-- reign for reign the list is extended, where one of them grows by an entry of its term
aligned_more : (rs : List Reign) (R : Reign) (e : Entry) (same : e.term ≡ R.term) (one : (Q : Reign) → IsLed rs Q → Q.term ≡ R.term → Q ≡ R) → Aligned rs (with_log rs R.term (R.log ++ e ∷ []))
aligned_more [] R e same one = tt
aligned_more (Q ∷ rs) R e same one = (grown_one (Q ∷ rs) R e same one Q (one Q (inl refl)), aligned_more rs R e same (λ P p. one P (inr p)))

-- a reign, with another log if it is the one of the term
abbrev replaced : ℕ → List Entry → Reign → Reign
replaced t X Q = if Q.term == t then record Q { log = X } else Q

-- a reign of another term is left as it was
not_replaced : (t : ℕ) (X : List Entry) (Q : Reign) → (Q.term ≡ t → ⊥) → Q ≡ replaced t X Q
not_replaced t X Q off = ap (λ x. let T : Reign = if x then record Q { log = X } else Q in T) (sym (ne_eqb Q.term t off))

-- the reign of the term has the other log
is_replaced : (t : ℕ) (X : List Entry) (Q : Reign) → Q.term ≡ t → record Q { log = X } ≡ replaced t X Q
is_replaced t X Q e = ap (λ x. let T : Reign = if x then record Q { log = X } else Q in T) (sym (eq-eqb Q.term t e))

-- the reigns of other leaders are left as they were
others_more : (rs : List Reign) (R : Reign) (X : List Entry) (one : (Q : Reign) → IsLed rs Q → Q.term ≡ R.term → Q ≡ R) (P : Reign) → IsLed rs P → P.leader ≢ R.leader → IsLed (with_log rs R.term X) P
others_more [] R X one P led other = led
others_more (Q ∷ rs) R X one P led other =
    ⊎_elim
    (λ here.
    let off : Q.term ≡ R.term → ⊥ = (λ t. let same : P ≡ R = here ∙ one Q (inl refl) t in other (ap (λ (S : Reign). S.leader) same)) in
    let kept : Q ≡ replaced R.term X Q = not_replaced R.term X Q off in
    inl (here ∙ kept))
    (λ more. inr (others_more rs R X (λ S s. one S (inr s)) P more other))
    led

-- the reign of the term is listed with its other log
led_more : (rs : List Reign) (R : Reign) (X : List Entry) → IsLed rs R → IsLed (with_log rs R.term X) (record R { log = X })
led_more [] R X led = led
led_more (Q ∷ rs) R X led =
    ⊎_elim
    (λ here.
    let a : record R { log = X } ≡ record Q { log = X } = ap (λ (S : Reign). let T : Reign = record S { log = X } in T) here in
    let b : record Q { log = X } ≡ replaced R.term X Q = is_replaced R.term X Q (ap (λ (S : Reign). S.term) (sym here)) in
    inl (a ∙ b))
    (λ more. inr (led_more rs R X more))
    led

-- a strict log matches with no decided front
pub matches_strict : (h : History) (d : List Entry) (most : ℕ) (X : List Entry) → IsStrict h X → MatchesWithin h d most X
matches_strict h d most X s n a b = let r = s n a b in (
  record {
    decided = 0;
    most = omega arith;
    front = agree_none X d;
    rest = λ l. (r.0, r.1, r.2, record { reaches = r.3.right; same = r.3.same });
  },
  omega arith,
)

module _ {g : Group} {v : ℕ} {h : History} {b : SavedState} {r : Replica} {d : List Entry} {w : List Envelope} (o : Leads h g v b r d w) (key : Key) (p : Proposal) where
  -- what is known of the host's stages
  abbrev s : Stands h d (SecuredBut g v b) (HasAnswer w) v b r
  s = o.open_group.mine.stands

  -- the sentences that name no replica
  abbrev i : Common g.voters h d (SecuredBut g v b)
  i = o.open_group.common

  -- what is known of a leader
  abbrev l : IsLeader h d (HasAnswer w) v r
  l = s.leader o.role

  -- the entry that is appended
  abbrev e : Entry
  e = own_entry r key p

  -- the host's whole log: the decided places up to its front, then its entries
  abbrev X : List Entry
  X = whole d r.log.front r.log.entries

  -- the leader's reign with the entry
  abbrev S : Reign
  S = record l.reign { log = l.reign.log ++ e ∷ [] }

  -- the replica with the entry
  abbrev q : Replica
  q = appended key p r

  -- the history with the longer reign, whose leader counts as holding all of it
  abbrev k : History
  k = record h { reigns = with_log h.reigns l.reign.term S.log; told = at_pair v r.term (length S.log) h.told }

  -- no other reign is of the leader's term
  one : (Q : Reign) → IsLed h.reigns Q → Q.term ≡ l.reign.term → Q ≡ l.reign
  one Q led same = same_reign i Q l.reign led l.led same

  -- reign for reign the list is extended
  aligned : Aligned h.reigns k.reigns
  aligned = aligned_more h.reigns l.reign e (sym l.term) one

  -- the reign's log is one longer
  longer : length S.log ≡ length l.reign.log + 1
  longer = length-append l.reign.log (e ∷ [])

  -- each other host keeps its part, and nothing that counts is lost
  grows : Grows v h k d d (SecuredBut g v b) (SecuredBut g v b) (HasAnswer w) (HasAnswer w)
  grows = record {
    decided = record { left = omega arith; right = omega arith; same = refl };
    votes = λ u t c some s x. x;
    new_votes = λ u t c some x. inl x;
    campaigns = λ u t c some x. (refl, refl);
    forward = aligned_forward h.reigns k.reigns aligned;
    back = λ Q led. inl (aligned_back h.reigns k.reigns aligned Q led);
    others = λ Q led other. others_more h.reigns l.reign S.log one Q led (λ x. other (x ∙ l.leader));
    told = λ u t other. at_elsewhere v r.term (length S.log) h.told u t (λ p. other p.first);
    saving = λ u t other. refl;
    answer = λ u t other. refl;
    new_told = λ n t m. ⊎_elim
        (λ x. inr (subst (λ u. IsLast h v u) (sym x) (λ u l. s.later u (inl l))))
        (λ off. inl (let x : k.told v t ≡ h.told v t = at_elsewhere v r.term (length S.log) h.told v t (λ p. off p.second) in omega (arith, x, m)))
        (cases_eq t r.term);
    new_answer = λ t. omega arith;
    decided_in = λ n m. omega arith;
    secured = λ u t c some x. x;
    heard = λ u t n x. x;
  }

  -- the longer reign is listed
  led : IsLed k.reigns S
  led = led_more h.reigns l.reign S.log l.led

  -- the leader counts as holding all of it
  told_mine : k.told v r.term ≡ length S.log
  told_mine = at_there v r.term (length S.log) h.told

  -- what it told before, it tells still
  told_more : (t : ℕ) → h.told v t ≤ k.told v t
  told_more t = ⊎_elim
      (λ x. subst (λ u. h.told v u ≤ k.told v u) (sym x) (omega (arith, told_mine, l.told, longer)))
      (λ off. let y : k.told v t ≡ h.told v t = at_elsewhere v r.term (length S.log) h.told v t (λ p. off p.second) in omega (arith, y))
      (cases_eq t r.term)

  -- what the event adds to the sentences that name no replica holds
  adds : Adds g.voters v h k d d (SecuredBut g v b)
  adds = record {
    reigns = λ Q now new. let x = aligned_back h.reigns k.reigns aligned Q now in absurd (new.unled x.reign x.led (sym x.extends.term));
    later = later_grown i grows h.reigns k.reigns aligned (λ Q x. x) i.later;
    decided = λ n x y. absurd (omega (arith, x, y));
    lowered = λ n a b. inl (refl, refl);
    strict = λ n x y. absurd (omega (arith, x, y));
    votes = λ t c some voted last. vote_grown i grows some voted (i.votes v t c some voted);
    campaigns = λ t c. inl (refl, refl);
    levels = λ t. let x = i.levels v t in record { answer = x.answer; saving = omega (arith, x.saving, told_more t) };
    bounded = λ t. ⊎_elim
        (λ x. inr (record { reign = S; led = led; term = l.term ∙ sym x; most = subst (λ u. k.told v u ≤ length S.log) (sym x) (omega (arith, told_mine)) }))
        (λ off.
        let y : k.told v t ≡ h.told v t = at_elsewhere v r.term (length S.log) h.told v t (λ p. off p.second) in
        ⊎_elim (λ z. inl (y ∙ z))
        (λ x. let f = aligned_forward h.reigns k.reigns aligned x.reign x.led in inr (record {
          reign = f.reign;
          led = f.led;
          term = f.extends.term ∙ x.term;
          most = omega (arith, y, x.most, f.extends.log.left);
        }))
        (i.bounded v t))
        (cases_eq t r.term);
  }

  -- the sentences that name no replica hold
  common : Common g.voters k d (SecuredBut g v b)
  common = common_grown i grows adds

  -- the whole log of the replica with the entry
  log_now : X ++ e ∷ [] ≡ whole d q.log.front q.log.entries
  log_now = append_assoc (take r.log.front d) r.log.entries (e ∷ [])

  -- the longer reign's log, by the host's whole log
  log_reign : S.log ≡ X ++ e ∷ []
  log_reign = ap (λ xs. xs ++ e ∷ []) l.log

  -- the host's present stage is sound
  sound : IsSound k d k.told v (record { term = r.term; vote = r.vote; commit = r.commit; front = r.log.front; log = X ++ e ∷ [] })
  sound =
      let n = s.now in
      let R = common.reigns S led in
      let strict : IsStrict k (X ++ e ∷ []) = subst (λ xs. IsStrict k xs) log_reign R.strict in
      record {
        front = n.front;
        commit = agree_longer (e ∷ []) n.commit;
        vote = n.vote;
        matches = matches_strict k d r.commit (X ++ e ∷ []) strict;
        ahead = λ t m. at_elsewhere v r.term (length S.log) h.told v t (λ p. omega (arith, p.second, m)) ∙ s.now.ahead t m;
        terms = λ j a c. inl (subst (λ xs. j ≤ length xs → term_of xs j ≤ r.term) log_reign (λ m. let t = R.terms j m in omega (arith, t, l.term)) c);
        keeps = λ Q j c. ⊎_elim
            (λ same.
            let mine : Q ≡ S = same_reign common Q S c.led led (same ∙ sym l.term) in
            subst (λ T. Keeps T j (X ++ e ∷ [])) (sym mine) (subst (λ xs. Keeps S j xs) log_reign
            (let own : IsOwn S j = subst (λ T. IsOwn T j) mine c.own in
            record {
              there = record { left = own.within; right = own.within; same = refl };
              clean = λ m a z. let t = R.monotone j m a z in omega (arith, t, own.term);
            })))
            (λ off.
            let y : k.told v Q.term ≡ h.told v Q.term = at_elsewhere v r.term (length S.log) h.told v Q.term (λ p. off p.second) in
            let x = counted_at i grows (λ t. omega arith) (record { led = c.led; own = c.own; most = omega (arith, y, c.most); safe = c.safe }) in
            let kept = n.keeps x.reign j x.counts in
            let below : Q.term ≤ r.term = ⊎_elim (λ m. m) (λ m. let z : h.told v Q.term ≡ 0 = s.now.ahead Q.term m in absurd (omega (arith, z, y, c.most, c.own.place))) (le_or Q.term r.term) in
            let there : Agree j X Q.log = agree_trans kept.there (agree_sym (agree_less j kept.there.right x.extends.log)) in
            record {
              there = agree_longer (e ∷ []) there;
              clean = λ m a z. ⊎_elim
                  (λ old.
                  let t : term_of (X ++ e ∷ []) m ≡ term_of X m = term_agree m (agree_longer (e ∷ []) (record { left = omega arith; right = omega arith; same = refl })) old in
                  omega (arith, t, kept.clean m a old, x.extends.term))
                  (λ past.
                  let len : length (X ++ e ∷ []) ≡ length X + 1 = length-append X (e ∷ []) in
                  let place : m ≡ length X + 1 = omega (arith, past, z, len) in
                  subst (λ f. Q.term ≤ term_of (X ++ e ∷ []) f) (sym place) (let t : term_of (X ++ e ∷ []) (length X + 1) ≡ r.term = last_of X e in omega (arith, t, below)))
                  (le_or m (length X));
            })
            (cases_eq Q.term r.term);
      }

  -- what the replica before could tell, the replica with the entry can
  lives : Outlives k d v (of_replica d r) (of_replica d q)
  lives = record {
    term = omega arith;
    commit = omega arith;
    secured = λ t c x. x;
    holds = λ t n same x f. subst (λ xs. HoldsUpTo k d r.commit xs t (min n (length xs))) (log_reign ∙ log_now) (record {
      within = omega arith;
      decided = 0;
      most = omega arith;
      limited = omega arith;
      front = agree_none S.log d;
      rest = λ z. (S, led, l.term ∙ same, record { reaches = omega arith; same = refl });
    });
  }

  -- the whole log ends where the log says
  len : length X ≡ last r.log
  len = whole_length d r.log.front r.log.entries (omega (arith, s.now.front, s.now.commit.right))

  -- what is unchanged since it was saved stays so when an entry is added
  saved_longer : {n : ℕ} (m : ℕ) {xs : List Entry} → m ≤ n → m ≤ last r.log → IsSavedLog n r.log.front xs X → IsSavedLog m r.log.front xs (whole d r.log.front q.log.entries)
  saved_longer m less within =
      let long = whole_length d r.log.front (r.log.entries ++ e ∷ []) (omega (arith, s.now.front, s.now.commit.right)) in
      saved_less (omega (arith, len)) (omega (arith, long)) (omega arith) less
      (subst (λ xs. Agree m xs X) log_now (agree_longer (e ∷ []) (record { left = omega (arith, within, len); right = omega (arith, within, len); same = refl })))

  -- an answer that need not count as held
  still : (n : ℕ) → IsOld h d v r.term n → IsOld k d v r.term n
  still n z = old_grown i grows v r.term n z

  -- an own entry within the old log was one before
  own_before : {n : ℕ} → IsOwn S n → n ≤ last r.log → IsOwn l.reign n
  own_before own m = extends_own (extends_more l.reign e (sym l.term)) own (let x = ap (λ xs. length xs) l.log in omega (arith, m, x, len))

  -- what envelopes in hand told, they still tell
  tells : (level now : ℕ → ℕ → ℕ) → ((t : ℕ) → level v t ≤ now v t) → (es : List Envelope) (x : Stage) → TellsAll h d (HasAnswer w) level v es x → TellsAll k d (HasAnswer w) now v es x
  tells level now more = tells_all_grown i grows now level v (λ t c some e. e) more

  -- a stage that was sound is so still
  stage : (now : ℕ → ℕ → ℕ) {before : ℕ → ℕ → ℕ} → ((t : ℕ) → now v t ≡ before v t) → ((t : ℕ) → before v t ≤ h.told v t) → {x : Stage} → IsSound h d before v x → IsSound k d now v x
  stage now = sound_grown i grows now (λ t c some e. e)

  -- the host's part holds
  mine : IsHost k d (SecuredBut g v b) (HasAnswer w) v b q
  mine =
      let a = o.open_group.mine in
      let lv = i.levels v in
      let tk = s.taken in
      record {
        stands = record {
          saved = stage h.answer (λ t. refl) (λ t. omega (arith, (lv t).answer, (lv t).saving)) s.saved;
          saving = stage h.saving (λ t. refl) (λ t. (lv t).saving) s.saving;
          now = subst (λ xs. IsSound k d k.told v (record { term = r.term; vote = r.vote; commit = r.commit; front = r.log.front; log = xs })) log_now sound;
          first = s.first;
          second = record { term = s.second.term; vote = s.second.vote; commit = s.second.commit; front = s.second.front };
          later = s.later;
          taken = record { term = tk.term; vote = tk.vote; commit = tk.commit; front = tk.front; tail = inl (let n = length-append r.log.entries (e ∷ []) in omega (arith, n)) };
          stable = omega (arith, s.stable);
          ends = (let n = length-append r.log.entries (e ∷ []) in omega (arith, n));
          from = saved_longer (q.from - 1) (omega arith) (omega arith) s.from;
          on_disk = saved_longer q.stable (omega arith) (omega arith) s.on_disk;
          candidate = λ x. let y : Leader ≡ Candidate = sym o.role ∙ x in absurd (cc);
          leader = λ x. record {
            reign = S;
            led = led;
            term = l.term;
            leader = l.leader;
            log = log_reign ∙ log_now;
            told = told_mine;
            saving = λ n own m. l.saving n (own_before own (omega (arith, m))) (omega (arith, m));
            mine = ⊎_elim (λ m. inl (omega (arith, m, longer))) (λ z. inr (still (at r.matched v) z)) l.mine;
            own = λ n own m. ⊎_elim
                (λ in_log. ⊎_elim (λ c. inl c) (λ z. inr (still n z)) (l.own n (own_before own (let y = ap (λ xs. length xs) l.log in omega (arith, m, in_log, y, len))) m))
                (λ z. inr (still n (old_less h d v r.term n (at r.matched v) m z)))
                l.mine;
            matched = l.matched;
          };
        };
        held = all_on (HasAnswer w) k.told r.held (λ t. omega arith) lives (tells h.told k.told told_more r.held (of_replica d r) a.held);
        waiting = λ pe x. let y = a.waiting pe x in (
          tells h.saving h.saving (λ t. omega arith) pe.envelopes (of_batch d (to_be_saved b r)) y.0,
          all_on (HasAnswer w) h.saving pe.envelopes (λ t. omega (arith, (lv t).saving, told_more t)) lives (tells h.saving h.saving (λ t. omega arith) pe.envelopes (of_replica d r) y.1),
        );
        inbox = a.inbox;
        covered = omega (arith, a.covered, s.stable);
        based = a.based;
      }

  -- a leader appends an entry of its term
  pub appended_step : Leads k g v b q d w
  appended_step = record {
    role = o.role;
    open_group = frame o.open_group (record {
      grows = grows;
      adds = adds;
      mine = mine;
      told = λ m on from t.
          let T = tells_grown i grows h.answer h.answer m.from (λ t c some e. e) (λ t. omega arith) m.to m.term m.body in
          record {
            saved = T (of_batch d b) t.saved;
            saving = T (of_batch d (to_be_saved b r)) t.saving;
            now = tells_on (HasAnswer w) h.answer m.to m.term m.body
                (λ t. let lv = i.levels m.from t in subst (λ u. h.answer u t ≤ h.told u t → h.answer u t ≤ k.told u t) (sym from) (λ z. (let y = told_more t in omega (arith, y, z)))
                (omega (arith, lv.answer, lv.saving)))
                (subst (λ u. Outlives k d u (of_replica d r) (of_replica d q)) (sym from) lives) (T (of_replica d r) t.now);
          };
      sent = λ m on. inl on;
    });
  }
