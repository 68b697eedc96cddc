-- A candidate with a majority of saved votes leads: its reign joins those of before, with the log of its campaign.
use Rattle.std.proofs.Common.{◌≡◌, ◌≢◌, ◌⊎◌, ⊎_elim, ℕ, ◌<◌, ◌≤◌, List, ◌∷◌, length, true, false, refl, sym, ap, ◌∙◌, subst, arith, inl, inr}
use Rattle.std.specs.Prelude.{slice_set}
use Rattle.std.proofs.lemmas.Bool.{cases_lt}
use Rattle.std.proofs.lemmas.List.{get_or-set_other, get_or-set_same, get_or_past, length-set}
use Rattle.raft_safety.proofs.Argument.WholeLogs.{whole_length, saved_within}
use Rattle.host_ids.specs.declared.entry.Entry.{Entry}
use Rattle.raft_model.specs.declared.saved.SavedState.{SavedState}
use Rattle.wire_types.specs.declared.envelope.Envelope.{Envelope}
use Rattle.raft_model.specs.declared.role.Role.TheVariants.{Candidate}
use Rattle.raft_model.specs.declared.state.State.{State as Replica}
use Rattle.roster.specs.Roster.{at, all_at, is_set, is_majority}
use Rattle.raft_model.specs.Group.{Group, seat, term_of}
use Rattle.raft_model.specs.Replica.{crowned}
use Rattle.raft_safety.specs.History.{Reign, History, IsLed, Agree, IsOwn, IsSafe, IsStrict, Counts, Keeps}
use Rattle.raft_safety.specs.Replicas.{Stage, whole, of_batch, of_replica, to_be_saved, IsSound, IsCandidate}
use Rattle.raft_safety.specs.Invariant.{IsReign, IsVote, IsLost, IsHost, HasAnswer}
use Rattle.raft_safety.proofs.Argument.Quorums.{in_both}
use Rattle.raft_safety.proofs.Argument.Elected.{elected_strict}
use Rattle.raft_safety.proofs.Frame.Extends.{extends_none}
use Rattle.raft_safety.proofs.Frame.Growth.{Grows, strict_grown, vote_grown}
use Rattle.raft_safety.proofs.Frame.Common.{Adds}
use Rattle.raft_safety.proofs.Frame.Hosts.{sound_grown, tells_grown, tells_all_grown}
use Rattle.raft_safety.proofs.Frame.Opened.{SecuredBut, Open, frame}
use Rattle.raft_safety.proofs.Frame.Reigns.{later_grown, aligned_same, next_order, before_next}
use Rattle.raft_safety.proofs.Argument.Agreement.{term_agree, le_or}
use Rattle.raft_safety.proofs.Frame.Tables.{at_pair, at_there, at_elsewhere, pair_cases, none_matched}

module _ {g : Group} {v : ℕ} {h : History} {b : SavedState} {r : Replica} {d : List Entry} {w : List Envelope} (role : r.role ≡ Candidate) (majority : is_majority g.voters (is_set r.granted) ≡ true)
    (o : Open h g v b r d w) where
  -- which saved states secure which votes, from what the host has saved
  abbrev S : ℕ → ℕ → ℕ → Type 0
  S = SecuredBut g v b

  -- who has answered on the wire, in which term, for which place
  abbrev A : ℕ → ℕ → ℕ → Type 0
  A = HasAnswer w

  -- the term of the election
  abbrev t : ℕ
  t = r.term

  -- the host's whole log: the decided places up to its front, then its entries
  abbrev log : List Entry
  log = whole d r.log.front r.log.entries

  -- what is known of a candidate
  cand : IsCandidate h d S v r
  cand = o.mine.stands.candidate role

  -- the new reign, with the log of the campaign
  abbrev pub crown : Reign
  crown = record { term = t; leader = v; quorum = is_set r.granted; log = log; order = next_order h.reigns }

  -- the history with this reign, whose leader counts as holding its own log
  abbrev pub crowning : History
  crowning = record h { reigns = crown ∷ h.reigns; told = at_pair v t (length log) h.told }

  -- nobody else was elected in this term: a voter would have voted twice
  unled : (R : Reign) → IsLed h.reigns R → R.term ≢ t
  unled R led same =
      let x = o.common.reigns R led in
      let both = in_both g.voters (is_set r.granted) R.quorum majority x.majority in
      cand.new R led same (sym (x.votes both.0 both.2).0 ∙ ap (h.vote both.0) same ∙ (cand.granted both.0 both.1).0)

  -- it has not lost: the reign above it would share a voter with its own majority
  not_lost : IsLost h t v → ⊥
  not_lost lost =
      let both = in_both g.voters (is_set r.granted) lost.reign.quorum majority (o.common.reigns lost.reign lost.led).majority in
      let no : lost.reign.quorum both.0 ≡ false = lost.outside cand.some both.0 (cand.granted both.0 both.1).0 in
      absurd (cc)

  -- each entry of its log was written by a leader of the entry's term, with the same log up to it
  strict : IsStrict h log
  strict = subst (IsStrict h) cand.log (elected_strict o.common cand.some cand majority unled v cand.voted)

  -- no entry of its log is of its own term
  no_own : {n : ℕ} → IsOwn crown n → ⊥
  no_own {n} own = let x = strict n own.place own.within in unled x.0 x.1 (x.2 ∙ own.term)

  -- the host told of nothing in this term before
  told_none : h.told v t ≡ 0
  told_none = ⊎_elim (λ z. z) (λ x. absurd (unled x.reign x.led x.term)) (o.common.bounded v t)

  -- what it told before, it tells still
  told_more : (s : ℕ) → h.told v s ≤ crowning.told v s
  told_more s = ⊎_elim
      (λ p. let z : h.told v s ≡ 0 = ap (h.told v) p.second ∙ told_none in omega (arith, z))
      (λ n. let e : crowning.told v s ≡ h.told v s = at_elsewhere v t (length log) h.told v s n in omega (arith, e))
      (pair_cases v t v s)

  -- each other host keeps its part, and nothing that counts is lost
  grows : Grows v h crowning d d S S A A
  grows = record {
    decided = record { left = omega arith; right = omega arith; same = refl };
    votes = λ u s c some x e. e;
    new_votes = λ u s c some e. inl e;
    campaigns = λ u s c some e. (refl, refl);
    forward = λ R led. record { reign = R; led = inr led; extends = extends_none R };
    back = λ R led. ⊎_elim
        (λ e. inr (record {
          leader = ap (λ (Q : Reign). Q.leader) e;
          unled = λ Q q same. unled Q q (same ∙ ap (λ (Q : Reign). Q.term) e);
          order = λ Q q. (let x = before_next h h.reigns o.common.later Q q in let y : R.order ≡ next_order h.reigns = ap (λ (Q : Reign). Q.order) e in omega (arith, x, y));
        }))
        (λ l. inl (record { reign = R; led = l; extends = extends_none R }))
        led;
    others = λ R led other. inr led;
    told = λ u s other. at_elsewhere v t (length log) h.told u s (λ p. other p.first);
    saving = λ u s other. refl;
    answer = λ u s other. refl;
    new_told = λ n s m. ⊎_elim
        (λ p. inr (λ x l. o.mine.stands.later x (inl (omega (arith, l, p.second)))))
        (λ a. let e : crowning.told v s ≡ h.told v s = at_elsewhere v t (length log) h.told v s a in inl (omega (arith, m, e)))
        (pair_cases v t v s);
    new_answer = λ s. omega arith;
    decided_in = λ n m. omega arith;
    secured = λ u s c some x. x;
    heard = λ u s n a. a;
  }

  -- along its log the terms never fall
  monotone : (i n : ℕ) → i ≤ n → n ≤ length log → term_of log i ≤ term_of log n
  monotone i n m within =
      ⊎_elim
      (λ z. let e : i ≡ n = omega (arith, z, m) in let same : term_of log i ≡ term_of log n = ap (term_of log) e in omega (arith, same))
      (λ some.
      let x = strict (length log) (omega (arith, some, within)) (omega arith) in
      let a : term_of log i ≡ term_of x.0.log i = term_agree i x.3 (omega (arith, m, within)) in
      let c : term_of log n ≡ term_of x.0.log n = term_agree n x.3 within in
      omega (arith, a, c, (o.common.reigns x.0 x.1).monotone i n m (omega (arith, within, x.3.right))))
      (le_or n 0)

  -- the new reign has all that a reign must have
  reign : IsReign g.voters crowning S crown
  reign = record {
    some = cand.some;
    majority = majority;
    votes = cand.granted;
    begins = subst (λ X. Agree (length X) log X) (sym cand.log) (record { left = omega arith; right = omega arith; same = refl });
    strict = strict_grown o.common grows log strict;
    monotone = monotone;
    terms = λ n within. ⊎_elim (λ l. l) (λ l. absurd (not_lost l)) (subst (λ X. n ≤ length X → (term_of X n ≤ t) ⊎ IsLost h t v) cand.log (o.common.campaigns t v n) within);
  }

  -- it keeps what its voters held, as each of them saw when it voted
  keeps : (Q : Reign) (n u : ℕ) → IsLed crowning.reigns Q → Q.term < t → IsOwn Q n → IsSafe h.reigns Q n → is_set r.granted u ≡ true → n ≤ crowning.told u Q.term → Agree n log Q.log
  keeps Q n u led below own safe granted most =
      ⊎_elim
      (λ e. let same : Q.term ≡ t = ap (λ (P : Reign). P.term) e in absurd (omega (arith, same, below)))
      (λ l.
      let vote : IsVote h d S u t v = o.common.votes u t v cand.some (cand.granted u granted).0 in
      let e : crowning.told u Q.term ≡ h.told u Q.term = at_elsewhere v t (length log) h.told u Q.term (λ p. omega (arith, p.second, below)) in
      subst (λ X. Agree n X Q.log) cand.log (vote.saw unled Q n (record { led = l; own = own; most = omega (arith, e, most); safe = safe }) below).there)
      led

  -- what the event adds to the sentences that name no replica holds
  adds : Adds g.voters v h crowning d d S
  adds = record {
    reigns = λ R led new. ⊎_elim (λ e. subst (IsReign g.voters crowning S) (sym e) reign) (λ l. absurd (new.unled R l refl)) led;
    later = (keeps, λ Q q. (unled Q q, before_next h h.reigns o.common.later Q q), later_grown o.common grows h.reigns h.reigns (aligned_same h.reigns) (λ R led. led) o.common.later);
    decided = λ n x y. absurd (omega (arith, x, y));
    lowered = λ n x y. inl (refl, refl);
    strict = λ n x y. absurd (omega (arith, x, y));
    votes = λ s c some voted last. vote_grown o.common grows some voted (o.common.votes v s c some voted);
    campaigns = λ s c. inl (refl, refl);
    levels = λ s. let l = o.common.levels v s in record { answer = l.answer; saving = omega (arith, l.saving, told_more s) };
    bounded = λ s. ⊎_elim
        (λ p. let e : crowning.told v s ≡ length log = ap (crowning.told v) p.second ∙ at_there v t (length log) h.told in
        inr (record { reign = crown; led = inl refl; term = sym p.second; most = omega (arith, e) }))
        (λ n. let e : crowning.told v s ≡ h.told v s = at_elsewhere v t (length log) h.told v s n in
        ⊎_elim (λ z. inl (e ∙ z)) (λ x. inr (record { reign = x.reign; led = inr x.led; term = x.term; most = omega (arith, e, x.most) })) (o.common.bounded v s))
        (pair_cases v t v s);
  }

  -- a stage that was sound is so still
  sound : {level : ℕ → ℕ → ℕ} → ((s : ℕ) → level v s ≤ h.told v s) → {x : Stage} → IsSound h d level v x → IsSound crowning d level v x
  sound {level} below {x} = sound_grown o.common grows level (λ t c some e. e) (λ s. refl) below x

  -- what it counts as held beyond what it did is of its own term, and there is none yet
  keeps_now : (R : Reign) (n : ℕ) → Counts crowning crowning.told v R n → Keeps R n log
  keeps_now R n c =
      ⊎_elim
      (λ e. absurd (no_own (subst (λ Q. IsOwn Q n) e c.own)))
      (λ l.
      let e : crowning.told v R.term ≡ h.told v R.term = at_elsewhere v t (length log) h.told v R.term (λ p. unled R l p.second) in
      (sound (λ s. omega arith) o.mine.stands.now).keeps R n (record { led = c.led; own = c.own; most = omega (arith, e, c.most); safe = c.safe }))
      c.led

  -- what it has saved is in its log
  mine : at (slice_set (all_at 0) v r.stable) v ≤ length log
  mine =
      let s = o.mine.stands in
      let within : r.stable ≤ length log = saved_within (let l = whole_length d r.log.front r.log.entries (omega (arith, s.now.front, s.now.commit.right)) in omega (arith, l)) s.on_disk in
      ⊎_elim
      (λ l. let e : at (slice_set (all_at 0) v r.stable) v ≡ r.stable = get_or-set_same (all_at 0) v r.stable 0 l in omega (arith, e, within))
      (λ l. let e : at (slice_set (all_at 0) v r.stable) v ≡ 0 = get_or_past (slice_set (all_at 0) v r.stable) v 0 (let n = length-set (all_at 0) v r.stable in omega (arith, n, l)) in omega
      (arith, e))
      (cases_lt v 10)

  -- the host's part holds, as a leader
  host : IsHost crowning d S A v b (crowned (seat g v) r)
  host =
      let a = o.mine in
      let s = a.stands in
      let k = s.taken in
      let n = sound (λ x. omega arith) s.now in
      record {
        stands = record {
          saved = sound (λ x. let l = o.common.levels v x in omega (arith, l.answer, l.saving)) s.saved;
          saving = sound (λ x. (o.common.levels v x).saving) s.saving;
          now = record {
            front = n.front;
            commit = n.commit;
            vote = n.vote;
            matches = n.matches;
            terms = n.terms;
            keeps = keeps_now;
            ahead = λ x l. at_elsewhere v t (length log) h.told v x (λ p. omega (arith, p.second, l)) ∙ n.ahead x l;
          };
          first = s.first;
          second = s.second;
          later = s.later;
          taken = k;
          stable = s.stable;
          ends = s.ends;
          from = s.from;
          on_disk = s.on_disk;
          candidate = λ e. absurd (cc);
          leader = λ e. record {
            reign = crown;
            led = inl refl;
            term = refl;
            leader = refl;
            log = refl;
            told = at_there v t (length log) h.told;
            saving = λ i own m. absurd (no_own own);
            mine = inl mine;
            own = λ i own m. absurd (no_own own);
            matched = λ u other. inl (get_or-set_other (all_at 0) v u r.stable 0 other ∙ none_matched u);
          };
        };
        held = tells_all_grown o.common grows crowning.told h.told v (λ t c some e. e) told_more r.held (of_replica d r) a.held;
        waiting = λ p e.
            let x = a.waiting p e in
            let all = tells_all_grown o.common grows h.saving h.saving v (λ t c some e. e) (λ y. omega arith) p.envelopes in
            (all (of_batch d (to_be_saved b r)) x.0, all (of_replica d r) x.1);
        inbox = a.inbox;
        covered = a.covered;
        based = a.based;
      }

  -- a candidate with a majority leads
  pub crown_step : Open crowning g v b (crowned (seat g v) r) d w
  crown_step =
      frame o (record {
        grows = grows;
        adds = adds;
        mine = host;
        told = λ m on from x.
            let T = tells_grown o.common grows h.answer h.answer m.from (λ t c some e. e) (λ y. omega arith) m.to m.term m.body in
            record { saved = T (of_batch d b) x.saved; saving = T (of_batch d (to_be_saved b r)) x.saving; now = T (of_replica d r) x.now };
        sent = λ m on. inl on;
      })
