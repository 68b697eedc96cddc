-- A follower takes a stretch of the leader's log, and tells so.
use Rattle.std.proofs.Common.{◌≡◌, ◌≢◌, ◌⊎◌, ⊎_elim, ℕ, ◌+◌, ◌-◌, ◌<◌, ◌≤◌, List, [], length, drop, max, refl, sym, ap, ◌∙◌, subst, arith, inl, inr, min}
use Rattle.std.proofs.lemmas.Bool.{cases_eq, cases_order}
use Rattle.std.proofs.lemmas.List.{length-drop}
use Rattle.host_ids.specs.declared.entry.Entry.{Entry}
use Rattle.raft_model.specs.declared.saved.SavedState.{SavedState}
use Rattle.wire_types.specs.declared.envelope.Envelope.{Envelope}
use Rattle.raft_model.specs.declared.state.State.{State as Replica}
use Rattle.raft_model.specs.declared.role.Role.TheVariants.{Follower}
use Rattle.raft_model.specs.Group.{Group, term_of}
use Rattle.raft_safety.specs.History.{Reign, History, IsLed, Agree, IsOwn, IsSafe, MatchesWithin, Keeps, Counts, SameFrom}
use Rattle.raft_safety.specs.Replicas.{Stage, whole, of_batch, of_replica, to_be_saved, IsSound, IsSavedLog, Stands}
use Rattle.raft_safety.specs.Invariant.{IsDecided, HasAnswer}
use Rattle.raft_safety.proofs.Argument.Agreement.{agree_sym, agree_trans, agree_less, agree_none, term_agree, glue, le_or}
use Rattle.raft_safety.proofs.Argument.Decided.{decided_safe, same_reign}
use Rattle.raft_safety.proofs.Frame.Extends.{extends_none}
use Rattle.raft_safety.proofs.Frame.Growth.{IsLast, Grows, vote_grown, within_grown}
use Rattle.raft_safety.proofs.Frame.Reigns.{later_grown, aligned_same}
use Rattle.raft_safety.proofs.Frame.Common.{Adds}
use Rattle.raft_safety.proofs.Frame.Hosts.{sound_grown}
use Rattle.raft_safety.proofs.Frame.Opened.{SecuredBut, Open}
use Rattle.raft_safety.proofs.Frame.Words.{Outlives}
use Rattle.raft_safety.proofs.Frame.Moves.{moved_step}
use Rattle.raft_safety.proofs.Argument.Stretches.{from_less, from_further, from_trans, from_agree, from_term}
use Rattle.raft_safety.proofs.Argument.WholeLogs.{whole_of, saved_less}
use Rattle.raft_safety.proofs.Frame.Tables.{at_pair, at_there, at_elsewhere}

-- a log that a follower may take: what is committed, then the reign's log up to a place, and no less of the reign's log than before
pub record CanTake (h : History) (b : SavedState) (r : Replica) (d : List Entry) (R : Reign) (n : ℕ) (log : List Entry) (from stable : ℕ) : Type 0 where
  -- the place is after the commit index, and within the log
  pub low : r.commit < n
  pub long : n ≤ length log
  pub begins : Agree r.commit log (whole d r.log.front r.log.entries)
  pub goes_on : SameFrom r.commit n log R.log
  -- what the log held of the reign's, it holds still
  pub kept : (m : ℕ) → m ≤ length (whole d r.log.front r.log.entries) → SameFrom r.commit m (whole d r.log.front r.log.entries) R.log → Agree m log (whole d r.log.front r.log.entries)
  -- after the commit index it is no longer than the place or the log before
  pub short : length log ≤ max n (length (whole d r.log.front r.log.entries))
  -- each entry came with a log of its term, and none is of a term to come
  pub matches : MatchesWithin h d r.commit log
  pub terms : (j : ℕ) → 0 < j → j ≤ length log → (term_of log j ≤ r.term) ⊎ Agree j log d
  -- what counts as saved is unchanged
  pub saved : Agree (from - 1) log (whole d r.log.front r.log.entries)
  pub less : from ≤ r.from
  pub stable_less : stable ≤ r.stable
  pub stable_from : stable ≤ from - 1
  pub covers : r.log.front ≤ stable
  pub ends : from ≤ length log + 1
  -- the batch under way reaches no further than the log, where nothing was replaced
  pub tail : (from ≤ length log) ⊎ (((to_be_saved b r).front + length (to_be_saved b r).entries ≤ length log) ⊎ (r.taken.front ≢ r.log.front))

-- a host in the term of a reign, which it comes to hold up to a place
module _ {g : Group} {v : ℕ} {h : History} {b : SavedState} {r : Replica} {d : List Entry} {w : List Envelope} (o : Open h g v b r d w) (R : Reign) (led : IsLed h.reigns R) (term : R.term ≡ r.term)
    (n : ℕ) (within : n ≤ length R.log) where
  -- the history in which the host holds the leader's log up to the place
  abbrev pub k : History
  k = record h { told = at_pair v r.term (max (h.told v r.term) n) h.told }

  -- in the leader's term it counts as holding that much
  pub told_mine : k.told v r.term ≡ max (h.told v r.term) n
  told_mine = at_there v r.term (max (h.told v r.term) n) h.told

  -- in other terms what it told is as before
  told_else : (t : ℕ) → t ≢ r.term → k.told v t ≡ h.told v t
  told_else t off = at_elsewhere v r.term (max (h.told v r.term) n) h.told v t (λ p. off p.second)

  -- what it told before, it tells still
  told_more : (t : ℕ) → h.told v t ≤ k.told v t
  told_more t = ⊎_elim (λ on. subst (λ t. h.told v t ≤ k.told v t) (sym on) (omega (arith, told_mine))) (λ off. omega (arith, told_else t off)) (cases_eq t r.term)

  -- what it told in this term is within the leader's log
  told_within : h.told v r.term ≤ length R.log
  told_within = ⊎_elim
      (λ z. omega (arith, z))
      (λ y. let same : length y.reign.log ≡ length R.log = ap (λ (S : Reign). length S.log) (same_reign o.common y.reign R y.led led (y.term ∙ sym term)) in omega (arith, same, y.most))
      (o.common.bounded v r.term)

  -- the host has voted in no term above
  is_last : IsLast h v r.term
  is_last t above = o.mine.stands.later t (inl above)

  -- which saved states secure which votes, from what the host has saved
  abbrev Sec : ℕ → ℕ → ℕ → Type 0
  Sec = SecuredBut g v b

  -- each other host keeps its part, and nothing that counts is lost
  grows : Grows v h k d d Sec Sec (HasAnswer w) (HasAnswer w)
  grows = record {
    decided = record { left = omega arith; right = omega arith; same = refl };
    votes = λ u t c some s voted. voted;
    new_votes = λ u t c some voted. inl voted;
    campaigns = λ u t c some voted. (refl, refl);
    forward = λ P led. record { reign = P; led = led; extends = extends_none P };
    back = λ S led. inl (record { reign = S; led = led; extends = extends_none S });
    others = λ P led other. led;
    told = λ u t other. at_elsewhere v r.term (max (h.told v r.term) n) h.told u t (λ p. other p.first);
    saving = λ u t other. refl;
    answer = λ u t other. refl;
    new_told = λ n t m. ⊎_elim (λ on. inr (subst (IsLast h v) (sym on) is_last)) (λ off. inl (omega (arith, m, told_else t off))) (cases_eq t r.term);
    new_answer = λ t. omega arith;
    decided_in = λ n m. omega arith;
    secured = λ u t c some x. x;
    heard = λ u t n x. x;
  }

  -- what the event adds to the sentences that name no replica holds
  adds : Adds g.voters v h k d d Sec
  adds = record {
    reigns = λ S led new. absurd (new.unled S led refl);
    later = later_grown o.common grows h.reigns h.reigns (aligned_same h.reigns) (λ P led. led) o.common.later;
    decided = λ n a b. absurd (omega (arith, a, b));
    lowered = λ n a b. inl (refl, refl);
    strict = λ n a b. absurd (omega (arith, a, b));
    votes = λ t c some voted last. vote_grown o.common grows some voted (o.common.votes v t c some voted);
    campaigns = λ t c. inl (refl, refl);
    levels = λ t. let y = o.common.levels v t in record { answer = y.answer; saving = omega (arith, y.saving, told_more t) };
    bounded = λ t. ⊎_elim
        (λ on. inr (record { reign = R; led = led; term = term ∙ sym on; most = subst (λ t. k.told v t ≤ length R.log) (sym on) (omega (arith, told_mine, told_within, within)) }))
        (λ off. ⊎_elim
        (λ z. inl (told_else t off ∙ z))
        (λ y. inr (record { reign = y.reign; led = y.led; term = y.term; most = omega (arith, y.most, told_else t off) }))
        (o.common.bounded v t))
        (cases_eq t r.term);
  }

  -- the host's whole log: the decided places up to its front, then its entries
  abbrev pub W : List Entry
  W = whole d r.log.front r.log.entries

  -- the log that is taken
  module _ (follower : r.role ≡ Follower) {log : List Entry} {from stable : ℕ} (x : CanTake h b r d R n log from stable) where
    open x use {low, begins, goes_on, long, kept, matches, terms, saved, less, stable_less, stable_from, covers, ends, tail, short}

    -- the replica with the log taken
    abbrev pub q : Replica
    q = record r { log = record r.log { entries = drop r.log.front log }; from = from; stable = stable }

    -- its whole log before
    abbrev X : List Entry
    X = W

    -- its commit index
    abbrev c : ℕ
    c = r.commit

    -- the host's present stage, with any log
    abbrev at_stage : List Entry → Stage
    at_stage xs = record { term = r.term; vote = r.vote; commit = r.commit; front = r.log.front; log = xs }

    -- what was known of its present stage
    was : IsSound h d h.told v (at_stage X)
    was = o.mine.stands.now

    -- the front is decided
    fits : r.log.front ≤ length d
    fits = omega (arith, was.front, was.commit.right)

    -- the log taken holds what is committed
    committed : Agree c log d
    committed = agree_trans begins was.commit

    -- the whole log of the replica that has taken it is the log taken
    pub log_is : whole d r.log.front (drop r.log.front log) ≡ log
    log_is = whole_of d r.log.front [] fits log (agree_less r.log.front was.front committed).same

    -- its entries end where the log taken ends
    pub log_long : r.log.front + length (drop r.log.front log) ≡ length log
    log_long = let l = length-drop r.log.front log in omega (arith, l, was.front, begins.left)

    -- the replica's stage has the log taken
    stage_is : of_replica d q ≡ at_stage log
    stage_is = ap at_stage log_is

    -- of the leader's own entries up to the place, those that all later reigns have are in the log taken
    safe_fits : (m : ℕ) → 0 < m → m ≤ n → IsSafe h.reigns R m → Agree m log R.log
    safe_fits m some most safe =
        ⊎_elim
        (λ in_front. agree_trans (agree_less m in_front committed) (decided_safe o.common R m m led safe some (omega (arith, in_front, was.commit.right)) (omega arith)))
        (λ past. glue (omega (arith, past)) (omega (arith, most, long))
        (⊎_elim
        (λ none. let z : 0 ≡ c = omega (arith, none) in subst (λ i. Agree i log R.log) z (agree_none log R.log))
        (λ place. agree_trans committed (decided_safe o.common R m c led safe place (was.commit.right) (omega (arith, past))))
        (le_or c 0))
        (from_less m most goes_on))
        (le_or m c)

    -- no entry after an own one of a reign has a lower term
    module _ {S : Reign} {m : ℕ} (own : IsOwn S m) (leader_has : Agree m R.log S.log) (there : Agree m log S.log) where
      -- the place has the reign's term in the log taken
      at_m : term_of log m ≡ S.term
      at_m = term_agree m there (omega arith) ∙ own.term

      -- the place has the reign's term in the leader's log
      leader_at_m : term_of R.log m ≡ S.term
      leader_at_m = term_agree m leader_has (omega arith) ∙ own.term

      -- up to the place taken the terms don't fall below the reign's
      near : (j : ℕ) → c < j → j ≤ n → m ≤ j → S.term ≤ term_of log j
      near j past most a =
          let e : term_of log j ≡ term_of R.log j = from_term j goes_on past most in
          let up = (o.common.reigns R led).monotone m j a (omega (arith, most, within)) in
          omega (arith, e, up, leader_at_m)

      -- nor after a place that is at least of the reign's term
      from_there : (p j : ℕ) → c < p → p ≤ j → j ≤ length log → S.term ≤ term_of log p → S.term ≤ term_of log j
      from_there p j past a most up =
          let z = matches j (omega (arith, past, a)) most in
          let y = z.0.rest (omega (arith, z.1, past, a)) in
          let at_p : term_of log p ≡ term_of y.0.log p = from_term p y.3 (omega (arith, z.1, past)) a in
          let at_j : term_of log j ≡ term_of y.0.log j = from_term j y.3 (omega (arith, z.1, past, a)) (omega arith) in
          let more = (o.common.reigns y.0 y.1).monotone p j a y.3.reaches in
          omega (arith, at_p, at_j, more, up)

      -- so from the own entry on no term is below the reign's
      clean_then : (j : ℕ) → m ≤ j → j ≤ length log → S.term ≤ term_of log j
      clean_then j a most =
          ⊎_elim
          (λ in_front.
          let y : IsDecided g.voters h d j = o.common.decided j (omega (arith, own.place, a)) (omega (arith, in_front, was.commit.right)) in
          let same : Agree j log y.reign.log = agree_trans (agree_less j in_front committed) y.same in
          let x : term_of log m ≡ term_of y.reign.log m = term_agree m same a in
          let z : term_of log j ≡ term_of y.reign.log j = term_agree j same (omega arith) in
          let up = (o.common.reigns y.reign y.led).monotone m j a same.right in
          omega (arith, x, z, up, at_m))
          (λ past. ⊎_elim
          (λ low_m. from_there (c + 1) j (omega arith) (omega (arith, past)) most (near (c + 1) (omega arith) (omega (arith, low)) (omega (arith, low_m))))
          (λ high. from_there m j high a most (omega (arith, at_m)))
          (le_or m c))
          (le_or j c)

    -- what counts is held
    keeps_then : (S : Reign) (m : ℕ) → Counts k k.told v S m → Keeps S m log
    keeps_then S m x =
        let before : m ≤ h.told v S.term → Agree m X S.log = λ most. (was.keeps S m (record { led = x.led; own = x.own; most = most; safe = x.safe })).there in
        let still : Agree m X R.log → Agree m log X = λ a. kept m a.left (from_agree c a) in
        ⊎_elim
        (λ on.
        let same : S ≡ R = same_reign o.common S R x.led led (on ∙ sym term) in
        let leader_has : Agree m R.log S.log = subst (λ T. Agree m T.log S.log) same (record { left = x.own.within; right = x.own.within; same = refl }) in
        let there : Agree m log S.log = ⊎_elim
        (λ few. subst (λ T. Agree m log T.log) (sym same) (safe_fits m x.own.place few (subst (λ T. IsSafe h.reigns T m) same x.safe)))
        (λ high.
        let most : m ≤ h.told v S.term = subst (λ t. m ≤ k.told v t → m ≤ h.told v t) (sym on) (λ z. omega (arith, z, told_mine, high)) x.most in
        agree_trans (still (subst (λ T. Agree m X T.log) same (before most))) (before most))
        (le_or m n) in
        record { there = there; clean = clean_then x.own leader_has there })
        (λ off.
        let most : m ≤ h.told v S.term = omega (arith, x.most, told_else S.term off) in
        let below : S.term < R.term = ⊎_elim (λ e. absurd (off e))
        (λ y. ⊎_elim (λ l. omega (arith, l, term)) (λ above. absurd (omega (arith, o.mine.stands.now.ahead S.term above, most, x.own.place))) y) (cases_order S.term r.term) in
        let leader_has : Agree m R.log S.log = x.safe R led below in
        let there : Agree m log S.log = agree_trans (still (agree_trans (before most) (agree_sym leader_has))) (before most) in
        record { there = there; clean = clean_then x.own leader_has there })
        (cases_eq S.term r.term)

    -- the present stage is sound
    sound_then : IsSound k d k.told v (at_stage log)
    sound_then = record {
      front = was.front;
      commit = committed;
      vote = was.vote;
      matches = within_grown o.common grows log c matches;
      ahead = λ t above. told_else t (λ on. omega (arith, on, above)) ∙ o.mine.stands.now.ahead t above;
      terms = terms;
      keeps = keeps_then;
    }

    -- what the stage before could tell, this one can
    lives_at : Outlives k d v (at_stage X) (at_stage log)
    lives_at = record {
      term = omega arith;
      commit = omega arith;
      secured = λ t x s. s;
      holds = λ t p same x f.
          let m = min p (length log) in
          ⊎_elim
          (λ in_front. record { within = omega arith; decided = m; most = omega arith; limited = in_front; front = agree_less m in_front committed; rest = λ l. absurd (omega (arith, l)) })
          (λ past.
          ⊎_elim
          (λ taken. record { within = omega arith; decided = c; most = omega (arith, past); limited = omega arith; front = committed; rest = λ l. (R, led, term ∙ same, from_less m taken goes_on) })
          (λ further.
          let a = min p (length X) in
          let y = x.rest (omega (arith, x.limited, past, further, short)) in
          let S : y.0 ≡ R = same_reign o.common y.0 R y.1 led (y.2 ∙ sym same ∙ sym term) in
          let part : SameFrom c a X R.log = from_further c x.limited (subst (λ T. SameFrom x.decided a X T.log) S y.3) in
          let whole_part : SameFrom c a log R.log = from_trans (from_agree c (kept a (omega arith) part)) part in
          record {
            within = omega arith;
            decided = c;
            most = omega (arith, past);
            limited = omega arith;
            front = committed;
            rest = λ l. (R, led, term ∙ same, from_less m (omega (arith, further, short)) whole_part);
          })
          (le_or m n))
          (le_or m c);
    }

    -- what the replica before could tell, the one with the log taken can
    lives : Outlives k d v (of_replica d r) (of_replica d q)
    lives = subst (λ x. Outlives k d v (at_stage X) x) (sym stage_is) lives_at

    -- what was unchanged since it was saved, before the first change, is so still
    saved_then : {j : ℕ} (m : ℕ) {xs : List Entry} → m ≤ j → m ≤ from - 1 → IsSavedLog j r.log.front xs X → IsSavedLog m r.log.front xs (of_replica d q).log
    saved_then m short low s =
        saved_less (omega (arith, was.front, was.commit.left)) (let l = ap (λ xs. length xs) log_is in omega (arith, l, was.front, begins.left)) (omega arith) short
        (subst (λ xs. Agree m xs X) (sym log_is) (agree_less m low saved)) s

    -- all stages of the host hold
    stands_then : Stands k d Sec (HasAnswer w) v b q
    stands_then =
        let s = o.mine.stands in
        let t = s.taken in
        record {
          saved = sound_grown o.common grows k.answer (λ t c some e. e) (λ t. refl) (λ t. let y = o.common.levels v t in omega (arith, y.answer, y.saving)) (of_batch d b) s.saved;
          saving = sound_grown o.common grows k.saving (λ t c some e. e) (λ t. refl) (λ t. let y = o.common.levels v t in omega (arith, y.saving)) (of_batch d (to_be_saved b r)) s.saving;
          now = subst (λ x. IsSound k d k.told v x) (sym stage_is) sound_then;
          first = s.first;
          second = record { term = s.second.term; vote = s.second.vote; commit = s.second.commit; front = s.second.front };
          later = s.later;
          taken = record {
            term = t.term;
            vote = t.vote;
            commit = t.commit;
            front = t.front;
            tail = ⊎_elim (λ y. inl (omega (arith, y, log_long))) (λ y. inr (⊎_elim (λ z. inl (omega (arith, z, log_long))) (λ z. inr z) y)) tail;
          };
          stable = stable_from;
          ends = omega (arith, ends, log_long);
          from = saved_then (from - 1) (omega (arith, less)) (omega arith) s.from;
          on_disk = saved_then stable stable_less stable_from s.on_disk;
          candidate = λ c. absurd (cc);
          leader = λ c. absurd (cc);
        }

    -- the log is taken
    pub take_step : Open k g v b q d w
    take_step = moved_step q o grows adds (λ t c some e. e) told_more (λ t. omega arith) stands_then refl refl o.mine.inbox covers o.mine.based lives
