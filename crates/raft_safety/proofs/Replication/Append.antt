-- The row of Append: a follower's log takes a stretch of the leader's, and the answer that is held tells so.
use Rattle.std.proofs.lemmas.Bool.{cond_both}
use Rattle.std.proofs.Common.{◌≡◌, ◌⊎◌, ⊎_elim, ℕ, ◌+◌, ◌-◌, ◌<◌, ◌≤◌, List, [], length, drop, max, min, true, false, refl, sym, ap, ◌∙◌, subst, arith, inl, inr, Some, None, ◌==◌}
use Rattle.std.proofs.Common.{◌&&◌, not}
use Rattle.std.specs.Prelude.{nat_lt, nat_le}
use Rattle.std.proofs.lemmas.Bool.{ltb-false, le-leb, eqb-true, or_parts, not-false}
use Rattle.host_ids.specs.declared.entry.Entry.{Entry}
use Rattle.raft_model.specs.declared.saved.SavedState.{SavedState}
use Rattle.wire_types.specs.declared.envelope.Envelope.{Envelope}
use Rattle.wire_types.specs.declared.envelope.Body.TheVariants as bodies
use Rattle.raft_model.specs.declared.state.State.{State as Replica}
use Rattle.raft_model.specs.declared.role.Role.TheVariants.{Follower}
use Rattle.raft_model.specs.declared.progress.Appended.TheVariants.{Stored}
use Rattle.log_view.specs.Log.{Laid, last, term_at, laid}
use Rattle.raft_model.specs.Replica.{Row, is_leader, sent, in_term, lowered}
use Rattle.raft_model.specs.Appending.{Took, lacks, answers_append, takes_append}
use Rattle.raft_model.specs.Group.{Group, seat, term_of}
use Rattle.raft_safety.specs.History.{Reign, History, IsLed, Agree, SameFrom, IsStrict, IsOld}
use Rattle.raft_safety.specs.Replicas.{whole, of_replica, IsSound}
use Rattle.raft_safety.specs.Envelopes.{IsOfLeader, Tells}
use Rattle.raft_safety.specs.Invariant.{HasAnswer}
use Rattle.raft_safety.proofs.Argument.Agreement.{agree_sym, agree_trans, agree_less, glue, le_or}
use Rattle.raft_safety.proofs.Argument.Stretches.{put, put_length, put_begins, put_goes_on, from_short, from_less, from_further, from_trans, from_sym, from_agree, from_term}
use Rattle.raft_safety.proofs.Argument.WholeLogs.{whole_length, whole_drop, whole_of, term_whole, saved_within}
use Rattle.raft_safety.proofs.Frame.Opened.{Open}
use Rattle.raft_safety.proofs.Frame.Words.{holding, commit_step, follow_step, holds_all}
use Rattle.raft_safety.proofs.Frame.Settle.{Reached, reached, in_term_step, delivered, in_term_most, either_row}
use Rattle.raft_safety.proofs.Replication.Laying.{lay}
use Rattle.raft_safety.proofs.Replication.Taking as taking
use Rattle.raft_safety.proofs.Replication.Taking.{take_step}
use Rattle.raft_safety.proofs.Laws.Owed.{AppendRow}
use Rattle.raft_safety.proofs.Replication.OldAnswers.{old_answer}
use Rattle.raft_safety.proofs.Argument.Decided.{same_reign}

-- a host that holds the leader's log up to a place, after what it has committed
module _ {g : Group} {v : ℕ} {k : History} {b : SavedState} {q : Replica} {d : List Entry} {w : List Envelope} (o : Open k g v b q d w) (R : Reign) (led : IsLed k.reigns R) (term : R.term ≡ q.term)
    {c : ℕ} (leads : Agree c R.log d) where
  -- the host's whole log: the decided places up to its front, then its entries
  abbrev W : List Entry
  W = whole d q.log.front q.log.entries

  -- the leader's commit index may be taken, as far as the host's log is the leader's
  pub within_leader : {j n : ℕ} → j ≤ q.commit → n ≤ length W → SameFrom j n W R.log → (i : ℕ) → i ≤ n → i ≤ c → Agree (max q.commit i) W d
  within_leader {j} low long goes i most within =
      ⊎_elim
      (λ old. let z : q.commit ≡ max q.commit i = omega (arith, old) in subst (λ m. Agree m W d) z o.mine.stands.now.commit)
      (λ new. let z : i ≡ max q.commit i = omega (arith, new) in
      subst (λ m. Agree m W d) z
      (glue (omega (arith, low, new)) (omega (arith, most, long)) (agree_less j low o.mine.stands.now.commit)
      (from_trans (from_less i most goes) (from_agree j (agree_less i within leads)))))
      (le_or i q.commit)

  -- the host takes the leader's commit index and answers for the place
  pub answer_step : {n : ℕ} → n ≤ length W → SameFrom q.commit n W R.log → (n ≤ k.told v q.term) ⊎ IsOld k d v q.term n → (from : ℕ)
      → Open k g v b (sent (seat g v) from (bodies.AppendReply true n) (record q { commit = max q.commit (min c n) })) d w
  answer_step {n} here goes counts from =
      let commit = o.mine.stands.now.commit in
      holding (record { from = v; to = from; group = g.number; term = q.term; body = bodies.AppendReply true n }) refl
      (λ yes. record {
        since = omega arith;
        present = λ same. holds_all here (⊎_elim
            (λ in_front. record { within = here; decided = n; most = omega arith; limited = omega (arith, in_front); front = agree_less n in_front commit; rest = λ l. absurd (omega (arith, l)) })
            (λ past. record { within = here; decided = q.commit; most = omega (arith, past); limited = omega arith; front = commit; rest = λ l. (R, led, term, goes) })
            (le_or n q.commit));
        counts = counts;
      })
      (commit_step (omega arith) (within_leader (omega arith) here goes (min c n) (omega arith) (omega arith)) o)

-- a host tells that it holds what it has committed
module _ {g : Group} {v : ℕ} {k : History} {b : SavedState} {q : Replica} {d : List Entry} {w : List Envelope} (o : Open k g v b q d w) (i c : ℕ) (low : i ≤ q.commit) where
  -- it answers for a place up to its commit index, and the commit index stays
  pub low_answer_step : (from : ℕ) → Open k g v b (sent (seat g v) from (bodies.AppendReply true i) (record q { commit = max q.commit (min c i) })) d w
  low_answer_step from =
      let commit = o.mine.stands.now.commit in
      let X = whole d q.log.front q.log.entries in
      let same : max q.commit (min c i) ≡ q.commit = omega (arith, low) in
      holding (record { from = v; to = from; group = g.number; term = q.term; body = bodies.AppendReply true i }) refl
      (λ yes. record {
        since = omega arith;
        present = λ e. holds_all (omega (arith, low, commit.left)) (record {
          within = omega (arith, low, commit.left);
          decided = i;
          most = omega arith;
          limited = omega (arith, low);
          front = agree_less i low commit;
          rest = λ l. absurd (omega (arith, l));
        });
        counts = old_answer o k.told i low;
      })
      (subst (λ n. Open k g v b (record q { commit = n }) d w) (sym same) o)

-- a follower, and what is on the wire from the leader of its term
module _ {g : Group} {v : ℕ} {h : History} {b : SavedState} {r : Replica} {d : List Entry} {w : List Envelope} (o : Open h g v b r d w) (follower : r.role ≡ Follower)
    {from prev pt c : ℕ} {es : List Entry} (x : IsOfLeader h d from r.term prev pt c es) where
  -- the reign that sent it
  abbrev R : Reign
  R = x.reign

  -- the host's whole log: the decided places up to its front, then its entries
  abbrev X : List Entry
  X = whole d r.log.front r.log.entries

  -- the last place of the stretch
  abbrev n : ℕ
  n = prev + length es

  -- what is known of the host's present stage
  now : IsSound h d h.told v (of_replica d r)
  now = o.mine.stands.now

  -- the front is decided
  fits : r.log.front ≤ length d
  fits = omega (arith, now.front, now.commit.right)

  -- the whole log ends where the log says
  long : length X ≡ last r.log
  long = whole_length d r.log.front r.log.entries fits

  -- each entry of the leader's log was written by a leader of its term, with the same log up to it
  leader_strict : IsStrict h R.log
  leader_strict = (o.common.reigns R x.led).strict

  -- equal terms at a place mean equal logs, from the commit index up to it
  same_term : (i : ℕ) → 0 < i → i ≤ length X → i ≤ length R.log → term_of X i ≡ term_of R.log i → SameFrom r.commit i X R.log
  same_term i some here there same =
      ⊎_elim
      (λ in_front. from_short r.commit i X R.log in_front there)
      (λ past.
      let p = now.matches i some here in
      let z = p.0.rest (omega (arith, p.1, past)) in
      let y = leader_strict i some there in
      let one : z.0 ≡ y.0 = same_reign o.common z.0 y.0 z.1 y.1 (z.2 ∙ same ∙ sym y.2) in
      from_further r.commit p.1
      (from_trans (subst (λ S. SameFrom p.0.decided i X S.log) one z.3) (from_agree p.0.decided (agree_sym y.3))))
      (le_or i r.commit)

  -- where the test before the stretch passes, the host's log is the leader's from its commit index to there
  begins : lacks r.log prev pt ≡ false → (prev ≤ length X) × SameFrom r.commit prev X R.log
  begins has =
      let p = or_parts (nat_lt (last r.log) prev) (nat_le r.log.front prev && not (term_at r.log prev == pt)) has in
      let m = ltb-false (last r.log) prev p.0 in
      let here : prev ≤ length X = omega (arith, m, long) in
      let short : prev ≤ r.commit → SameFrom r.commit prev X R.log = λ low. from_short r.commit prev X R.log low (omega (arith, x.reaches)) in (
        here,
        ⊎_elim short
            (λ past.
            let first : nat_le r.log.front prev ≡ true = le-leb r.log.front prev (omega (arith, now.front, past)) in
            let second : not (term_at r.log prev == pt) ≡ false = ap (λ y. y && not (term_at r.log prev == pt)) (sym first) ∙ p.1 in
            let same : term_at r.log prev ≡ pt = eqb-true (term_at r.log prev) pt (not-false (term_at r.log prev == pt) second) in
            same_term prev (omega (arith, past)) here (omega (arith, x.reaches))
            (sym (term_whole d r.log prev fits o.mine.based.2 (omega (arith, now.front, past))) ∙ same ∙ sym x.before))
            (le_or prev r.commit),
      )

  -- the replica that has taken a log and answers for a place
  abbrev answered : ℕ → Laid → Row
  answered m y = answers_append (seat g v) from c (Stored m y.changed_from) (record r { log = y.log })

  -- the host counts as holding the leader's log up to the stretch's end
  told : n ≤ (taking.k o R x.led x.term n x.reaches).told v r.term
  told = let z = taking.told_mine o R x.led x.term n x.reaches in omega (arith, z)

  -- all entries are there already: they are committed, or the log holds them
  kept_row : n ≤ length X → SameFrom r.commit n X R.log → Reached g v b d w (answered n (record { log = r.log; changed_from = None })).replica
  kept_row here goes =
      ⊎_elim
      (λ low. reached (answer_step o R x.led x.term x.commit here goes (old_answer o h.told n low) from))
      (λ past.
      let s = o.mine.stands in
      let within : r.from - 1 ≤ length X = saved_within (omega (arith, long)) s.from in
      let k = taking.k o R x.led x.term n x.reaches in
      let taken : Open k g v b (record r { log = record r.log { entries = drop r.log.front X } }) d w =
      take_step o R x.led x.term n x.reaches follower (record {
        low = past;
        long = here;
        begins = record { left = now.commit.left; right = now.commit.left; same = refl };
        goes_on = goes;
        kept = λ m a f. record { left = a; right = a; same = refl };
        short = omega arith;
        matches = now.matches;
        terms = now.terms;
        saved = record { left = within; right = within; same = refl };
        less = omega arith;
        stable_less = omega arith;
        stable_from = s.stable;
        covers = o.mine.covered;
        ends = omega (arith, s.ends, long);
        tail = ⊎_elim (λ y. inl (omega (arith, y, long))) (λ y. inr (⊎_elim (λ z. inl (omega (arith, z, long))) (λ z. inr z) y)) s.taken.tail;
      }) in
      reached (answer_step
      (subst (λ xs. Open k g v b (record r { log = record r.log { entries = xs } }) d w) (whole_drop d r.log.front r.log.entries fits) taken)
      R x.led x.term x.commit here goes (inl told) from))
      (le_or n r.commit)

  -- from a place on the log is replaced
  changed_row : (i : ℕ) → i ≤ n → r.commit < i → i - 1 ≤ length X → SameFrom r.commit (i - 1) X R.log → (i ≤ length X → SameFrom r.commit i X R.log → ⊥)
      → Reached g v b d w (answered n (record { log = record r.log { entries = drop r.log.front (put r.commit n X R.log) }; changed_from = Some i })).replica
  changed_row i most above short before apart =
      let s = o.mine.stands in
      let k = taking.k o R x.led x.term n x.reaches in
      let log = put r.commit n X R.log in
      let past : r.commit < n = omega (arith, above, most) in
      let size : length log ≡ n = put_length r.commit n X R.log now.commit.left (omega (arith, past)) x.reaches in
      let starts : Agree r.commit log X = put_begins r.commit n X R.log now.commit.left (omega (arith, past)) x.reaches in
      let goes : SameFrom r.commit n log R.log = put_goes_on r.commit n X R.log now.commit.left (omega (arith, past)) x.reaches in
      let decided : Agree r.commit log d = agree_trans starts now.commit in
      let kept : (m : ℕ) → m ≤ length X → SameFrom r.commit m X R.log → Agree m log X = λ m a f. ⊎_elim
      (λ reaches. absurd (apart (omega (arith, reaches, a)) (from_less i reaches f)))
      (λ low. ⊎_elim
      (λ in_front. agree_less m in_front starts)
      (λ after. glue (omega (arith, after)) (omega (arith, low, most, size)) starts
      (from_trans (from_less m (omega (arith, low, most)) goes) (from_sym a f)))
      (le_or m r.commit))
      (le_or i m) in
      let q : Replica = lowered i (record r { log = record r.log { entries = drop r.log.front log } }) in
      let log_is : whole d r.log.front (drop r.log.front log) ≡ log = whole_of d r.log.front [] fits log (agree_less r.log.front now.front decided).same in
      reached (answer_step
      (take_step o R x.led x.term n x.reaches follower (record {
        low = past;
        long = omega (arith, size);
        begins = starts;
        goes_on = goes;
        kept = kept;
        short = omega (arith, size);
        matches = λ j some m. ⊎_elim
            (λ in_front. (record { decided = j; most = omega arith; front = agree_less j in_front decided; rest = λ l. absurd (omega (arith, l)) }, in_front))
            (λ after.
            let p = leader_strict j some (omega (arith, m, size, x.reaches)) in (
              record {
                decided = r.commit;
                most = omega (arith, after);
                front = decided;
                rest = λ l. (
                  p.0,
                  p.1,
                  p.2 ∙ sym (from_term j goes after (omega (arith, m, size))),
                  from_trans (from_less j (omega (arith, m, size)) goes) (from_agree r.commit p.3),
                );
              },
              omega arith,
            ))
            (le_or j r.commit);
        terms = λ j some m. ⊎_elim
            (λ in_front. inr (agree_less j in_front decided))
            (λ after. inl (let z = from_term j goes after (omega (arith, m, size)) in omega (arith, z, x.term, (o.common.reigns R x.led).terms j (omega (arith, m, size, x.reaches)))))
            (le_or j r.commit);
        saved = agree_less (min r.from i - 1) (omega arith) (kept (i - 1) short before);
        less = omega arith;
        stable_less = omega arith;
        stable_from = omega arith;
        covers = omega (arith, o.mine.covered, above, now.front, s.stable);
        ends = omega (arith, most, size);
        tail = inl (omega (arith, most, size));
      }))
      R x.led x.term x.commit (let l = ap (λ xs. length xs) log_is in omega (arith, l, size)) (subst (λ xs. SameFrom r.commit n xs R.log) (sym log_is) goes) (inl told) from)

  -- where the test before the stretch passes, the stretch is taken
  stored_row : lacks r.log prev pt ≡ false → Reached g v b d w (answered (max r.log.front n) (laid r.log r.commit prev es)).replica
  stored_row has =
      let p = begins has in
      ⊎_elim
      (λ y. subst (λ z. Reached g v b d w (answered (max r.log.front n) z).replica) (sym y.is)
      (⊎_elim
      (λ above. let z : n ≡ max r.log.front n = omega (arith, above) in subst (λ m. Reached g v b d w (answered m (record { log = r.log; changed_from = None })).replica) z (kept_row y.within y.same))
      (λ below.
      let low : max r.log.front n ≤ r.commit = omega (arith, below, now.front) in
      reached (low_answer_step o (max r.log.front n) c low from))
      (le_or r.log.front n)))
      (λ y.
      let z : n ≡ max r.log.front n = omega (arith, y.most, y.above, now.front) in
      subst (λ m. Reached g v b d w (answered m (laid r.log r.commit prev es)).replica) z
      (subst (λ z. Reached g v b d w (answered n z).replica) (sym y.is) (changed_row y.from y.most y.above y.within y.before y.apart)))
      (lay d r.log r.commit R.log fits o.mine.based.2 now.front now.commit.left same_term es x.entries x.reaches p.0 p.1)

  -- with the test failed the host tells where its log may agree, and promises nothing
  pub takes_row : Reached g v b d w (takes_append (seat g v) from prev pt c es r).replica
  takes_row =
      cond_both (lacks r.log prev pt) _ _ (λ (z : Took). Reached g v b d w (answers_append (seat g v) from c z.outcome (record r { log = z.log })).replica)
      (λ _. reached (holding (record { from = v; to = from; group = g.number; term = r.term; body = bodies.AppendReply false (min (last r.log) (prev - 1)) }) refl (λ granted. absurd (cc)) o))
      stored_row

-- the row of Append keeps the invariant
pub append_kept : AppendRow
append_kept m prev pt c es body g v h b r0 d w some before to on =
    let r = in_term m.term r0 in
    let o : Open h g v b r d w = in_term_step m.term before in
    let most : m.term ≤ r.term = in_term_most m.term r0 in
    either_row (nat_lt m.term r.term) _ _
    (λ _. reached (holding (record { from = v; to = m.from; group = g.number; term = r.term; body = bodies.AppendReply false 0 }) refl (λ granted. absurd (cc)) o))
    (λ new. either_row (is_leader r) _ _ (λ _. reached o)
    (λ _.
    let told = delivered m o on in
    let same : m.term ≡ r.term = (let low = ltb-false m.term r.term new in omega (arith, low, most)) in
    let x : IsOfLeader h d m.from m.term prev pt c es = subst (λ y. Tells h d (HasAnswer w) h.answer m.from m.to m.term y told.stage) body told.tells in
    takes_row (follow_step m.from o) refl (subst (λ t. IsOfLeader h d m.from t prev pt c es) same x)))
