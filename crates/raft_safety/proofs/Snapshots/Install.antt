-- A snapshot is installed: the log keeps what stands after its place, or gives way to it.
use Rattle.std.proofs.lemmas.Bool.{cond_both}
use Rattle.std.proofs.Common.{◌≡◌, ◌⊎◌, ⊎_elim, ℕ, ◌+◌, ◌-◌, ◌<◌, ◌≤◌, List, [], length, take, min, max, true, false, refl, sym, ap, ◌∙◌, subst, arith, inl, inr, Option, Some, None}
use Rattle.std.proofs.Common.{◌==◌, ◌&&◌}
use Rattle.std.specs.Prelude.{nat_lt, nat_le}
use Rattle.std.proofs.lemmas.Bool.{ltb-true, leb-true, le-leb, eqb-true, eq-eqb, and_parts}
use Rattle.std.proofs.lemmas.List.{length-drop, length-take-le, append-nil, take-take}
use Rattle.host_ids.specs.declared.entry.Entry.{Entry}
use Rattle.raft_model.specs.declared.saved.SavedState.{SavedState}
use Rattle.wire_types.specs.declared.envelope.Envelope.{Envelope}
use Rattle.wire_types.specs.declared.envelope.Body.TheVariants as bodies
use Rattle.raft_model.specs.declared.role.Role.TheVariants.{Follower, Candidate, Leader}
use Rattle.raft_model.specs.declared.state.State.{State as Replica}
use Rattle.raft_model.specs.declared.state.Inbox.{Inbox}
use Rattle.raft_model.specs.Replica.{is_follower}
use Rattle.raft_model.specs.Snapping.{stays, based, replied}
use Rattle.log_view.specs.Log.{Log, last, term_at, cut_front, reset}
use Rattle.raft_model.specs.Group.{Group, seat, term_of, is_decided}
use Rattle.raft_safety.specs.History.{Reign, History, Agree, SameFrom, MatchesWithin, Counts, Keeps, HoldsUpTo}
use Rattle.raft_safety.specs.Replicas.{Stage, whole, of_batch, of_replica, to_be_saved, IsSavedTo, IsSound}
use Rattle.raft_safety.specs.Invariant.{IsDecided, HasAnswer}
use Rattle.raft_safety.proofs.Argument.Agreement.{agree_sym, agree_trans, agree_less, term_agree, glue, le_or}
use Rattle.raft_safety.proofs.Argument.Decided.{decided_safe, same_reign}
use Rattle.raft_safety.proofs.Argument.Stretches.{from_trans, from_agree}
use Rattle.raft_safety.proofs.Argument.WholeLogs.{whole_length, term_whole, from_saved, saved_less, saved_within, decided_place}
use Rattle.raft_safety.proofs.Frame.Opened.{Open}
use Rattle.raft_safety.proofs.Frame.Words.{Outlives, all_on, replica_step, holding, holds_limit}
use Rattle.raft_safety.proofs.Frame.Settle.{Reached, reached, either_row}
use Rattle.raft_safety.proofs.Replication.OldAnswers.{old_answer}
use Rattle.raft_safety.proofs.Snapshots.Compact.{cut_whole}
use Rattle.raft_safety.proofs.Laws.Owed.{InstalledRow}
use Rattle.raft_safety.proofs.Frame.Roles.{waits}

-- the replica whose log starts after the snapshot's place
abbrev pub started : Replica → Log → ℕ → ℕ → Replica
started r log stable from = record r { log = log; commit = log.front; stable = stable; from = from }

-- a log, whole with what is decided, that starts after a front past the commit index, and what of it counts as saved
pub record CanStartAfter (h : History) (v : ℕ) (b : SavedState) (r : Replica) (d : List Entry) (log : Log) (xs : List Entry) (stable from : ℕ) : Type 0 where
  pub is : whole d log.front log.entries ≡ xs
  pub above : r.commit < log.front
  pub front_term : log.front_term ≡ term_of d log.front
  pub fits : Agree log.front xs d
  -- each entry came with a log of its term, and none is of a term to come
  pub matches : MatchesWithin h d log.front xs
  pub terms : (k : ℕ) → 0 < k → k ≤ length xs → (term_of xs k ≤ r.term) ⊎ Agree k xs d
  -- what counts, and what an answer may still tell of, is held
  pub keeps : (R : Reign) (n : ℕ) → Counts h h.told v R n → Keeps R n xs
  pub holds : (t n : ℕ) → HoldsUpTo h d r.commit (whole d r.log.front r.log.entries) t (min n (length (whole d r.log.front r.log.entries))) → HoldsUpTo h d log.front xs t (min n (length xs))
  -- what counts as saved
  pub covers : log.front ≤ stable
  pub stable_from : stable ≤ from - 1
  pub ends : from ≤ last log + 1
  pub saved : IsSavedTo (from - 1) (of_batch d (to_be_saved b r)) (of_replica d (started r log stable from))
  pub on_disk : IsSavedTo stable (of_batch d b) (of_replica d (started r log stable from))

-- such a log is taken, and all up to its front is committed
module _ {g : Group} {v : ℕ} {h : History} {b : SavedState} {r : Replica} {d : List Entry} {w : List Envelope} (o : Open h g v b r d w) (follower : r.role ≡ Follower)
    {log : Log} {xs : List Entry} {stable from : ℕ} (x : CanStartAfter h v b r d log xs stable from) where
  open x use {is, above, front_term, fits, matches, terms, keeps, holds, covers, stable_from, ends, saved, on_disk}

  -- the host's stage at the front, with any log
  abbrev at_stage : List Entry → Stage
  at_stage ys = record { term = r.term; vote = r.vote; commit = log.front; front = log.front; log = ys }

  -- that stage is sound
  sound_then : IsSound h d h.told v (at_stage xs)
  sound_then = let n = o.mine.stands.now in record { front = omega arith; commit = fits; vote = n.vote; matches = matches; terms = terms; keeps = keeps; ahead = n.ahead }

  -- what the replica before could tell, that stage can
  lives_then : Outlives h d v (of_replica d r) (at_stage xs)
  lives_then = record { term = omega arith; commit = omega (arith, above); secured = λ t c z. z; holds = λ t m e p f. holds t m p }

  -- such a log is taken, and all up to its front is committed
  pub install_step : Open h g v b (started r log stable from) d w
  install_step =
      let a = o.mine in
      let s = a.stands in
      let k = s.taken in
      let lives : Outlives h d v (of_replica d r) (of_replica d (started r log stable from)) = subst (λ ys. Outlives h d v (of_replica d r) (at_stage ys)) (sym is) lives_then in
      replica_step o
      (record {
        stands = record {
          saved = s.saved;
          saving = s.saving;
          now = subst (λ ys. IsSound h d h.told v (at_stage ys)) (sym is) sound_then;
          first = s.first;
          second = record { term = s.second.term; vote = s.second.vote; commit = omega (arith, s.second.commit, above); front = omega (arith, s.second.commit, s.saving.front, above) };
          later = s.later;
          taken = record { term = k.term; vote = k.vote; commit = k.commit; front = k.front; tail = inr (inr (λ z. omega (arith, z, k.front, s.second.commit, s.saving.front, above))) };
          stable = stable_from;
          ends = ends;
          from = saved;
          on_disk = on_disk;
          candidate = λ e. let z : Follower ≡ Candidate = sym follower ∙ e in absurd (cc);
          leader = λ e. let z : Follower ≡ Leader = sym follower ∙ e in absurd (cc);
        };
        held = all_on (HasAnswer w) h.told r.held (λ t. omega arith) lives a.held;
        waiting = λ p e. let x = a.waiting p e in (x.0, all_on (HasAnswer w) h.saving p.envelopes (λ t. (o.common.levels v t).saving) lives x.1);
        inbox = a.inbox;
        covered = covers;
        based = (a.based.0, a.based.1, front_term);
      })
      refl lives

-- a decided place after the commit index
module _ {g : Group} {v : ℕ} {h : History} {b : SavedState} {r : Replica} {d : List Entry} {w : List Envelope} (o : Open h g v b r d w) (follower : r.role ≡ Follower) (i t : ℕ) (above : r.commit < i)
    (decided : is_decided d i t ≡ true) where
  -- the host's whole log: the decided places up to its front, then its entries
  abbrev X : List Entry
  X = whole d r.log.front r.log.entries

  -- what is known of the host's present stage
  now : IsSound h d h.told v (of_replica d r)
  now = o.mine.stands.now

  -- the front is decided
  fits : r.log.front ≤ length d
  fits = omega (arith, now.front, now.commit.right)

  -- the whole log ends where the log says
  long : length X ≡ last r.log
  long = whole_length d r.log.front r.log.entries fits

  -- the snapshot's place is decided
  within : i ≤ length d
  within = (decided_place d i t decided).0

  -- its term is the decided list's
  term_is : t ≡ term_of d i
  term_is = (decided_place d i t decided).1

  -- it is after the front
  front_below : r.log.front < i
  front_below = omega (arith, now.front, above)

  -- where the log holds the place with its term, it is the decided list up to it
  holds_place : i ≤ length X → term_of X i ≡ term_of d i → Agree i X d
  holds_place here same =
      let p = now.matches i (omega (arith, above)) here in
      let z = p.0.rest (omega (arith, p.1, above)) in
      let y = o.common.strict i (omega (arith, above)) within in
      let one : z.0 ≡ y.0 = same_reign o.common z.0 y.0 z.1 y.1 (z.2 ∙ same ∙ sym y.2) in
      glue p.0.most here p.0.front
      (from_trans (subst (λ S. SameFrom p.0.decided i X S.log) one z.3) (from_agree p.0.decided (agree_sym y.3)))

  -- a log that holds the place with its term is cut there
  stays_step : stays r.log i t ≡ true → Open h g v b (record r { log = cut_front r.log i; commit = i; stable = max r.stable i; from = max r.from (i + 1) }) d w
  stays_step e =
      let s = o.mine.stands in
      let p = and_parts (nat_le i (last r.log)) (term_at r.log i == t) e in
      let here : i ≤ length X = (let m = leb-true i (last r.log) p.0 in omega (arith, m, long)) in
      let at_i : term_of X i ≡ term_of d i = sym (term_whole d r.log i fits o.mine.based.2 (omega (arith, front_below))) ∙ eqb-true (term_at r.log i) t p.1 ∙ term_is in
      let a : Agree i X d = holds_place here at_i in
      let cut = cut_front r.log i in
      let Y = whole d i cut.entries in
      let log_is : Y ≡ X = cut_whole r.log (omega (arith, front_below)) within a in
      let size : last cut ≡ last r.log = (let l = length-drop (i - r.log.front) r.log.entries in omega (arith, l, front_below, here, long)) in
      let z : Replica = started r cut (max r.stable i) (max r.from (i + 1)) in
      let y_long : length Y ≡ length X = ap (λ xs. length xs) log_is in
      let kept : (m : ℕ) (x : Stage) → IsSavedTo m x (of_replica d r) → IsSavedTo m x (of_replica d z) = λ m x k.
      let in_log : m ≤ length X = saved_within (omega (arith, long)) k in
      saved_less (omega (arith, long)) (omega (arith, y_long, here)) (omega (arith, front_below)) (omega arith)
      (subst (λ xs. Agree m xs X) (sym log_is) (record { left = in_log; right = in_log; same = refl })) k in
      let later : (m n : ℕ) (x : Stage) → n ≡ max m i → IsSavedTo m x (of_replica d r) → IsSavedTo n x (of_replica d z) = λ m n x is k. ⊎_elim
      (λ low. from_saved (omega (arith, y_long, here)) (inl (omega (arith, is, low))))
      (λ past. let same : m ≡ n = omega (arith, is, past) in subst (λ j. IsSavedTo j x (of_replica d z)) same (kept m x k))
      (le_or m i) in
      install_step o follower (record {
        is = log_is;
        above = above;
        front_term = eqb-true (term_at r.log i) t p.1 ∙ term_is;
        fits = a;
        matches = λ k some m. let y = now.matches k some m in (y.0, omega (arith, y.1, above));
        terms = now.terms;
        keeps = now.keeps;
        holds = λ t n y. holds_limit i (omega (arith, above)) y;
        covers = omega arith;
        stable_from = omega (arith, s.stable);
        ends = omega (arith, s.ends, size, here, long);
        saved = later (r.from - 1) (max r.from (i + 1) - 1) (of_batch d (to_be_saved b r)) (omega arith) s.from;
        on_disk = later r.stable (max r.stable i) (of_batch d b) refl s.on_disk;
      })

  -- where the log does not hold the place it becomes the decided list up to it
  module _ (gone : stays r.log i t ≡ false) where
    -- the decided list up to the place
    abbrev D : List Entry
    D = take i d

    -- it ends at the place
    size : length D ≡ i
    size = length-take-le i d within

    -- it is the decided list
    agree : Agree i D d
    agree = record { left = omega (arith, size); right = within; same = take-take i i d (omega arith) }

    -- what was told and counts lies within: the log would have held the place
    kept_within : {R : Reign} {n : ℕ} → Counts h h.told v R n → n ≤ i
    kept_within {R} {n} c = ⊎_elim
        (λ m. m)
        (λ past.
        let list : Agree i d R.log = decided_safe o.common R n i c.led c.safe (omega (arith, above)) within (omega (arith, past)) in
        let there : Agree n X R.log = (now.keeps R n c).there in
        let a : Agree i X d = agree_trans (agree_less i (omega (arith, past)) there) (agree_sym list) in
        let test : stays r.log i t ≡ true =
        ap (λ x. x && (term_at r.log i == t)) (le-leb i (last r.log) (omega (arith, a.left, long)))
        ∙ eq-eqb (term_at r.log i) t (term_whole d r.log i fits o.mine.based.2 (omega (arith, front_below)) ∙ term_agree i a (omega arith) ∙ sym term_is) in
        absurd (cc))
        (le_or n i)

    -- what counts is held
    keeps_now : (R : Reign) (n : ℕ) → Counts h h.told v R n → Keeps R n D
    keeps_now R n c =
        let m = kept_within c in
        let list : Agree n d R.log = decided_safe o.common R n n c.led c.safe c.own.place (omega (arith, m, within)) (omega arith) in
        let there : Agree n D R.log = agree_trans (agree_less n m agree) list in
        record {
          there = there;
          clean = λ k a most.
              let y : IsDecided g.voters h d i = o.common.decided i (omega (arith, above)) within in
              let same : Agree i D y.reign.log = agree_trans agree y.same in
              let at_n : term_of D n ≡ R.term = term_agree n there (omega arith) ∙ c.own.term in
              let x : term_of D n ≡ term_of y.reign.log n = term_agree n same m in
              let z : term_of D k ≡ term_of y.reign.log k = term_agree k same (omega (arith, most, size)) in
              let up = (o.common.reigns y.reign y.led).monotone n k a (omega (arith, most, size, same.right)) in
              omega (arith, at_n, x, z, up);
        }

    -- a log that doesn't hold the place gives way to the snapshot
    reset_step : Open h g v b (record r { log = reset i t; commit = i; stable = i; from = i + 1 }) d w
    reset_step =
        let log = reset i t in
        let log_is : whole d i [] ≡ D = append-nil (take i d) in
        let z : Replica = started r log i (i + 1) in
        let z_long : i ≤ length (whole d i []) = (let l = ap (λ xs. length xs) log_is in omega (arith, l, size)) in
        let low : (n : ℕ) (x : Stage) → n ≤ i → IsSavedTo n x (of_replica d z) = λ n x m. from_saved z_long (inl m) in
        install_step o follower (record {
          is = log_is;
          above = above;
          front_term = term_is;
          fits = agree;
          matches = λ k some m. (record { decided = k; most = omega arith; front = agree_less k (omega (arith, m, size)) agree; rest = λ l. absurd (omega (arith, l)) }, omega (arith, m, size));
          terms = λ k some m. inr (agree_less k (omega (arith, m, size)) agree);
          keeps = keeps_now;
          holds = λ t n y.
              let m = min n (length D) in
              record { within = omega arith; decided = m; most = omega arith; limited = omega (arith, size); front = agree_less m (omega (arith, size)) agree; rest = λ l. absurd (omega (arith, l)) };
          covers = omega arith;
          stable_from = omega arith;
          ends = omega arith;
          saved = low (i + 1 - 1) (of_batch d (to_be_saved b r)) (omega arith);
          on_disk = low i (of_batch d b) (omega arith);
        })

  -- the sender of the snapshot is told that it is there
  replied_row : {r2 : Replica} → i ≤ r2.commit → Open h g v b r2 d w → (x : Option Inbox) → Reached g v b d w (replied (seat g v) i x r2)
  replied_row low o2 None = reached o2
  replied_row {r2} low o2 (Some x) = reached (holding (record { from = v; to = x.sender; group = g.number; term = r2.term; body = bodies.SnapReply i (x.count + 1) true }) refl
      (λ yes. record { committed = low; counts = old_answer o2 h.told i low }) o2)

  -- a snapshot of a place after the commit index is installed
  pub based_row : Reached g v b d w (replied (seat g v) i r.inbox (based i t r))
  based_row =
      cond_both (stays r.log i t) _ _ (λ q. Reached g v b d w (replied (seat g v) i r.inbox q)) (λ e. replied_row (omega arith) (stays_step e) r.inbox)
      (λ e. replied_row (omega arith) (reset_step e) r.inbox)

-- installing a snapshot keeps the invariant
pub installed_row : InstalledRow
installed_row i t g v h b r d w some o decided =
    either_row (is_follower r && nat_lt r.commit i) _ _
    (λ e. let p = and_parts (is_follower r) (nat_lt r.commit i) e in based_row o (waits r p.0) i t (ltb-true r.commit i p.1) decided)
    (λ _. reached o)
