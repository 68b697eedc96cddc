-- Compaction: the front moves up to an index that is committed and saved, and the whole log stays.
use Rattle.std.proofs.Common.{◌≡◌, ℕ, ◌+◌, ◌-◌, ◌<◌, ◌≤◌, List, length, drop, refl, sym, ap, ◌∙◌, subst, arith, inr, ◌&&◌}
use Rattle.std.specs.Prelude.{nat_lt, nat_le}
use Rattle.std.proofs.lemmas.Bool.{ltb-true, leb-true, and_parts}
use Rattle.std.proofs.lemmas.List.{length-drop}
use Rattle.host_ids.specs.declared.entry.Entry.{Entry}
use Rattle.raft_model.specs.declared.saved.SavedState.{SavedState}
use Rattle.wire_types.specs.declared.envelope.Envelope.{Envelope}
use Rattle.raft_model.specs.declared.state.State.{State as Replica}
use Rattle.raft_model.specs.Replica.{ripe}
use Rattle.log_view.specs.Log.{last, cut_front, Log}
use Rattle.raft_model.specs.Group.{Group}
use Rattle.raft_safety.specs.History.{History, Agree}
use Rattle.raft_safety.specs.Replicas.{Stage, whole, of_batch, of_replica, to_be_saved, IsSavedTo, IsSound}
use Rattle.raft_safety.specs.Invariant.{HasAnswer}
use Rattle.raft_safety.proofs.Argument.Agreement.{agree_less, term_agree}
use Rattle.raft_safety.proofs.Argument.Stretches.{drop_more}
use Rattle.raft_safety.proofs.Argument.WholeLogs.{whole_length, whole_drop, whole_of, term_whole, saved_within, saved_less}
use Rattle.raft_safety.proofs.Frame.Opened.{Open}
use Rattle.raft_safety.proofs.Frame.Words.{Outlives, all_on, replica_step}
use Rattle.raft_safety.proofs.Frame.Settle.{reached, either_row}
use Rattle.raft_safety.proofs.Laws.Owed.{CompactRow}

-- a log cut at a place up to which it is the decided list is the same whole log
pub cut_whole : {d : List Entry} (l : Log) {i : ℕ} → l.front ≤ i → i ≤ length d → Agree i (whole d l.front l.entries) d → whole d i (drop (i - l.front) l.entries) ≡ whole d l.front l.entries
cut_whole {d} l {i} up within a =
    let f = l.front in
    let X = whole d f l.entries in
    let place : f + (i - f) ≡ i = omega (arith, up) in
    let cut : drop (i - f) l.entries ≡ drop i X = ap (drop (i - f)) (sym (whole_drop d f l.entries (omega (arith, up, within)))) ∙ sym (drop_more f (i - f) X) ∙ ap (λ j. drop j X) place in
    ap (whole d i) cut ∙ whole_of d i l.entries within X a.same

module _ {g : Group} {v : ℕ} {h : History} {b : SavedState} {r : Replica} {d : List Entry} {w : List Envelope} (o : Open h g v b r d w) (i : ℕ) (above : r.log.front < i) (most : i ≤ r.commit)
    (stable : i ≤ r.stable) where
  -- the replica with its log cut
  abbrev q : Replica
  q = record r { log = cut_front r.log i }

  -- the host's whole log: the decided places up to its front, then its entries
  abbrev X : List Entry
  X = whole d r.log.front r.log.entries

  -- the log is cut at an index that is committed and saved
  pub cut_step : Open h g v b q d w
  cut_step =
      let a = o.mine in
      let s = a.stands in
      let n = s.now in
      let k = s.taken in
      let fits : r.log.front ≤ length d = omega (arith, n.front, n.commit.right) in
      let long : length X ≡ last r.log = whole_length d r.log.front r.log.entries fits in
      let log_is : whole d i q.log.entries ≡ X = cut_whole r.log (omega (arith, above)) (omega (arith, most, n.commit.right)) (agree_less i most n.commit) in
      let same_last : last q.log ≡ last r.log = (let l = length-drop (i - r.log.front) r.log.entries in omega (arith, l, above, most, n.commit.left, long)) in
      let y : Stage = record { term = r.term; vote = r.vote; commit = r.commit; front = i; log = X } in
      let stage_is : of_replica d q ≡ y = ap (λ xs. record { term = r.term; vote = r.vote; commit = r.commit; front = i; log = xs }) log_is in
      let lives : Outlives h d v (of_replica d r) (of_replica d q) = subst (λ x. Outlives h d v (of_replica d r) x) (sym stage_is)
      (record { term = omega arith; commit = omega arith; secured = λ t c z. z; holds = λ t m e p f. p }) in
      let kept : (m : ℕ) (x : Stage) → IsSavedTo m x (of_replica d r) → IsSavedTo m x (of_replica d q) = λ m x z.
      let in_log : m ≤ length X = saved_within (omega (arith, long)) z in
      saved_less (omega (arith, long)) (let l = ap (λ xs. length xs) log_is in omega (arith, l, most, n.commit.left)) (omega (arith, above)) (omega arith)
      (subst (λ xs. Agree m xs X) (sym log_is) (record { left = in_log; right = in_log; same = refl })) z in
      replica_step o
      (record {
        stands = record {
          saved = s.saved;
          saving = s.saving;
          now = subst (λ x. IsSound h d h.told v x) (sym stage_is) (record { front = most; commit = n.commit; vote = n.vote; matches = n.matches; terms = n.terms; keeps = n.keeps; ahead = n.ahead });
          first = s.first;
          second = record { term = s.second.term; vote = s.second.vote; commit = s.second.commit; front = omega (arith, s.second.front, above) };
          later = s.later;
          taken = record { term = k.term; vote = k.vote; commit = k.commit; front = k.front; tail = inr (inr (λ z. omega (arith, z, k.front, s.second.front, above))) };
          stable = s.stable;
          ends = omega (arith, s.ends, same_last);
          from = kept (r.from - 1) (of_batch d (to_be_saved b r)) s.from;
          on_disk = kept r.stable (of_batch d b) s.on_disk;
          candidate = λ e. let c = s.candidate e in record { some = c.some; vote = c.vote; voted = c.voted; log = c.log ∙ sym log_is; new = c.new; granted = c.granted };
          leader = λ e. let l = s.leader e in record {
            reign = l.reign;
            led = l.led;
            term = l.term;
            leader = l.leader;
            log = l.log ∙ sym log_is;
            told = l.told;
            saving = l.saving;
            mine = l.mine;
            own = l.own;
            matched = l.matched;
          };
        };
        held = all_on (HasAnswer w) h.told r.held (λ t. omega arith) lives a.held;
        waiting = λ p e. let x = a.waiting p e in (x.0, all_on (HasAnswer w) h.saving p.envelopes (λ t. (o.common.levels v t).saving) lives x.1);
        inbox = a.inbox;
        covered = stable;
        based = (a.based.0, a.based.1, term_whole d r.log i fits a.based.2 (omega (arith, above)) ∙ term_agree i n.commit most);
      })
      refl lives

-- compaction keeps the invariant
pub compact_row : CompactRow
compact_row i g v h b r d w some o =
    either_row (nat_lt r.log.front i && nat_le i (ripe r)) _ _
    (λ e.
    let p = and_parts (nat_lt r.log.front i) (nat_le i (ripe r)) e in
    let m = leb-true i (ripe r) p.1 in
    reached (cut_step o i (ltb-true r.log.front i p.0) (omega (arith, m)) (omega (arith, m))))
    (λ _. reached o)
