-- A host that starts at a mark which its saved log doesn't hold: the log gives way to the decided places up to the mark.
use Rattle.std.proofs.Common.{◌≡◌, ⊎_elim, ℕ, ◌+◌, ◌-◌, ◌<◌, ◌≤◌, List, [], length, take, drop, min, refl, sym, ◌∙◌, subst, arith, inr}
use Rattle.std.proofs.lemmas.List.{take-append-le, take-take, length-take-le}
use Rattle.host_ids.specs.declared.entry.Entry.{Entry}
use Rattle.raft_model.specs.declared.saved.SavedState.{SavedState}
use Rattle.wire_types.specs.declared.envelope.Envelope.{Envelope}
use Rattle.log_view.specs.Log.{last, reset}
use Rattle.raft_model.specs.declared.state.State.{State as Replica}
use Rattle.raft_model.specs.Group.{Group, term_of}
use Rattle.raft_safety.specs.History.{Reign, History, Agree, Keeps, Counts}
use Rattle.raft_safety.specs.Replicas.{whole, of_batch, of_replica, IsSound, IsSavedTo}
use Rattle.raft_safety.specs.Invariant.{IsDecided}
use Rattle.raft_safety.proofs.Argument.Agreement.{agree_trans, agree_less, term_agree, le_or}
use Rattle.raft_safety.proofs.Argument.Decided.{decided_safe}
use Rattle.raft_safety.proofs.Argument.WholeLogs.{whole_length, whole_begins}
use Rattle.raft_safety.proofs.Frame.Opened.{SecuredBut, Open}
use Rattle.raft_safety.proofs.Frame.Words.{Outlives, replica_step}
use Rattle.raft_safety.proofs.Crashes.Crash.{left_replica}

-- the replica that starts at its mark, with no entries after it
abbrev pub marked_replica : SavedState → ℕ → ℕ → Replica
marked_replica c s t = record (left_replica c) { log = reset s t; commit = s; stable = last (reset s t); from = last (reset s t) + 1 }

module _ {g : Group} {v : ℕ} {h : History} {c : SavedState} {d : List Entry} {w : List Envelope} (o : Open h g v c (left_replica c) d w) (s t : ℕ) (above : c.front < s) (within : s ≤ length d)
    (term : t ≡ term_of d s) (commits : c.commit ≤ s)
    (apart : s ≤ length (whole d c.front c.entries) → term_of (whole d c.front c.entries) s ≡ term_of d s → ⊥) where
  -- the replica that starts there
  abbrev q : Replica
  q = marked_replica c s t

  -- the whole saved log
  abbrev X : List Entry
  X = whole d c.front c.entries

  -- the decided places up to the mark
  abbrev L : List Entry
  L = whole d s []

  -- which saved states secure which votes, from what the host has saved
  abbrev S : ℕ → ℕ → ℕ → Type 0
  S = SecuredBut g v c

  -- they end at the mark
  size : length L ≡ s
  size = let l = whole_length d s [] within in omega (arith, l)

  -- they are the decided list
  decided : Agree s L d
  decided = whole_begins d s [] within

  -- what is known of the saved stage
  now : IsSound h d h.told v (of_replica d (left_replica c))
  now = o.mine.stands.now

  -- what counts is below the mark, since the saved log held it and not the mark
  keeps : (R : Reign) (m : ℕ) → Counts h h.told v R m → Keeps R m L
  keeps R m x =
      let kept = (now.keeps R m x).there in
      ⊎_elim
      (λ high.
      let list : Agree s d R.log = decided_safe o.common R m s x.led x.safe (omega (arith, above)) within high in
      let held : Agree s X R.log = agree_less s high kept in
      absurd (apart held.left (term_agree s held (omega arith) ∙ sym (term_agree s list (omega arith)))))
      (λ low.
      let list : Agree m d R.log = decided_safe o.common R m m x.led x.safe x.own.place (omega (arith, low, within)) (omega arith) in
      record {
        there = agree_trans (agree_less m (omega (arith, low)) decided) list;
        clean = λ j a most.
            let y : IsDecided g.voters h d j = o.common.decided j (omega (arith, x.own.place, a)) (omega (arith, most, size, within)) in
            let at_j : term_of L j ≡ term_of d j = term_agree j decided (omega (arith, most, size)) in
            let same_j : term_of d j ≡ term_of y.reign.log j = term_agree j y.same (omega arith) in
            let same_m : term_of d m ≡ term_of y.reign.log m = term_agree m y.same a in
            let at_m : term_of d m ≡ R.term = term_agree m list (omega arith) ∙ x.own.term in
            let up = (o.common.reigns y.reign y.led).monotone m j a y.same.right in
            omega (arith, at_j, same_j, same_m, at_m, up);
      })
      (le_or s m)

  -- the stage that starts at the mark is sound
  sound : IsSound h d h.told v (of_replica d q)
  sound = record {
    front = omega arith;
    commit = decided;
    vote = now.vote;
    matches = λ j some m. let low : j ≤ s = omega (arith, m, size) in (record { decided = j; most = omega arith; front = agree_less j low decided; rest = λ l. absurd (omega (arith, l)) }, low);
    terms = λ j some m. inr (agree_less j (omega (arith, m, size)) decided);
    keeps = keeps;
    ahead = now.ahead;
  }

  -- up to the mark it counts as saved
  saved_to : (n : ℕ) → n ≡ s → IsSavedTo n (of_batch d c) (of_replica d q)
  saved_to n e = subst (λ i. IsSavedTo i (of_batch d c) (of_replica d q)) (sym e) (record {
    within = omega arith;
    same = sym (take-append-le s (take s L) (drop s (of_batch d c).log) (let l = length-take-le s L (omega (arith, size)) in omega (arith, l)) ∙ take-take s s L (omega arith));
  })

  -- what the saved state could tell, it can
  lives : Outlives h d v (of_replica d (left_replica c)) (of_replica d q)
  lives = record {
    term = omega arith;
    commit = commits;
    secured = λ t x y. y;
    holds = λ t n same x f.
        let i = min n (length L) in
        record { within = omega arith; decided = i; most = omega arith; limited = omega (arith, size); front = agree_less i (omega (arith, size)) decided; rest = λ l. absurd (omega (arith, l)) };
  }

  -- the host starts at its mark
  pub mark_step : Open h g v c q d w
  mark_step =
      let a = o.mine in
      let x = a.stands in
      replica_step o
      (record {
        stands = record {
          saved = x.saved;
          saving = x.saving;
          now = sound;
          first = x.first;
          second = record { term = omega arith; vote = λ e some. refl; commit = commits; front = omega (arith, above) };
          later = x.later;
          taken = record { term = refl; vote = refl; commit = refl; front = refl; tail = inr (inr (λ e. omega (arith, e, above))) };
          stable = omega arith;
          ends = omega arith;
          from = saved_to (last (reset s t) + 1 - 1) (omega arith);
          on_disk = saved_to (last (reset s t)) (omega arith);
          candidate = λ e. absurd (cc);
          leader = λ e. absurd (cc);
        };
        held = tt;
        waiting = λ p e. absurd (cc);
        inbox = λ x e. absurd (cc);
        covered = omega arith;
        based = (a.based.0, a.based.1, term);
      })
      refl lives
