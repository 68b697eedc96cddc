-- What a host has committed it may answer for in its term, whoever leads that.
use Rattle.std.proofs.Common.{◌≡◌, ◌⊎◌, ⊎_elim, ℕ, ◌<◌, ◌≤◌, List, false, arith, inl, inr, refl}
use Rattle.host_ids.specs.declared.entry.Entry.{Entry}
use Rattle.raft_model.specs.declared.saved.SavedState.{SavedState}
use Rattle.wire_types.specs.declared.envelope.Envelope.{Envelope}
use Rattle.raft_model.specs.declared.state.State.{State as Replica}
use Rattle.raft_model.specs.Group.{Group}
use Rattle.raft_safety.specs.History.{Reign, History, IsLed, IsOld}
use Rattle.raft_safety.specs.Invariant.{IsDecided}
use Rattle.raft_safety.proofs.Argument.Agreement.{agree_less, le_or}
use Rattle.raft_safety.proofs.Frame.Growth.{never_true}
use Rattle.raft_safety.proofs.Frame.Opened.{Open}

module _ {g : Group} {v : ℕ} {h : History} {b : SavedState} {r : Replica} {d : List Entry} {w : List Envelope} (o : Open h g v b r d w) where
  -- in its term a host is in no quorum of a term above
  pub outside : (Q : Reign) → IsLed h.reigns Q → r.term < Q.term → Q.quorum v ≡ false
  outside Q led above = never_true (Q.quorum v) (λ yes.
      let s = o.mine.stands in
      let sec = ((o.common.reigns Q led).votes v yes).1 in
      ⊎_elim
      (λ m. ⊎_elim (λ l. omega (arith, l, s.first.term, s.second.term, above)) (λ p. omega (arith, p.0, s.first.term, s.second.term, above)) m.1)
      (λ m. m.0 refl)
      sec)

  -- what is committed was decided in this term or above, or below
  pub old_answer : (level : ℕ → ℕ → ℕ) (n : ℕ) → n ≤ r.commit → (n ≤ level v r.term) ⊎ IsOld h d v r.term n
  old_answer level n low =
      ⊎_elim
      (λ none. inl (omega (arith, none, low)))
      (λ some.
      let y : IsDecided g.voters h d r.commit = o.common.decided r.commit some o.mine.stands.now.commit.right in
      ⊎_elim
      (λ high. inr (inl (record { reign = y.reign; led = y.led; above = high; decided = agree_less n low y.same; outside = λ Q led above order. outside Q led above })))
      (λ less. inr (inr (record { place = r.commit; most = low; some = some; within = o.mine.stands.now.commit.right; below = omega (arith, less, y.term) })))
      (le_or r.term y.reign.term))
      (le_or r.commit 0)
