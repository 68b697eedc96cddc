-- What a majority has matched of a leader's own: where some of those answers were old, the place is decided already.
use Rattle.std.proofs.Common.{◌≡◌, ◌⊎◌, ⊎_elim, ℕ, ◌<◌, ◌≤◌, List, [], ◌∷◌, true, false, refl, sym, ap, subst, arith, inl, inr}
use Rattle.std.specs.Prelude.{nat_le}
use Rattle.std.proofs.lemmas.Bool.{cases_eq, leb-true}
use Rattle.host_ids.specs.declared.entry.Entry.{Entry}
use Rattle.raft_model.specs.declared.saved.SavedState.{SavedState}
use Rattle.wire_types.specs.declared.envelope.Envelope.{Envelope}
use Rattle.wire_types.specs.declared.envelope.Body.TheVariants as bodies
use Rattle.raft_model.specs.declared.state.State.{State as Replica}
use Rattle.raft_model.specs.declared.role.Role.TheVariants.{Leader}
use Rattle.roster.specs.Roster.{at, is_majority}
use Rattle.raft_model.specs.Group.{Group}
use Rattle.raft_safety.specs.History.{Reign, History, IsLed, Agree, IsOwn, IsSafe, IsLate, IsEarly, IsOld}
use Rattle.raft_safety.specs.Replicas.{IsLeader}
use Rattle.raft_safety.specs.Envelopes.{Tells}
use Rattle.raft_safety.specs.Invariant.{IsDecided, LaterKeep, HasAnswer}
use Rattle.raft_safety.proofs.Argument.Agreement.{agree_sym, agree_trans, agree_less, le_or}
use Rattle.raft_safety.proofs.Argument.Decided.{safe, same_reign}
use Rattle.raft_safety.proofs.Argument.Quorums.{in_both}
use Rattle.raft_safety.proofs.Frame.Growth.{old_less}
use Rattle.raft_safety.proofs.Frame.Opened.{Open}
use Rattle.raft_safety.proofs.Frame.Settle.{delivered}

module _ {g : Group} {v : ℕ} {h : History} {b : SavedState} {r : Replica} {d : List Entry} {w : List Envelope} (o : Open h g v b r d w) where
  -- what was answered on the wire is saved, or late
  pub heard_most : {u t i : ℕ} → HasAnswer w u t i → (i ≤ h.answer u t) ⊎ IsOld h d u t i
  heard_most {u} {t} {i} a =
      let told = delivered a.envelope o a.there in
      let E = a.envelope in
      let all : (E.from ≡ u) → (a.index ≤ h.answer E.from E.term) ⊎ IsOld h d E.from E.term a.index → (i ≤ h.answer u t) ⊎ IsOld h d u t i = λ from counts.
      let most : (i ≤ h.answer E.from E.term) ⊎ IsOld h d E.from E.term i =
      ⊎_elim (λ c. inl (omega (arith, a.most, c))) (λ y. inr (old_less h d E.from E.term i a.index a.most y)) counts in
      subst (λ s. (i ≤ h.answer u s) ⊎ IsOld h d u s i) a.term (subst (λ p. (i ≤ h.answer p E.term) ⊎ IsOld h d p E.term i) from most) in
      ⊎_elim
      (λ e.
      let x : Tells h d (HasAnswer w) h.answer E.from E.to E.term (bodies.AppendReply true a.index) told.stage =
      subst (λ y. Tells h d (HasAnswer w) h.answer E.from E.to E.term y told.stage) e told.tells in
      all a.from (x refl).counts)
      (λ e.
      let x : Tells h d (HasAnswer w) h.answer E.from E.to E.term (bodies.SnapReply a.index e.0 true) told.stage =
      subst (λ y. Tells h d (HasAnswer w) h.answer E.from E.to E.term y told.stage) e.1 told.tells in
      all a.from (x refl).counts)
      a.body

  module _ (leads : r.role ≡ Leader) where
    -- what is known of a leader
    abbrev l : IsLeader h d (HasAnswer w) v r
    l = o.mine.stands.leader leads

    -- its reign
    abbrev R : Reign
    R = l.reign

    -- what a majority has matched, of the leader's own: where some answers were late, it is decided already
    module _ {n : ℕ} (own : IsOwn R n) (matched : is_majority g.voters (λ u. nat_le n (at r.matched u)) ≡ true) where
      -- a voter that has matched the place has saved that answer, or its answer is of a term that is over
      pub hears : (u : ℕ) → nat_le n (at r.matched u) ≡ true → (n ≤ h.answer u R.term) ⊎ IsOld h d u R.term n
      hears u passed =
          let most = leb-true n (at r.matched u) passed in
          subst (λ t. (n ≤ h.answer u t) ⊎ IsOld h d u t n) (sym l.term)
          (⊎_elim
          (λ me. subst (λ x. (n ≤ h.answer x r.term) ⊎ IsOld h d x r.term n) (sym me) (l.own n own (subst (λ x. n ≤ at r.matched x) me most)))
          (λ other. ⊎_elim
          (λ z. absurd (omega (arith, z, most, own.place)))
          (λ a. ⊎_elim (λ c. inl (omega (arith, most, c))) (λ y. inr (old_less h d u r.term n (at r.matched u) most y)) (heard_most a))
          (l.matched u other))
          (cases_eq u v))

      -- an answer late since a later leader decided the place: the leader's log is the decided list up to it
      pub by_late : {u : ℕ} (y : IsLate h.reigns d u R.term n) → (R.term < y.reign.term → Agree n y.reign.log R.log) → Agree n R.log d
      by_late y later =
          ⊎_elim
          (λ low. agree_sym (subst (λ S. Agree n d S.log) (same_reign o.common y.reign R y.led l.led (omega (arith, low, y.above))) y.decided))
          (λ high. agree_sym (agree_trans y.decided (later high)))
          (le_or y.reign.term R.term)

      -- an answer early since the place was decided in a term below: the leader's log holds it
      pub by_early : IsEarly h.decided_in d R.term n → Agree n R.log d
      by_early x =
          let y : IsDecided g.voters h d x.place = o.common.decided x.place x.some x.within in
          agree_less n x.most
          (agree_trans
          (agree_less x.place y.reach (safe o.common y.led y.chosen R l.led (omega (arith, x.below, y.term))))
          (agree_sym y.same))

      -- of the reigns in order, each later one keeps the place, or the place is decided already
      pub among : (rs : List Reign) → LaterKeep h rs → ((Q : Reign) → IsLed rs Q → IsLed h.reigns Q) → ((Q : Reign) → IsLed h.reigns Q → IsLed rs Q ⊎ ((S : Reign) → IsLed rs S → S.order < Q.order))
          → IsSafe rs R n ⊎ Agree n R.log d
      among [] keep led rest = inl (λ Q q above. absurd q)
      among (P ∷ older) keep led rest =
          let further : (Q : Reign) → IsLed h.reigns Q → IsLed older Q ⊎ ((S : Reign) → IsLed older S → S.order < Q.order) = λ Q q. ⊎_elim
          (λ here. ⊎_elim
          (λ e. inr (λ S s. let below = (keep.1 S s).1 in let same : Q.order ≡ P.order = ap (λ (T : Reign). T.order) e in omega (arith, below, same)))
          (λ i. inl i)
          here)
          (λ f. inr (λ S s. f S (inr s)))
          (rest Q q) in
          ⊎_elim
          (λ before. ⊎_elim
          (λ low. inl (λ Q q above. ⊎_elim (λ e. let same : Q.term ≡ P.term = ap (λ (T : Reign). T.term) e in absurd (omega (arith, same, above, low))) (λ i. before Q i above) q))
          (λ high.
          let both = in_both g.voters P.quorum (λ u. nat_le n (at r.matched u)) (o.common.reigns P (led P (inl refl))).majority matched in
          ⊎_elim
          (λ c.
          let y = o.common.levels both.0 R.term in
          let kept : Agree n P.log R.log = keep.0 R n both.0 l.led high own before both.1 (omega (arith, c, y.answer, y.saving)) in
          inl (λ Q q above. ⊎_elim (λ e. subst (λ S. Agree n S.log R.log) (sym e) kept) (λ i. before Q i above) q))
          (λ old. ⊎_elim
          (λ late. ⊎_elim
          (λ below. let no : P.quorum both.0 ≡ false = late.outside P (led P (inl refl)) high below in absurd (cc))
          (λ above.
          let is_older : IsLed older late.reign = ⊎_elim
          (λ here. ⊎_elim (λ e. let same : late.reign.order ≡ P.order = ap (λ (T : Reign). T.order) e in absurd (omega (arith, same, above))) (λ i. i) here)
          (λ f. absurd (let x = f P (inl refl) in omega (arith, x, above)))
          (rest late.reign late.led) in
          inr (by_late late (λ up. before late.reign is_older up)))
          (le_or P.order late.reign.order))
          (λ early. inr (by_early early))
          old)
          (hears both.0 both.2))
          (le_or P.term R.term))
          (λ done. inr done)
          (among older keep.2 (λ Q q. led Q (inr q)) further)
