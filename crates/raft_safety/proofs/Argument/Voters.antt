-- A granted vote shows that the candidate's log holds what the voter held.
use Rattle.std.proofs.Common.{◌≡◌, ◌⊎◌, ⊎_elim, ℕ, zero, suc, ◌<◌, ◌≤◌, List, length, sym, ◌∙◌, subst, arith}
use Rattle.std.proofs.lemmas.Bool.{cases_order}
use Rattle.host_ids.specs.declared.entry.Entry.{Entry}
use Rattle.raft_model.specs.Group.{term_of}
use Rattle.raft_safety.specs.History.{Reign, History, IsLed, Agree, IsOwn, IsSafe, Matches, MatchesAt, Keeps}
use Rattle.raft_safety.specs.Invariant.{Common}
use Rattle.raft_safety.proofs.Argument.Agreement.{agree_sym, agree_trans, agree_less, agree_none, term_agree, glue, le_or}
use Rattle.raft_safety.proofs.Argument.Decided.{decided_safe, same_reign}

module _ {voters : List ℕ} {h : History} {d : List Entry} {Secured : ℕ → ℕ → ℕ → Type 0} (i : Common voters h d Secured) {Q : Reign} {n : ℕ} (led : IsLed h.reigns Q) (own : IsOwn Q n)
    (safe : IsSafe h.reigns Q n) {X : List Entry} (C : List Entry) (kept : Keeps Q n X)
    (late : (term_of X (length X) < term_of C (length C)) ⊎ ((term_of C (length C) ≡ term_of X (length X)) × (length X ≤ length C))) where
  -- the voter's log ends in a term that isn't below the reign's
  own_last : Q.term ≤ term_of X (length X)
  own_last = kept.clean (length X) kept.there.left (omega arith)

  -- if the candidate's log ends in no higher term than the reign's, it is as long as what the voter held
  long_enough : term_of C (length C) ≤ Q.term → n ≤ length C
  long_enough low = ⊎_elim (λ l. absurd (omega (arith, l, low, own_last))) (λ p. omega (arith, p.1, kept.there.left)) late

  -- the candidate's log doesn't end in a term below the reign's
  not_below : term_of C (length C) < Q.term → ⊥
  not_below low = ⊎_elim (λ l. omega (arith, l, low, own_last)) (λ p. omega (arith, p.0, low, own_last)) late

  -- where the candidate's log is that of a reign up to its end, it holds what the voter held
  by_reign : (R : Reign) → IsLed h.reigns R → R.term ≡ term_of C (length C) → Agree (length C) C R.log → Agree n C Q.log
  by_reign R r e c =
      ⊎_elim
      (λ same.
      let m : n ≤ length C = long_enough (omega (arith, same, e)) in
      subst (λ S. Agree n C S.log) (same_reign i R Q r led same) (agree_less n m c))
      (λ o. ⊎_elim
      (λ less. absurd (not_below (omega (arith, less, e))))
      (λ more.
      let q : Agree n R.log Q.log = safe R r more in
      let m : n ≤ length C = ⊎_elim (λ l. l) (λ s.
      let k : term_of C (length C) ≡ term_of Q.log (length C) = term_agree (length C) c (omega arith) ∙ term_agree (length C) q (omega (arith, s)) in
      let b : length C ≤ length Q.log = omega (arith, s, own.within) in
      absurd (omega (arith, k, e, more, (i.reigns Q led).terms (length C) b))) (le_or n (length C)) in
      agree_trans (agree_less n m c) q)
      o)
      (cases_order R.term Q.term)

  -- decided places agree with the reign's log as far as what the voter held reaches
  front_fits : (k : ℕ) → Agree k C d → k ≤ n → Agree k C Q.log
  front_fits zero c m = agree_none C Q.log
  front_fits (suc k) c m = agree_trans c (decided_safe i Q n (suc k) led safe (omega arith) c.right m)

  -- so a candidate whose log is at least as late as the voter's holds what the voter held of a safe place
  pub voter_saw : Matches h d C → Agree n C Q.log
  voter_saw matches =
      ⊎_elim
      (λ none.
      let few : length C ≤ 0 = none in
      let empty : 0 ≡ length C = omega (arith, few) in
      let low : term_of C (length C) ≤ Q.term = subst (λ j. term_of C j ≤ Q.term) empty (omega arith) in
      absurd (omega (arith, few, long_enough low, own.place)))
      (λ some.
      let m : MatchesAt h d C (length C) = matches (length C) some (omega arith) in
      ⊎_elim
      (λ in_front. front_fits n (agree_less n in_front m.front) (omega arith))
      (λ past.
      let f : Agree m.decided C Q.log = front_fits m.decided m.front (omega (arith, past)) in
      ⊎_elim
      (λ whole.
      let e : m.decided ≡ length C = omega (arith, whole, m.most) in
      let k : term_of C (length C) ≡ term_of Q.log (length C) = term_agree (length C) f (omega (arith, e)) in
      absurd (omega (arith, e, past, long_enough (omega (arith, k, (i.reigns Q led).terms (length C) (omega (arith, e, f.right)))))))
      (λ rest.
      let r = m.rest rest in
      let t : r.0.term ≡ term_of C (length C) = r.2 in
      let fits : Agree m.decided C r.0.log =
      ⊎_elim
      (λ same. subst (λ S. Agree m.decided C S.log) (sym (same_reign i r.0 Q r.1 led same)) f)
      (λ o. ⊎_elim (λ less. absurd (not_below (omega (arith, less, t))))
      (λ more. agree_trans f (agree_sym (agree_less m.decided (omega (arith, past)) (safe r.0 r.1 more)))) o)
      (cases_order r.0.term Q.term) in
      by_reign r.0 r.1 t (glue m.most (omega arith) fits r.3))
      (le_or (length C) m.decided))
      (le_or n m.decided))
      (le_or (length C) 0)
