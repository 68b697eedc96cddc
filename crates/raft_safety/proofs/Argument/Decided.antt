-- The decided list goes on by what a leader commits.
use Rattle.std.proofs.Common.{◌≡◌, ⊎_elim, ℕ, ◌<◌, ◌≤◌, List, [], ◌∷◌, length, sym, ap, ◌∙◌, subst}
use Rattle.std.proofs.lemmas.Bool.{cases_order}
use Rattle.host_ids.specs.declared.entry.Entry.{Entry}
use Rattle.raft_safety.specs.History.{Reign, History, IsLed, Agree, IsSafe, IsChosen}
use Rattle.raft_safety.specs.Invariant.{LaterKeep, Common, IsDecided}
use Rattle.raft_safety.proofs.Argument.Chosen.{safe_among}
use Rattle.raft_safety.proofs.Argument.Agreement.{agree_sym, agree_trans, agree_less}

-- two reigns of one term are the same
pub one_reign : (h : History) (rs : List Reign) (P Q : Reign) → LaterKeep h rs → IsLed rs P → IsLed rs Q → P.term ≡ Q.term → P ≡ Q
one_reign h [] P Q keep p q e = absurd p
one_reign h (R ∷ older) P Q keep p q e =
    ⊎_elim
    (λ a. ⊎_elim (λ b. a ∙ sym b) (λ b. absurd ((keep.1 Q b).0 (sym e ∙ ap (λ (S : Reign). S.term) a))) q)
    (λ a. ⊎_elim (λ b. absurd ((keep.1 P a).0 (e ∙ ap (λ (S : Reign). S.term) b))) (λ b. one_reign h older P Q keep.2 a b e) q)
    p

module _ {voters : List ℕ} {h : History} {d : List Entry} {Secured : ℕ → ℕ → ℕ → Type 0} (i : Common voters h d Secured) where
  -- so two of the reigns that are remembered are the same where their terms are
  pub same_reign : (P Q : Reign) → IsLed h.reigns P → IsLed h.reigns Q → P.term ≡ Q.term → P ≡ Q
  same_reign P Q = one_reign h h.reigns P Q i.later

  -- a chosen place of a reign is safe: the logs of all later terms hold it
  pub safe : {R : Reign} {n : ℕ} → IsLed h.reigns R → IsChosen voters h R n → IsSafe h.reigns R n
  safe {R} {n} led c = safe_among i.levels led c h.reigns i.later (λ Q q. (i.reigns Q q).majority)

  -- as far as a place of a reign is safe, the decided list agrees with that reign's log
  pub decided_safe : (R : Reign) (n k : ℕ) → IsLed h.reigns R → IsSafe h.reigns R n → 0 < k → k ≤ length d → k ≤ n → Agree k d R.log
  decided_safe R n k led s some within most =
      let q : IsDecided voters h d k = i.decided k some within in
      ⊎_elim
      (λ e. subst (λ S. Agree k d S.log) (same_reign q.reign R q.led led e) q.same)
      (λ o. ⊎_elim
      (λ less. agree_trans q.same (agree_sym (agree_less k q.reach (safe q.led q.chosen R led less))))
      (λ more. agree_trans q.same (agree_less k most (s q.reign q.led more)))
      o)
      (cases_order q.reign.term R.term)

  -- as far as a place of a reign is chosen, the decided list agrees with that reign's log: so it goes on by it
  pub decided_fits : {R : Reign} {n : ℕ} (k : ℕ) → IsLed h.reigns R → IsChosen voters h R n → 0 < k → k ≤ length d → k ≤ n → Agree k d R.log
  decided_fits {R} {n} k led c = decided_safe R n k led (safe led c)
