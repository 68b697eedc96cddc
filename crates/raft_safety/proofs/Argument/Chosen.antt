-- What a majority has answered is in the log of every later term.
use Rattle.std.proofs.lemmas.Bool.{leb-true}
use Rattle.std.proofs.Common.{◌≡◌, ⊎_elim, ℕ, ◌<◌, List, [], ◌∷◌, true, refl, sym, subst, arith, inl, inr}
use Rattle.roster.specs.Roster.{is_majority}
use Rattle.raft_safety.specs.History.{Reign, History, IsLed, Agree, has_answered, IsSafe, IsChosen}
use Rattle.raft_safety.specs.Invariant.{LaterKeep, IsLevel}
use Rattle.raft_safety.proofs.Argument.Quorums.{in_both}

module _ {voters : List ℕ} {h : History} (levels : (v t : ℕ) → IsLevel h v t) {R : Reign} {n : ℕ} (led : IsLed h.reigns R) (c : IsChosen voters h R n) where
  -- a chosen place is safe among any reigns in the order of their elections, of which each keeps what its voters held:
  -- its majority of answers and each later quorum share a voter
  pub safe_among : (rs : List Reign) → LaterKeep h rs → ((Q : Reign) → IsLed rs Q → is_majority voters Q.quorum ≡ true) → IsSafe rs R n
  safe_among [] keep majority Q in_rs above = absurd in_rs
  safe_among (P ∷ older) keep majority Q in_rs above =
      let before : IsSafe older R n = safe_among older keep.2 (λ S i. majority S (inr i)) in
      ⊎_elim
      (λ e.
      let both = in_both voters P.quorum (has_answered h R n) (majority P (inl refl)) c.answered in
      subst (λ S. R.term < S.term → Agree n S.log R.log) (sym e)
      (λ a. keep.0 R n both.0 led a c.own before both.1 (let l = levels both.0 R.term in omega (arith, leb-true n (h.answer both.0 R.term) both.2, l.answer, l.saving))) above)
      (λ i. before Q i above)
      in_rs
