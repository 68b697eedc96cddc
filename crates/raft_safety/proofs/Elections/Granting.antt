-- The end of a log as a vote's envelope says it, and what the tests of a vote mean.
use Rattle.std.proofs.Common.{◌≡◌, ◌⊎◌, ⊎_elim, ℕ, ◌<◌, ◌≤◌, true, inl, inr, ◌==◌, ◌&&◌, ◌||◌, not}
use Rattle.std.specs.Prelude.{nat_lt, nat_le}
use Rattle.std.proofs.lemmas.Bool.{ltb-true, ltb-false, leb-true, eqb-true, not-true, and_parts, or_cases}
use Rattle.raft_model.specs.declared.election.Election.{Election}
use Rattle.raft_model.specs.Voting.{grants}

-- a granted vote is free or the sender's, in no older term, and the sender's log is at least as late
pub record IsGranting (e : Election) (from t l lt : ℕ) : Type 0 where
  pub term : e.term ≤ t
  pub vote : (e.vote ≡ 0) ⊎ (e.vote ≡ from)
  pub late : (e.last_term < lt) ⊎ ((lt ≡ e.last_term) × (e.last ≤ l))

-- the voter's test says just this
pub granting : (e : Election) (from t l lt : ℕ) → grants e from t l lt ≡ true → IsGranting e from t l lt
granting e from t l lt test =
    let a = and_parts (not (nat_lt t e.term)) (((e.vote == 0) || (e.vote == from)) && (nat_lt e.last_term lt || ((lt == e.last_term) && nat_le e.last l))) test in
    let b = and_parts ((e.vote == 0) || (e.vote == from)) (nat_lt e.last_term lt || ((lt == e.last_term) && nat_le e.last l)) a.1 in
    record {
      term = ltb-false t e.term (not-true (nat_lt t e.term) a.0);
      vote = ⊎_elim (λ x. inl (eqb-true e.vote 0 x)) (λ x. inr (eqb-true e.vote from x)) (or_cases (e.vote == 0) (e.vote == from) b.0);
      late = ⊎_elim
          (λ x. inl (ltb-true e.last_term lt x))
          (λ x. let y = and_parts (lt == e.last_term) (nat_le e.last l) x in inr (eqb-true lt e.last_term y.0, leb-true e.last l y.1))
          (or_cases (nat_lt e.last_term lt) ((lt == e.last_term) && nat_le e.last l) b.1);
    }
