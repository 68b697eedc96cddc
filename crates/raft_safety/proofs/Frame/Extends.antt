-- A reign as it stands later: its leader's log only grows.
use Rattle.std.proofs.Common.{◌≡◌, ℕ, ◌<◌, ◌≤◌, length, refl, arith}
use Rattle.raft_model.specs.Group.{term_of}
use Rattle.raft_safety.specs.History.{Reign, Agree}
use Rattle.raft_safety.proofs.Argument.Agreement.{term_agree}

-- a reign later: the same one, whose leader has appended entries of its term
pub record Extends (R S : Reign) : Type 0 where
  pub term : S.term ≡ R.term
  pub leader : S.leader ≡ R.leader
  pub quorum : S.quorum ≡ R.quorum
  pub order : S.order ≡ R.order
  pub log : Agree (length R.log) S.log R.log
  pub new : (k : ℕ) → length R.log < k → k ≤ length S.log → term_of S.log k ≡ R.term

-- a reign is itself later
pub extends_none : (R : Reign) → Extends R R
extends_none R = record { term = refl; leader = refl; quorum = refl; order = refl; log = record { left = omega arith; right = omega arith; same = refl }; new = λ n a b. absurd (omega (arith, a, b)) }

-- a place of a reign keeps its term
pub extends_term : {R S : Reign} (n : ℕ) → Extends R S → n ≤ length R.log → term_of S.log n ≡ term_of R.log n
extends_term {R} {S} n x m = term_agree n x.log m
