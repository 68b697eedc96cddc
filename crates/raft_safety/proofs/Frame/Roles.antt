-- What the tests of a replica's role mean.
use Rattle.std.proofs.Common.{◌≡◌, true, false, Bool, refl}
use Rattle.raft_model.specs.declared.role.Role.{Role}
use Rattle.raft_model.specs.declared.role.Role.TheVariants.{Follower, Candidate, Leader}
use Rattle.raft_model.specs.declared.state.State.{State as Replica}
use Rattle.raft_model.specs.Replica.{is_leader, is_candidate, is_follower}

-- a replica that passes the test of leaders leads
pub leads : (r : Replica) → is_leader r ≡ true → r.role ≡ Leader
leads r e = of_role r.role e
  where
    of_role : (x : Role) → (elim x as (λ _. Bool) [ Follower ↦ false | Candidate ↦ false | Leader ↦ true ]) ≡ true → x ≡ Leader
    of_role Follower e = absurd (cc)
    of_role Candidate e = absurd (cc)
    of_role Leader e = refl

-- one that passes the test of candidates is one
pub stands_for : (r : Replica) → is_candidate r ≡ true → r.role ≡ Candidate
stands_for r e = of_role r.role e
  where
    of_role : (x : Role) → (elim x as (λ _. Bool) [ Follower ↦ false | Candidate ↦ true | Leader ↦ false ]) ≡ true → x ≡ Candidate
    of_role Follower e = absurd (cc)
    of_role Candidate e = refl
    of_role Leader e = absurd (cc)

-- and one that passes the test of followers
pub waits : (r : Replica) → is_follower r ≡ true → r.role ≡ Follower
waits r e = of_role r.role e
  where
    of_role : (x : Role) → (elim x as (λ _. Bool) [ Follower ↦ true | Candidate ↦ false | Leader ↦ false ]) ≡ true → x ≡ Follower
    of_role Follower e = refl
    of_role Candidate e = absurd (cc)
    of_role Leader e = absurd (cc)
