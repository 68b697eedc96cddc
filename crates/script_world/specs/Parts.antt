-- The parts of the program in the words of the rules.
use Rattle.std.specs.Prelude.{Bool, true, false}
use Rattle.raft_model.specs.declared.role.Role.{Role}
use Rattle.raft_model.specs.declared.role.Role.TheVariants.{Follower, Candidate, Leader}
use Rattle.raft_model.specs.declared.event.LaneFault.{LaneFault}
use Rattle.raft_model.specs.declared.event.LaneFault.TheVariants as faults

-- a replica in this role leads
abbrev pub is_leading : Role → Bool
is_leading role = elim role as (λ _. Bool) [ Follower ↦ false | Candidate ↦ false | Leader ↦ true ]

-- memory ran out, which is no refusal
abbrev pub is_memory : LaneFault → Bool
is_memory faults.NotMember = false
is_memory faults.IsDown = false
is_memory faults.IsUp = false
is_memory faults.NoEnvelope = false
is_memory (faults.NotPending pending) = false
is_memory (faults.NotRipe ripe) = false
is_memory faults.NoMemory = true
