-- A replica as its callers see it: its place, its state, and what it has released to be sent.
use Rattle.std.specs.Prelude.{ℕ, List, []}
use Rattle.wire_types.specs.declared.envelope.Envelope.{Envelope}
use Rattle.raft_model.specs.declared.state.State.{State}
use Rattle.roster.specs.Roster.{Seat}
use Rattle.raft_model.specs.Replica.{fresh}

pub record Core : Type 0 where
  pub seat : Seat
  pub state : State
  pub out : List Envelope

abbrev pub begun : ℕ → ℕ → List ℕ → Core
begun group me voters = record { seat = record { group = group; me = me; voters = voters }; state = fresh; out = [] }
