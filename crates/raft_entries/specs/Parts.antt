-- The parts of a replica that entries stand in, or that say where they stand, and the other numbers that its rows count with. Source: this project's own.
use Rattle.std.specs.Prelude.{ℕ, List, Option}
use Rattle.wire_types.specs.declared.envelope.Envelope.{Envelope}
use Rattle.raft_model.specs.declared.chunk.Chunk.{Chunk}
use Rattle.raft_model.specs.declared.state.Inbox.{Inbox}
use Rattle.raft_model.specs.declared.role.Role.{Role}
use Rattle.raft_model.specs.declared.state.State.{State as Replica}
use Rattle.raft_model.specs.declared.state.Pending.{Pending}
use Rattle.log_view.specs.Log.{Log}

-- its fields that a law on entries or on numbers goes by
pub record Parts : Type 0 where
  pub term : ℕ
  pub role : Role
  pub log : Log
  pub commit : ℕ
  pub stable : ℕ
  pub from : ℕ
  pub held : List Envelope
  pub pending : Option Pending
  pub round : ℕ
  pub batches : ℕ
  pub matched : List ℕ
  pub assembly : List Chunk
  pub inbox : Option Inbox

-- those fields of a replica
abbrev pub parts : Replica → Parts
parts r = record {
  term = r.term;
  role = r.role;
  log = r.log;
  commit = r.commit;
  stable = r.stable;
  from = r.from;
  held = r.held;
  pending = r.pending;
  round = r.reads.round;
  batches = r.batches;
  matched = r.matched;
  assembly = r.assembly;
  inbox = r.inbox;
}
