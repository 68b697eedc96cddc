-- The step table: which row an input meets, and what goes on the wire after it. Source: dissertation chapter 3; the held envelopes are this project's own.
use Rattle.std.specs.Prelude.{ℕ, List, [], ◌++◌, Option, Some, None, if◌then◌else◌}
use Rattle.wire_types.specs.declared.envelope.Envelope.{Envelope}
use Rattle.wire_types.specs.declared.envelope.Body.{Body}
use Rattle.wire_types.specs.declared.envelope.Body.TheVariants as bodies
use Rattle.host_ids.specs.declared.batch.Batch.{Batch}
use Rattle.raft_model.specs.declared.input.Input.{Input}
use Rattle.raft_model.specs.declared.input.Input.TheVariants as inputs
use Rattle.raft_model.specs.declared.note.Note.{Note}
use Rattle.roster.specs.Roster.{Seat}
use Rattle.raft_model.specs.declared.state.State.{State as Replica}
use Rattle.raft_model.specs.declared.state.Pending.{Pending}
use Rattle.raft_model.specs.Replica.{Row, in_term, may_release}
use Rattle.raft_model.specs.Voting.{on_timeout, on_vote, on_vote_reply}
use Rattle.raft_model.specs.Appending.{on_append, on_append_reply}
use Rattle.raft_model.specs.Reading.{on_beat, on_beat_reply, on_read_ask, on_read_answer, on_script_beat, on_ask}
use Rattle.raft_model.specs.Snapping.{on_chunk, on_snap_reply, sends_chunk, compacted, installed}
use Rattle.raft_model.specs.Proposing.{on_propose, on_local_proposal}
use Rattle.raft_model.specs.Saving.{may_give, gave_batch, batch_of, saved_batch}

-- the replica, the notes, and the envelopes that go on the wire
pub record Step : Type 0 where
  pub replica : Replica
  pub notes : List Note
  pub sent : List Envelope

-- an envelope by its kind: those of a term first meet the rule on greater terms
abbrev pub on_body : Seat → ℕ → ℕ → Body → Replica → Row
on_body s from t (bodies.Vote l lt) r = on_vote s from t l lt (in_term t r)
on_body s from t (bodies.VoteReply granted) r = on_vote_reply s from t granted (in_term t r)
on_body s from t (bodies.Append prev pt c es) r = on_append s from t prev pt c es (in_term t r)
on_body s from t (bodies.AppendReply ok i) r = on_append_reply s from t ok i (in_term t r)
on_body s from t (bodies.Beat c round) r = on_beat s from t c round (in_term t r)
on_body s from t (bodies.BeatReply round) r = on_beat_reply s from t round (in_term t r)
on_body s from t (bodies.SnapChunk index last_term number count size bytes) r =
    on_chunk s from (record { term = t; index = index; last_term = last_term; number = number; count = count; size = size; bytes = bytes }) (in_term t r)
on_body s from t (bodies.SnapReply i want whole) r = on_snap_reply s from t i whole (in_term t r)
on_body s from t (bodies.Propose key p) r = on_propose s key p r
on_body s from t (bodies.ReadAsk key) r = on_read_ask s from key r
on_body s from t (bodies.ReadAnswer key i) r = on_read_answer s key i r

unfoldable pub row : Seat → Input → Replica → Row
row s inputs.Timeout r = on_timeout s r
row s inputs.Beat r = on_script_beat s r
row s (inputs.Envelope e) r = on_body s e.from e.term e.body r
row s (inputs.Propose key p) r = on_local_proposal s key p r
row s (inputs.Ask key) r = on_ask s key r
row s (inputs.Chunk to c) r = sends_chunk s to c r
row s (inputs.Compact i) r = compacted i r
row s (inputs.Installed i t) r = installed s i t r

-- the row, and then what may go on the wire after some envelopes
abbrev pub released : List Envelope → Row → Step
released before w =
    if may_release w.replica then record { replica = record w.replica { held = [] }; notes = w.notes; sent = before ++ w.replica.held }
    else record { replica = w.replica; notes = w.notes; sent = before }

abbrev pub step : Seat → Input → Replica → Step
step s input r = released [] (row s input r)

-- the batch, where Ready gives one
abbrev pub ready : Replica → Option Batch
ready r = if may_give r then Some (batch_of r) else None

abbrev pub after_ready : Replica → Replica
after_ready r = if may_give r then gave_batch r else r

-- Saved with the pending batch
abbrev pub saved : Seat → Pending → Replica → Step
saved s p r = released p.envelopes (saved_batch s p.batch r)
