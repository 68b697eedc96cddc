-- Every row keeps what it owes, so every event that is allowed keeps the invariant.
use Rattle.std.proofs.Common.{refl}
use Rattle.raft_model.specs.declared.event.LaneEvent.{LaneEvent}
use Rattle.raft_model.specs.declared.event.LaneEvent.TheVariants as events
use Rattle.raft_safety.specs.Events.{IsAllowed, IsPlain}
use Rattle.raft_safety.specs.Agreed.{StaysKept, PlainKept}
use Rattle.raft_safety.proofs.Laws.Owed.{Rows}
use Rattle.raft_safety.proofs.Elections.Timeout.{timeout_row}
use Rattle.raft_safety.proofs.Elections.Vote.{vote_row}
use Rattle.raft_safety.proofs.Elections.VoteReply.{vote_reply_row}
use Rattle.raft_safety.proofs.Replication.Append.{append_kept}
use Rattle.raft_safety.proofs.Replication.AppendReply.{append_reply_kept}
use Rattle.raft_safety.proofs.Replication.Beat.{beat_kept, beat_reply_kept, script_beat_kept, read_ask_kept, ask_kept}
use Rattle.raft_safety.proofs.Replication.Propose.{propose, local_proposal}
use Rattle.raft_safety.proofs.Saving.Ready.{ready_row}
use Rattle.raft_safety.proofs.Snapshots.Compact.{compact_row}
use Rattle.raft_safety.proofs.Snapshots.Chunk.{send_chunk_row, chunk_row, snap_reply_row}
use Rattle.raft_safety.proofs.Snapshots.Install.{installed_row}
use Rattle.raft_safety.proofs.Saving.Saved.{saved_row}
use Rattle.raft_safety.proofs.Laws.Events.{event_kept}

-- every row keeps what it owes
pub rows : Rows
rows = record {
  timeout = timeout_row;
  script_beat = script_beat_kept;
  local_proposal = local_proposal;
  ask = ask_kept;
  vote = vote_row;
  vote_reply = vote_reply_row;
  append = append_kept;
  append_reply = append_reply_kept;
  beat = beat_kept;
  beat_reply = beat_reply_kept;
  propose = propose;
  read_ask = read_ask_kept;
  ready = ready_row;
  compact = compact_row;
  send_chunk = send_chunk_row;
  chunk = chunk_row;
  snap_reply = snap_reply_row;
  installed = installed_row;
  saved = saved_row;
}

-- each event that is allowed keeps the invariant
pub stays_kept : StaysKept
stays_kept = event_kept rows

-- and so does each plain one, which is allowed in any group
pub plain_kept : PlainKept
plain_kept e plain g k = stays_kept e g (allowed e plain) k
  where
    allowed : (e : LaneEvent) → IsPlain e → IsAllowed g e
    allowed (events.Chunk v to c) p = absurd p
    allowed (events.Installed v i t) p = absurd p
    allowed (events.Restart v s) p = absurd p
    allowed e p = refl
