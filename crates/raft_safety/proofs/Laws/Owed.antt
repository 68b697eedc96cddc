-- What each row of the step table owes: from a group at work on one host to what some history fits, with the decided list as it goes on.
use Rattle.std.proofs.Common.{◌≡◌, ◌≢◌, ℕ, List, Bool, true, Some, ◌++◌}
use Rattle.host_ids.specs.declared.entry.Entry.{Entry}
use Rattle.host_ids.specs.declared.entry.Key.{Key}
use Rattle.raft_model.specs.declared.saved.SavedState.{SavedState}
use Rattle.host_ids.specs.declared.proposal.Proposal.{Proposal}
use Rattle.wire_types.specs.declared.envelope.Envelope.{Envelope}
use Rattle.wire_types.specs.declared.envelope.Body.TheVariants as bodies
use Rattle.raft_model.specs.declared.state.State.{State as Replica}
use Rattle.raft_model.specs.declared.state.Pending.{Pending}
use Rattle.roster.specs.Roster.{Seat}
use Rattle.raft_model.specs.Replica.{Row, in_term}
use Rattle.raft_model.specs.Voting.{on_timeout, on_vote, on_vote_reply}
use Rattle.raft_model.specs.Appending.{on_append, on_append_reply}
use Rattle.raft_model.specs.Reading.{on_beat, on_beat_reply, on_read_ask, on_script_beat, on_ask}
use Rattle.raft_model.specs.Proposing.{on_propose, on_local_proposal}
use Rattle.raft_model.specs.Snapping.{compacted, sends_chunk, on_chunk, on_snap_reply, installed}
use Rattle.raft_model.specs.declared.chunk.Chunk.{Chunk}
use Rattle.raft_model.specs.Saving.{may_give, gave_batch, saved_batch}
use Rattle.raft_model.specs.Group.{Group, seat, merged, continued, is_decided}
use Rattle.raft_safety.specs.History.{History}
use Rattle.raft_safety.specs.Invariant.{IsOnWire}
use Rattle.raft_safety.proofs.Frame.Opened.{Open}
use Rattle.raft_safety.proofs.Frame.Settle.{Reached}

-- for any host but 0, at work in a group: the group, the host, the history, what the host has saved, its replica, the decided list and the wire
abbrev pub EachOpen : (Group → ℕ → History → SavedState → Replica → List Entry → List Envelope → Type 0) → Type 0
EachOpen P = (g : Group) (v : ℕ) (h : History) (b : SavedState) (r : Replica) (d : List Entry) (w : List Envelope) → v ≢ 0 → Open h g v b r d w → P g v h b r d w

-- a row that an input of the host meets leaves what some history fits
abbrev pub InputRow : (Seat → Replica → Row) → Type 0
InputRow f = EachOpen (λ g v h b r d w. Reached g v b d w (f (seat g v) r).replica)

-- so does a row that an envelope on the wire for the host meets, once its term is taken over
abbrev pub EnvelopeRow : Envelope → (Seat → Replica → Row) → Type 0
EnvelopeRow m f = EachOpen (λ g v h b r d w. m.to ≡ v → IsOnWire w m → Reached g v b d w (f (seat g v) (in_term m.term r)).replica)

-- what Timeout owes
abbrev pub TimeoutRow : Type 0
TimeoutRow = InputRow on_timeout

-- what the script's beat owes
abbrev pub ScriptBeatRow : Type 0
ScriptBeatRow = InputRow on_script_beat

-- what the local proposal owes
abbrev pub LocalProposalRow : Type 0
LocalProposalRow = (key : Key) (p : Proposal) → InputRow (λ s r. on_local_proposal s key p r)

-- what the local read owes
abbrev pub AskRow : Type 0
AskRow = (key : Key) → InputRow (λ s r. on_ask s key r)

-- what Vote owes
abbrev pub VoteRow : Type 0
VoteRow = (m : Envelope) (l lt : ℕ) → m.body ≡ bodies.Vote l lt → EnvelopeRow m (λ s r. on_vote s m.from m.term l lt r)

-- what VoteReply owes
abbrev pub VoteReplyRow : Type 0
VoteReplyRow = (m : Envelope) (granted : Bool) → m.body ≡ bodies.VoteReply granted → EnvelopeRow m (λ s r. on_vote_reply s m.from m.term granted r)

-- what Append owes
abbrev pub AppendRow : Type 0
AppendRow = (m : Envelope) (prev pt c : ℕ) (es : List Entry) → m.body ≡ bodies.Append prev pt c es → EnvelopeRow m (λ s r. on_append s m.from m.term prev pt c es r)

-- what AppendReply owes
abbrev pub AppendReplyRow : Type 0
AppendReplyRow = (m : Envelope) (ok : Bool) (i : ℕ) → m.body ≡ bodies.AppendReply ok i → EnvelopeRow m (λ s r. on_append_reply s m.from m.term ok i r)

-- what Beat owes
abbrev pub BeatRow : Type 0
BeatRow = (m : Envelope) (c round : ℕ) → m.body ≡ bodies.Beat c round → EnvelopeRow m (λ s r. on_beat s m.from m.term c round r)

-- what BeatReply owes, whatever the envelope's body is
abbrev pub BeatReplyRow : Type 0
BeatReplyRow = (m : Envelope) (round : ℕ) → EnvelopeRow m (λ s r. on_beat_reply s m.from m.term round r)

-- what Propose owes
abbrev pub ProposeRow : Type 0
ProposeRow = (key : Key) (p : Proposal) → InputRow (λ s r. on_propose s key p r)

-- what ReadAsk owes
abbrev pub ReadAskRow : Type 0
ReadAskRow = (from : ℕ) (key : Key) → InputRow (λ s r. on_read_ask s from key r)

-- what the sending of a chunk of a decided place owes
abbrev pub SendChunkRow : Type 0
SendChunkRow = (to : ℕ) (c : Chunk) → EachOpen (λ g v h b r d w. is_decided d c.index c.last_term ≡ true → Reached g v b d w (sends_chunk (seat g v) to c r).replica)

-- what SnapChunk owes
abbrev pub ChunkRow : Type 0
ChunkRow = (m : Envelope) (index lt number count size : ℕ) (bytes : List ℕ) → m.body ≡ bodies.SnapChunk index lt number count size bytes
    → EnvelopeRow m (λ s r. on_chunk s m.from (record { term = m.term; index = index; last_term = lt; number = number; count = count; size = size; bytes = bytes }) r)

-- what SnapReply owes
abbrev pub SnapReplyRow : Type 0
SnapReplyRow = (m : Envelope) (i want : ℕ) (all : Bool) → m.body ≡ bodies.SnapReply i want all → EnvelopeRow m (λ s r. on_snap_reply s m.from m.term i all r)

-- what Installed owes of a decided place
abbrev pub InstalledRow : Type 0
InstalledRow = (i t : ℕ) → EachOpen (λ g v h b r d w. is_decided d i t ≡ true → Reached g v b d w (installed (seat g v) i t r).replica)

-- what Compact owes
abbrev pub CompactRow : Type 0
CompactRow = (i : ℕ) → InputRow (λ s r. compacted i r)

-- what Ready owes: the held envelopes wait for the batch
abbrev pub ReadyRow : Type 0
ReadyRow = EachOpen (λ g v h b r d w. may_give r ≡ true → Reached g v b d w (gave_batch r))

-- what Saved owes: the batch is saved, and its envelopes are on the wire
abbrev pub SavedRow : Type 0
SavedRow = (p : Pending) → EachOpen (λ g v h b r d w. r.pending ≡ Some p
    → let q = (saved_batch (seat g v) p.batch r).replica in (k : History) × Open k g v (merged b p.batch) q (continued d q) (w ++ p.envelopes))

-- all that is owed
pub record Rows : Type 0 where
  pub timeout : TimeoutRow
  pub script_beat : ScriptBeatRow
  pub local_proposal : LocalProposalRow
  pub ask : AskRow
  pub vote : VoteRow
  pub vote_reply : VoteReplyRow
  pub append : AppendRow
  pub append_reply : AppendReplyRow
  pub beat : BeatRow
  pub beat_reply : BeatReplyRow
  pub propose : ProposeRow
  pub read_ask : ReadAskRow
  pub ready : ReadyRow
  pub compact : CompactRow
  pub send_chunk : SendChunkRow
  pub chunk : ChunkRow
  pub snap_reply : SnapReplyRow
  pub installed : InstalledRow
  pub saved : SavedRow
