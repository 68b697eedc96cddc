-- Entries are numbered, their terms are at least 1 and at most those that they were sent or saved in, and logs stand where batches reach. Source: this project's own.
use Rattle.std.specs.Prelude.{◌≡◌, ◌≤◌, ◌<◌, ◌⊎◌, ℕ, ◌+◌, List, [], ◌∷◌, max, IfSome, ⊤}
use Rattle.std.specs.List.{All}
use Rattle.host_ids.specs.declared.entry.Entry.{Entry}
use Rattle.host_ids.specs.declared.batch.Batch.{Batch}
use Rattle.wire_types.specs.declared.envelope.Envelope.{Envelope}
use Rattle.raft_model.specs.declared.role.Role.TheVariants.{Follower}
use Rattle.raft_model.specs.declared.state.Pending.{Pending}
use Rattle.log_view.specs.Log.{Log, last}
use Rattle.raft_model.specs.declared.saved.SavedState.{SavedState}
use Rattle.raft_model.specs.Restarting.{state_of, log_of, begun_log, begun_commit}
use Rattle.raft_model.specs.Saving.{batch_last}
use Rattle.raft_entries.specs.Mail.{Following, InMail}
use Rattle.raft_entries.specs.Kept.{Having, then_saved}
use Rattle.raft_entries.specs.Parts.{Parts, parts}

-- the entries have this index and the next ones, and terms of at least 1
abbrev pub Numbered : ℕ → List Entry → Type 0
Numbered n [] = ⊤
Numbered n (e ∷ es) = (e.index ≡ n) × (1 ≤ e.term) × Numbered (n + 1) es

-- the entries have terms of at most this one
abbrev pub UpTo : ℕ → List Entry → Type 0
UpTo t es = All (λ e. e.term ≤ t) es

-- the entries of a batch begin at its first index, above its front, with no term above its own; its commit index lies from its front to its last index
pub record IsBatch (b : Batch) : Type 0 where
  pub entries : Numbered b.first b.entries
  pub terms : UpTo b.term b.entries
  pub above_front : b.front < b.first
  pub front_committed : b.front ≤ b.commit
  pub committed : b.commit ≤ batch_last b

-- what is saved is numbered as a log from right after its front on, with no term above its own, and its commit index lies in it
pub record IsSaved (b : SavedState) : Type 0 where
  pub entries : Numbered (b.front + 1) b.entries
  pub terms : UpTo b.term b.entries
  pub front_committed : b.front ≤ b.commit
  pub committed : b.commit ≤ last (log_of b)

-- entries that are sent begin right after the index that they follow, and no term is above that in which they are sent
abbrev pub IsSent : Following
IsSent t prev es = Numbered (prev + 1) es × UpTo t es

-- the entries of an envelope are such
abbrev pub IsMail : Envelope → Type 0
IsMail = InMail (λ key p. ⊤) IsSent

-- what is saved has no greater term or front than these, and reaches up to what changed since, or to the front
pub record Reaches (b : SavedState) (term front from : ℕ) : Type 0 where
  pub term_saved : b.term ≤ term
  pub front_before : b.front ≤ front
  pub reach : from ≤ max front (last (log_of b)) + 1

-- commit index and what counts as saved lie from front to last; above the front, what counts as saved is saved now and unchanged since, and what is unchanged will be saved later
pub record Places (now later : SavedState) (term : ℕ) (log : Log) (commit stable from : ℕ) : Type 0 where
  pub front_committed : log.front ≤ commit
  pub committed : commit ≤ last log
  pub front_saved : log.front ≤ stable
  pub saved : stable < from
  pub on_disk : stable ≤ max log.front (last (log_of now))
  pub changed : from ≤ last log + 1
  pub reaches : Reaches later term log.front from

-- a pending batch begins no later than right after what is saved, unless its front covers the gap, and the entries of its envelopes are numbered too
pub record IsPending (b : SavedState) (p : Pending) : Type 0 where
  pub batch : IsBatch p.batch
  pub reaches : Reaches b p.batch.term p.batch.front p.batch.first
  pub mail : All IsMail p.envelopes

-- a replica over what is saved now and later: its log is numbered from right after its front, no term in it is above its own, and that is at least 1 but for a follower
pub record Stands (now later : SavedState) (x : Parts) : Type 0 where
  pub entries : Numbered (x.log.front + 1) x.log.entries
  pub terms : UpTo x.term x.log.entries
  pub some_term : (x.role ≡ Follower) ⊎ (1 ≤ x.term)
  pub places : Places now later x.term x.log x.commit x.stable x.from
  pub held : All IsMail x.held

-- a replica over what it has saved: its pending batch, and how it stands over that and over what is saved once nothing is pending
abbrev pub IsNumbered : SavedState → Parts → Type 0
IsNumbered b x = IfSome x.pending (IsPending b) × Stands b (then_saved b x.pending) x

-- a group: its decided list is numbered from 1 on; what a crash leaves is numbered too, and the log that begins from it reaches its commit index
abbrev pub Numbering : Having
Numbering = record {
  Own = λ key p. ⊤;
  Mail = IsMail;
  Left = λ d. IsSaved (state_of d.batch) × (begun_commit d ≤ last (begun_log d));
  Host = λ b r. IsSaved b × IsNumbered b (parts r);
  Listed = Numbered 1;
}
