-- Sentences that textbooks and proofs of Raft take for granted. Each is false in some group, or between two groups, that allowed events lead to. Source: this project's own.
use Rattle.std.specs.Prelude.{◌≡◌, ◌≢◌, ◌≤◌, ◌-◌, ◌==◌, ℕ, Bool, true, false, nat_le, Option, Some, None, slice_get, if◌then◌else◌}
use Rattle.std.specs.List.{list_any}
use Rattle.host_ids.specs.declared.entry.Entry.{Entry}
use Rattle.wire_types.specs.declared.envelope.Envelope.{Envelope}
use Rattle.wire_types.specs.declared.envelope.Body.TheVariants as bodies
use Rattle.log_view.specs.Log.{Log, last, last_term}
use Rattle.raft_model.specs.declared.note.Note.{Note}
use Rattle.raft_model.specs.declared.note.Note.TheVariants as notes
use Rattle.roster.specs.Roster.{at}
use Rattle.raft_model.specs.Replica.{is_leader}
use Rattle.raft_model.specs.Group.{Group, replica_at, Ran}
use Rattle.raft_runs.specs.Witness.Groups.{log_at}

-- the entry that a log holds at an index above its front
abbrev pub entry_at : Log → ℕ → Option Entry
entry_at l i = if nat_le i l.front then None else slice_get l.entries (i - l.front - 1)

-- log matching: where two hosts' logs hold entries of the same index and term, they hold the same entries up to there
abbrev pub LogsMatch : Group → Type 0
LogsMatch g = (v w i j : ℕ) (a b c d : Entry) → entry_at (log_at g v) i ≡ Some a → entry_at (log_at g w) i ≡ Some b → a.term ≡ b.term
    → j ≤ i → entry_at (log_at g v) j ≡ Some c → entry_at (log_at g w) j ≡ Some d → c ≡ d

-- a host that answers an Append of its term's leader, as taken up to an index, holds what that leader holds up to there
abbrev pub AnswersHold : Group → Type 0
AnswersHold g = (k n j : ℕ) (e : Envelope) (a b : Entry) → slice_get g.wire k ≡ Some e → e.body ≡ bodies.AppendReply true n
    → (replica_at g e.from).term ≡ e.term → (replica_at g e.to).term ≡ e.term → is_leader (replica_at g e.to) ≡ true
    → j ≤ n → entry_at (log_at g e.from) j ≡ Some a → entry_at (log_at g e.to) j ≡ Some b → a ≡ b

-- the terms of a log's entries never fall
abbrev pub TermsRise : Group → Type 0
TermsRise g = (v i j : ℕ) (a b : Entry) → i ≤ j → entry_at (log_at g v) i ≡ Some a → entry_at (log_at g v) j ≡ Some b → a.term ≤ b.term

-- nor do they fall below the term of its front
abbrev pub TermsRiseFromFront : Group → Type 0
TermsRiseFromFront g = (v i : ℕ) (a : Entry) → entry_at (log_at g v) i ≡ Some a → (log_at g v).front_term ≤ a.term

-- somebody was noted to lead a term
abbrev pub leads : ℕ → Note → Bool
leads t (notes.Leader host term) = term == t
leads t (notes.Pending host id) = false
leads t notes.Idle = false
leads t (notes.Dropped key) = false
leads t (notes.Confirmed host key index) = false

-- who answers that it has a snapshot answers a leader: somebody has led the answer's term
abbrev pub AnswersAreLed : Ran → Type 0
AnswersAreLed r = (k i n : ℕ) (e : Envelope) → slice_get r.group.wire k ≡ Some e → e.body ≡ bodies.SnapReply i n true → list_any (leads e.term) r.notes ≡ true

-- from one group to a later one no host's commit index falls
abbrev pub CommitsStay : Group → Group → Type 0
CommitsStay g h = (v : ℕ) → (replica_at g v).commit ≤ (replica_at h v).commit

-- nor does a host's term
abbrev pub TermsStay : Group → Group → Type 0
TermsStay g h = (v : ℕ) → (replica_at g v).term ≤ (replica_at h v).term

-- a log's last place is of no term above its host's
abbrev pub LogsInTerm : Group → Type 0
LogsInTerm g = (v : ℕ) → last_term (log_at g v) ≤ (replica_at g v).term

-- a candidate's log is of no term above the one that it asks for votes in
abbrev pub VotesInTerm : Group → Type 0
VotesInTerm g = (k l t : ℕ) (e : Envelope) → slice_get g.wire k ≡ Some e → e.body ≡ bodies.Vote l t → t ≤ e.term

-- what a leader has matched of a host in its term, that host's log reaches
abbrev pub MatchedReached : Group → Type 0
MatchedReached g = (v w : ℕ) → is_leader (replica_at g v) ≡ true → (replica_at g w).term ≡ (replica_at g v).term → at (replica_at g v).matched w ≤ last (log_at g w)

-- what a leader has matched of a host is within the leader's own log
abbrev pub MatchedOwned : Group → Type 0
MatchedOwned g = (v w : ℕ) → is_leader (replica_at g v) ≡ true → at (replica_at g v).matched w ≤ last (log_at g v)

-- from one group to a later one a host keeps the vote that it has cast in its term
abbrev pub VotesStay : Group → Group → Type 0
VotesStay g h = (v : ℕ) → (replica_at g v).vote ≢ 0 → (replica_at h v).term ≡ (replica_at g v).term → (replica_at h v).vote ≡ (replica_at g v).vote
