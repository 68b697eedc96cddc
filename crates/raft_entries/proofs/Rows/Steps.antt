-- What every word keeps, each input keeps, and so do the release of what is held, and Saved.
use Rattle.std.proofs.Common.{◌≤◌, ◌^◌, ℕ, List, []}
use Rattle.std.proofs.lemmas.Bool.{cond_both, and_parts}
use Rattle.std.proofs.lemmas.List.Elements.{All-nil, All-append}
use Rattle.std.specs.Prelude.{◌==◌, ◌&&◌, slice_set, if◌then◌else◌}
use Rattle.std.specs.List.{All}
use Rattle.host_ids.specs.declared.proposal.Proposal.TheVariants as proposals
use Rattle.wire_types.specs.declared.envelope.Envelope.{Envelope}
use Rattle.wire_types.specs.declared.envelope.Body.{Body}
use Rattle.wire_types.specs.declared.envelope.Body.TheVariants as bodies
use Rattle.raft_model.specs.declared.input.Input.{Input}
use Rattle.raft_model.specs.declared.input.Input.TheVariants as inputs
use Rattle.raft_model.specs.declared.state.State.{State as Replica}
use Rattle.roster.specs.Roster.{Seat}
use Rattle.raft_model.specs.Replica.{Row, quiet, is_candidate, no_key, in_term}
use Rattle.raft_model.specs.Voting.{granted_by}
use Rattle.raft_model.specs.Saving.{own_match}
use Rattle.raft_model.specs.Step.{Step, on_body, row, released, step}
use Rattle.raft_entries.specs.Mail.{Property, Following, Carries}
use Rattle.raft_entries.specs.Kept.{Given}
use Rattle.raft_entries.specs.Parts.{Parts, parts}
use Rattle.raft_entries.proofs.Rows.Words.{IsBounded, IsAsked, On, Words}
use Rattle.raft_entries.proofs.Rows.Sending.{pick, pick_one, sends, entered, within, commits}
use Rattle.raft_entries.proofs.Rows.Elections.{candidate_is, timeout, vote, granted_to, vote_reply}
use Rattle.raft_entries.proofs.Rows.Proposals.{propose, local_proposal}
use Rattle.raft_entries.proofs.Rows.Reads.{beat, beat_reply, script_beat, read_ask, ask}
use Rattle.raft_entries.proofs.Rows.Appends.{append, append_reply}
use Rattle.raft_entries.proofs.Rows.Snapshots.{chunk, snap_reply, compact, installs}

module _ {Own : Property} {Follows : Following} {L : Type 0} {Mail : Envelope → Type 0} {s : Seat} {G : Parts → Type 0} (W : Words Own Follows L Mail s G) (blank : Own no_key proposals.Blank) where
  -- an envelope, whatever its kind
  envelope_by : (from t : ℕ) (body : Body) (r : Replica) → Carries Own Follows t body → (L → (t ≤ 2 ^ 62) × IsBounded body) → On G r → On G (on_body s from t body r).replica
  envelope_by from t (bodies.Vote l lt) r carried b k = vote W from t l lt (in_term t r) (entered W t r (λ l. (b l).0) k)
  envelope_by from t (bodies.VoteReply granted) r carried b k = vote_reply W from t granted (in_term t r) blank (entered W t r (λ l. (b l).0) k)
  envelope_by from t (bodies.Append prev pt c es) r carried b k = append W from t prev pt c es (in_term t r) (within t r) carried (entered W t r (λ l. (b l).0) k)
  envelope_by from t (bodies.AppendReply ok i) r carried b k = append_reply W from t ok i (in_term t r) (λ l. (b l).1) (entered W t r (λ l. (b l).0) k)
  envelope_by from t (bodies.Beat c round) r carried b k = beat W from t c round (in_term t r) (entered W t r (λ l. (b l).0) k)
  envelope_by from t (bodies.BeatReply round) r carried b k = beat_reply W from t round (in_term t r) (entered W t r (λ l. (b l).0) k)
  envelope_by from t (bodies.SnapChunk index last_term number count size bytes) r carried b k =
      chunk W from (record { term = t; index = index; last_term = last_term; number = number; count = count; size = size; bytes = bytes }) (in_term t r) (λ l. (b l).1) (entered W t r (λ l. (b l).0) k)
  envelope_by from t (bodies.SnapReply i want whole) r carried b k = snap_reply W from t i whole (in_term t r) (λ l. (b l).1) (entered W t r (λ l. (b l).0) k)
  envelope_by from t (bodies.Propose key p) r carried b k = propose W key p r carried k
  envelope_by from t (bodies.ReadAsk key) r carried b k = read_ask W from key r k
  envelope_by from t (bodies.ReadAnswer key i) r carried b k = k

  -- the row of an input
  pub row_by : (input : Input) (r : Replica) → Given Own Mail input → (L → IsAsked r input) → On G r → On G (row s input r).replica
  unfolding row
  row_by inputs.Timeout r of asked k = timeout W r k
  row_by inputs.Beat r of asked k = script_beat W r k
  row_by (inputs.Envelope m) r of asked k = envelope_by m.from m.term m.body r (W.carries m of) (W.bounds m of) k
  row_by (inputs.Propose key p) r of asked k = local_proposal W key p r of k
  row_by (inputs.Ask key) r of asked k = ask W key r k
  row_by (inputs.Chunk to c) r of asked k = sends W c.term to (bodies.SnapChunk c.index c.last_term c.number c.count c.size c.bytes) r tt asked k
  row_by (inputs.Compact i) r of asked k = compact W i r k
  row_by (inputs.Installed i t) r of asked k = installs W i t r asked k

  -- what is held goes on the wire, or stays held
  pub released_by : (before : List Envelope) (w : Row) → All Mail before → On G w.replica → On G (released before w).replica × All Mail (released before w).sent
  released_by before w of k =
      cond_both _ _ _ (λ (x : Step). On G x.replica × All Mail x.sent)
      (λ _. (W.empties (parts w.replica) k, All-append Mail before w.replica.held of (W.mailed (parts w.replica) k)))
      (λ _. (k, of))

  -- an input: its row, and then what goes on the wire
  pub step_by : (input : Input) (r : Replica) → Given Own Mail input → (L → IsAsked r input) → On G r → On G (step s input r).replica × All Mail (step s input r).sent
  step_by input r of asked k = released_by [] (row s input r) (All-nil Mail) (row_by input r of asked k)

  -- Saved, of a batch with this term and vote: a candidate counts its own vote, and a leader its own entries, with the batch still pending
  pub saves_by : (t v : ℕ) (x : Replica) → On G x → On G (own_match s (if is_candidate x && (t == x.term) && (v == s.me) then granted_by s s.me x else quiet x).replica)
  saves_by t v x settled =
      let w : Row = if is_candidate x && (t == x.term) && (v == s.me) then granted_by s s.me x else quiet x in
      let voted : On G w.replica = pick G _ _ _
      (λ e. granted_to W s.me x blank (candidate_is x.role (and_parts (is_candidate x) (t == x.term) (and_parts (is_candidate x && (t == x.term)) (v == s.me) e).0).0) settled)
      (λ _. settled) in
      pick_one G _ _ _ (λ _. commits W (record w.replica { matched = slice_set w.replica.matched s.me w.replica.stable }) (W.matches (parts w.replica) voted)) (λ _. voted)
