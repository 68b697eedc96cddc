-- The rows of beats and reads.
use Rattle.std.proofs.Common.{◌≡◌, ℕ, List, [], ◌∷◌, false, arith}
use Rattle.std.proofs.lemmas.Bool.{and_parts, or_parts}
use Rattle.std.specs.Prelude.{◌==◌, not, min, max}
use Rattle.host_ids.specs.declared.entry.Key.{Key}
use Rattle.wire_types.specs.declared.envelope.Body.TheVariants as bodies
use Rattle.wire_types.specs.declared.envelope.Envelope.{Envelope}
use Rattle.read_index.specs.declared.reads.OpenRead.{OpenRead}
use Rattle.raft_model.specs.declared.state.State.{State as Replica}
use Rattle.roster.specs.Roster.{Seat, at}
use Rattle.read_index.specs.Reads.{closed}
use Rattle.log_view.specs.Log.{last}
use Rattle.raft_model.specs.Replica.{Row, quiet, is_full, is_leader, sent}
use Rattle.raft_model.specs.Appending.{follows}
use Rattle.raft_model.specs.Reading.{on_beat, is_answered, waits_on, confirmed, confirm, confirms, answers_round, on_beat_reply}
use Rattle.raft_model.specs.Reading.{beats, next_round, on_script_beat, may_read, opened, open_read, on_read_ask, on_ask}
use Rattle.raft_entries.specs.Mail.{Property, Following}
use Rattle.raft_entries.specs.Parts.{Parts, parts}
use Rattle.raft_entries.proofs.Rows.Words.{On, Words}
use Rattle.raft_entries.proofs.Rows.Sending.{room, not_false, pick, sends, tells, each, more, takes_from}

module _ {Own : Property} {Follows : Following} {L : Type 0} {Mail : Envelope → Type 0} {s : Seat} {G : Parts → Type 0} (W : Words Own Follows L Mail s G) where
  -- Beat: a follower's commit index rises as far as its log goes
  pub beat : (from t c round : ℕ) (r : Replica) → On G r → On G (on_beat s from t c round r).replica
  beat from t c round r k =
      let q = record (follows from r) { commit = max r.commit (min c (last r.log)) } in
      takes_from W _ _ _ _ (tells W from (bodies.BeatReply 0) r tt (λ _. tt) k) k
      (tells W from (bodies.BeatReply round) q tt (λ _. tt) (W.commits (parts (follows from r)) (max r.commit (min c (last r.log))) (omega arith) (omega arith) (W.follows (parts r) k)))

  -- a confirmed read is told here, or answered to the host that it came from
  confirm_one : (read : OpenRead) (w : Row) → On G w.replica → On G (confirmed s read w).replica
  confirm_one read w k = pick G _ _ _ (λ _. k) (λ _. sends W 0 read.origin (bodies.ReadAnswer read.key read.index) w.replica tt (λ _. (omega arith, tt)) k)

  -- each open read is confirmed or stays open
  confirm_all : (reads : List OpenRead) (w : Row) → On G w.replica → On G (confirm s reads w).replica
  confirm_all [] w k = k
  confirm_all (read ∷ rest) w k =
      let waits : Row = record w { replica = waits_on read w.replica } in
      pick G (is_answered s w.replica read) _ _ (λ _. confirm_all rest (confirmed s read w) (confirm_one read w k)) (λ _. confirm_all rest waits k)

  -- BeatReply: reads are confirmed, and a voter that lacks entries is sent more
  pub beat_reply : (from t round : ℕ) (r : Replica) → On G r → On G (on_beat_reply s from t round r).replica
  beat_reply from t round r k =
      let q = answers_round from round r in
      pick G _ _ _ (λ _. more W from (confirms s q).replica (confirm_all q.reads.waiting (quiet (record q { reads = closed q.reads })) k)) (λ _. k)

  -- each other voter is sent a beat
  beats_all : (r : Replica) → On G r → On G (beats s r)
  beats_all r k =
      each W s.me (λ v q. sent s v (bodies.Beat (min (at q.matched v) q.commit) q.reads.round) q)
      (λ v q a. tells W v (bodies.Beat (min (at q.matched v) q.commit) q.reads.round) q tt (λ _. tt) a) s.voters r k

  -- the script's beat: a leader sends beats of its next round
  pub script_beat : (r : Replica) → On G r → On G (on_script_beat s r).replica
  script_beat r k =
      pick G _ _ _ (λ _. k) (λ e. beats_all (next_round r) (W.rounds (parts r) (room r (or_parts (is_full r) (not (is_leader r)) e).0).2 k))

  -- a read opens with a round of beats, which alone confirms it where there is one voter
  opens : (key : Key) (origin : ℕ) (r : Replica) → is_full r ≡ false → On G r → On G (open_read s key origin r).replica
  opens key origin r free k =
      let q = beats s (opened key origin (next_round r)) in
      confirm_all q.reads.waiting (quiet (record q { reads = closed q.reads })) (beats_all (opened key origin (next_round r)) (W.rounds (parts r) (room r free).2 k))

  -- ReadAsk: a leader that may read opens the read
  pub read_ask : (from : ℕ) (key : Key) (r : Replica) → On G r → On G (on_read_ask s from key r).replica
  read_ask from key r k = pick G _ _ _ (λ e. opens key from r (not_false (is_full r) (and_parts (may_read r) (not (is_full r)) e).1) k) (λ _. k)

  -- a local read: a leader opens it, and another replica hands it on to the leader that it knows
  pub ask : (key : Key) (r : Replica) → On G r → On G (on_ask s key r).replica
  ask key r k =
      pick G (is_full r) _ _ (λ _. k)
      (λ free. pick G (is_leader r) _ _ (λ _. pick G (may_read r) _ _ (λ _. opens key s.me r free k) (λ _. k))
      (λ _. pick G (r.leader == 0) _ _ (λ _. k) (λ _. sends W 0 r.leader (bodies.ReadAsk key) r tt (λ _. (omega arith, tt)) k)))
