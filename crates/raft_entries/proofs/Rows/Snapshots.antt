-- The rows of SnapChunk, SnapReply, Compact and Installed.
use Rattle.std.proofs.Common.{◌≡◌, ◌≤◌, ◌+◌, ◌^◌, ℕ, List, Bool, true, false, refl, arith}
use Rattle.std.proofs.lemmas.Bool.{and_parts, ltb-true, leb-true}
use Rattle.std.specs.Prelude.{nat_lt, nat_le, Option, Some, None, IfSome, IsSomeAnd}
use Rattle.wire_types.specs.declared.envelope.Body.TheVariants as bodies
use Rattle.wire_types.specs.declared.envelope.Envelope.{Envelope}
use Rattle.raft_model.specs.declared.role.Role.TheVariants.{Follower, Candidate, Leader}
use Rattle.raft_model.specs.declared.role.Role.{Role}
use Rattle.raft_model.specs.declared.chunk.Chunk.{Chunk}
use Rattle.raft_model.specs.declared.state.Inbox.{Inbox}
use Rattle.raft_model.specs.declared.state.State.{State as Replica}
use Rattle.roster.specs.Roster.{Seat}
use Rattle.raft_model.specs.Replica.{is_follower, ripe}
use Rattle.raft_model.specs.Appending.{follows, progress, with_progress, reached}
use Rattle.raft_model.specs.Snapping.{taken, after_take, on_chunk, on_snap_reply, compacted, based, replied, installed}
use Rattle.raft_entries.specs.Mail.{Property, Following}
use Rattle.raft_entries.specs.Parts.{Parts, parts}
use Rattle.raft_entries.proofs.Rows.Words.{IsPiece, On, Words}
use Rattle.raft_entries.proofs.Rows.Sending.{pick, pick_one, tells, more, takes_from}

-- who passes the test on followers is one
follower_is : (role : Role) → (elim role as (λ _. Bool) [ Follower ↦ true | Candidate ↦ false | Leader ↦ false ]) ≡ true → role ≡ Follower
follower_is Follower e = refl
follower_is Candidate e = absurd (cc e)
follower_is Leader e = absurd (cc e)

-- the index of a received snapshot is no greater than the received one may be
named_short : (inbox : Option Inbox) (i : ℕ) → IfSome inbox (λ b. b.received.index ≤ 2 ^ 62) → IsSomeAnd inbox (λ b. b.received.index ≡ i) → i ≤ 2 ^ 62
named_short None i a b = absurd b
named_short (Some b) i a e = omega (arith, a, e)

module _ {Own : Property} {Follows : Following} {L : Type 0} {Mail : Envelope → Type 0} {s : Seat} {G : Parts → Type 0} (W : Words Own Follows L Mail s G) where
  -- the next piece is wanted, or the snapshot is whole
  takes_in : (from : ℕ) (c : Chunk) (hand : List Chunk) (whole : Option (List ℕ)) (want : ℕ) (r : Replica) → (L → IsPiece c) → On G (record r { assembly = hand })
      → On G (after_take s from c (record { hand = hand; whole = whole; want = want }) r)
  takes_in from c hand None want r piece k = tells W from (bodies.SnapReply c.index want false) (record r { assembly = hand }) tt (λ l. (piece l).0) k
  takes_in from c hand (Some bytes) want r piece k =
      let b : Inbox = record { received = record { index = c.index; term = c.last_term; bytes = bytes }; sender = from; count = c.count } in
      W.receives (parts (record r { assembly = hand })) b (λ l. ((piece l).0, (piece l).2)) k

  -- SnapChunk: pieces are bytes, and change no entry
  pub chunk : (from : ℕ) (c : Chunk) (r : Replica) → (L → IsPiece c) → On G r → On G (on_chunk s from c r).replica
  chunk from c r piece k =
      let took = taken r.assembly c in
      let q = follows from r in
      let f : On G q = W.follows (parts r) k in
      takes_from W _ _ _ _ (tells W from (bodies.SnapReply c.index 0 false) r tt (λ l. (piece l).0) k) k
      (pick G _ _ _ (λ _. tells W from (bodies.SnapReply c.index (c.count + 1) true) q tt (λ l. (piece l).0) f)
      (λ _. takes_in from c took.hand took.whole took.want q piece (W.takes (parts q) c piece f)))

  -- SnapReply: a voter that has the snapshot is sent the entries after it
  pub snap_reply : (from t i : ℕ) (whole : Bool) (r : Replica) → (L → i ≤ 2 ^ 62) → On G r → On G (on_snap_reply s from t i whole r).replica
  snap_reply from t i whole r short k = pick G _ _ _ (λ _. more W from (with_progress (reached from i (progress r)) r) (W.hears (parts r) from i short k)) (λ _. k)

  -- Compact: entries that are committed and saved go
  pub compact : (i : ℕ) (r : Replica) → On G r → On G (compacted i r).replica
  compact i r k =
      pick G _ _ _
      (λ e. let a = and_parts (nat_lt r.log.front i) (nat_le i (ripe r)) e in W.cuts (parts r) i (ltb-true r.log.front i a.0) (leb-true i (ripe r) a.1) k)
      (λ _. k)

  -- the sender of a snapshot hears that it is in place
  answers_snapshot : (i : ℕ) (inbox : Option Inbox) (r : Replica) → (L → i ≤ 2 ^ 62) → On G r → On G (replied s i inbox r)
  answers_snapshot i None r short k = k
  answers_snapshot i (Some b) r short k = tells W b.sender (bodies.SnapReply i (b.count + 1) true) r tt short k

  -- Installed: the log begins after the snapshot, with the entries that stayed or with none
  pub installs : (i t : ℕ) (r : Replica) → (L → IsSomeAnd r.inbox (λ b. b.received.index ≡ i)) → On G r → On G (installed s i t r).replica
  installs i t r named k =
      pick G _ _ _
      (λ e.
      let a = and_parts (is_follower r) (nat_lt r.commit i) e in
      let stood = follower_is r.role a.0 in
      let above = ltb-true r.commit i a.1 in
      let short : L → i ≤ 2 ^ 62 = λ l. named_short r.inbox i (W.limits (parts r) k l).received (named l) in
      answers_snapshot i r.inbox (based i t r) short (pick_one G _ _ _ (λ b. W.bases (parts r) i t stood above b k) (λ _. W.resets (parts r) i t stood above short k)))
      (λ _. k)
