-- The rows of Beat, BeatReply and ReadAsk, of the script's beat and of the local read.
use Rattle.std.proofs.lemmas.Bool.{cond_both}
use Rattle.std.proofs.Common.{◌<◌, ◌≤◌, ◌≡◌, ◌≢◌, ◌⊎◌, ⊎_elim, ℕ, List, [], ◌∷◌, true, refl, sym, ◌∙◌, subst, arith, inl, inr, ◌==◌, ◌&&◌, ◌||◌, not, max, min}
use Rattle.std.proofs.Common.{length}
use Rattle.std.specs.Prelude.{nat_lt}
use Rattle.std.proofs.lemmas.Bool.{ltb-false, and_parts, or_parts, not-false}
use Rattle.host_ids.specs.declared.entry.Entry.{Entry}
use Rattle.host_ids.specs.declared.entry.Key.{Key}
use Rattle.raft_model.specs.declared.saved.SavedState.{SavedState}
use Rattle.wire_types.specs.declared.envelope.Envelope.{Envelope}
use Rattle.wire_types.specs.declared.envelope.Body.TheVariants as bodies
use Rattle.raft_model.specs.declared.state.State.{State as Replica}
use Rattle.read_index.specs.declared.reads.OpenRead.{OpenRead}
use Rattle.read_index.specs.Reads.{Reads, closed}
use Rattle.roster.specs.Roster.{at}
use Rattle.log_view.specs.Log.{last}
use Rattle.raft_model.specs.Replica.{Row, quiet, is_leader, is_full, sent, in_term}
use Rattle.raft_model.specs.Reading.{is_answered, confirmed, confirm, confirms, waits_on, answers_round, beats, next_round, may_read, opened, open_read}
use Rattle.raft_model.specs.Group.{Group, seat}
use Rattle.raft_safety.specs.History.{Reign, History, Agree, SameFrom, HoldsUpTo}
use Rattle.raft_safety.specs.Replicas.{whole, of_replica}
use Rattle.raft_safety.specs.Envelopes.{IsOfLeader, Tells}
use Rattle.raft_safety.specs.Invariant.{HasAnswer}
use Rattle.raft_safety.proofs.Argument.Agreement.{agree_less, le_or}
use Rattle.raft_safety.proofs.Frame.Opened.{Open}
use Rattle.raft_safety.proofs.Frame.Words.{holding, follow_step, commit_step, each_other_stays, rest, rest_step}
use Rattle.raft_safety.proofs.Frame.Settle.{Reached, reached, in_term_step, delivered, in_term_most, either_row}
use Rattle.raft_safety.proofs.Replication.Sending.{Leads, more_to_step}
use Rattle.raft_safety.proofs.Replication.Append.{within_leader}
use Rattle.raft_safety.proofs.Laws.Owed.{BeatRow, BeatReplyRow, ScriptBeatRow, ReadAskRow, AskRow}
use Rattle.raft_safety.proofs.Argument.WholeLogs.{whole_length}
use Rattle.raft_safety.proofs.Frame.Roles.{leads}
use Rattle.raft_safety.proofs.Argument.Decided.{same_reign}

module _ {g : Group} {v : ℕ} {h : History} {b : SavedState} {d : List Entry} {w : List Envelope} where
  -- a beat tells what its voter has matched of the commit index
  beat_step : (u : ℕ) {r : Replica} → u ≢ v → Leads h g v b r d w → Leads h g v b (sent (seat g v) u (bodies.Beat (min (at r.matched u) r.commit) r.reads.round) r) d w
  beat_step u {r} other x =
      let o = x.open_group in
      let s = o.mine.stands in
      let l = s.leader x.role in
      let c = min (at r.matched u) r.commit in
      let commit : Agree r.commit l.reign.log d = subst (λ xs. Agree r.commit xs d) (sym l.log) s.now.commit in
      let tells : IsOfLeader h d v r.term 0 0 c [] = record {
        reign = l.reign;
        led = l.led;
        term = l.term;
        leader = l.leader;
        reaches = omega arith;
        before = refl;
        entries = refl;
        commit = agree_less c (omega arith) commit;
      } in
      record {
        open_group = holding (record { from = v; to = u; group = g.number; term = r.term; body = bodies.Beat c r.reads.round }) refl (
          tells,
          ⊎_elim
              (λ none. inl (omega (arith, none)))
              (λ a. inr (record { envelope = a.envelope; there = a.there; from = a.from; term = a.term; index = a.index; most = (let m = a.most in omega (arith, m)); body = a.body }))
              (l.matched u other),
        ) o;
        role = x.role;
      }

  -- a leader sends a beat to each other voter
  beats_step : {r : Replica} → Leads h g v b r d w → Leads h g v b (beats (seat g v) r) d w
  beats_step {r} x = each_other_stays (λ q. Leads h g v b q d w) v (λ u q. sent (seat g v) u (bodies.Beat (min (at q.matched u) q.commit) q.reads.round) q) (λ u q other y. beat_step u other y) g.voters r x

  -- rounds and open reads change nothing that the invariant speaks of
  read_step : {r : Replica} (reads : Reads) → Leads h g v b r d w → Leads h g v b (record r { reads = reads }) d w
  read_step {r} reads x = (let o = x.open_group in record {
    open_group = rest_step (record (rest r) { reads = reads }) o o.mine.held o.mine.stands.candidate o.mine.stands.leader o.mine.inbox;
    role = x.role;
  })

  -- a confirmed read of another host is sent its answer
  confirmed_step : (read : OpenRead) (x : Row) → Leads h g v b x.replica d w → Leads h g v b (confirmed (seat g v) read x).replica d w
  confirmed_step read x l =
      cond_both (read.origin == v) _ _ (λ (z : Row). Leads h g v b z.replica d w) (λ _. l)
      (λ _. record { open_group = holding (record { from = v; to = read.origin; group = g.number; term = 0; body = bodies.ReadAnswer read.key read.index }) refl tt l.open_group; role = l.role })

  -- of some open reads those that a majority has answered are confirmed, and the others stay
  confirm_step : (reads : List OpenRead) (x : Row) → Leads h g v b x.replica d w → Leads h g v b (confirm (seat g v) reads x).replica d w
  confirm_step [] x l = l
  confirm_step (read ∷ more) x l =
      cond_both (is_answered (seat g v) x.replica read) _ _ (λ (z : Row). Leads h g v b z.replica d w)
      (λ _. confirm_step more (confirmed (seat g v) read x) (confirmed_step read x l))
      (λ _. confirm_step more (record x { replica = waits_on read x.replica }) (read_step (waits_on read x.replica).reads l))

  -- so for all open reads
  confirms_step : {r : Replica} → Leads h g v b r d w → Leads h g v b (confirms (seat g v) r).replica d w
  confirms_step {r} l = confirm_step r.reads.waiting (quiet (record r { reads = closed r.reads })) (read_step (closed r.reads) l)

  -- a read is opened, with a round of beats of its own
  open_read_step : (key : Key) (origin : ℕ) {r : Replica} → Leads h g v b r d w → Leads h g v b (open_read (seat g v) key origin r).replica d w
  open_read_step key origin {r} l =
      confirms_step
      (beats_step (read_step (opened key origin (next_round r)).reads l))

-- the script's beat keeps the invariant
pub script_beat_kept : ScriptBeatRow
script_beat_kept g v h b r d w some o =
    either_row (is_full r || not (is_leader r)) _ _ (λ _. reached o)
    (λ e. reached (beats_step (read_step (next_round r).reads
    (record { open_group = o; role = leads r (not-false (is_leader r) (or_parts (is_full r) (not (is_leader r)) e).1) }))).open_group)

-- a leader that opens a read keeps the invariant
reads_row : {g : Group} {v : ℕ} {h : History} {b : SavedState} {r : Replica} {d : List Entry} {w : List Envelope} → Open h g v b r d w → is_leader r ≡ true → (key : Key) (origin : ℕ)
    → Reached g v b d w (open_read (seat g v) key origin r).replica
reads_row {g} {v} {h} {b} {r} {d} {w} o e key origin = reached (open_read_step key origin (record { open_group = o; role = leads r e })).open_group

-- the row of ReadAsk keeps the invariant
pub read_ask_kept : ReadAskRow
read_ask_kept from key g v h b r d w some o =
    either_row (may_read r && not (is_full r)) _ _ (λ e. reads_row o (and_parts (is_leader r) _ (and_parts (may_read r) (not (is_full r)) e).0).0 key from) (λ _. reached o)

-- a local read keeps the invariant: a leader opens it, another host hands it on
pub ask_kept : AskRow
ask_kept key g v h b r d w some o =
    either_row (is_full r) _ _ (λ _. reached o)
    (λ _. either_row (is_leader r) _ _ (λ e. either_row (may_read r) _ _ (λ _. reads_row o e key v) (λ _. reached o))
    (λ _. either_row (r.leader == 0) _ _ (λ _. reached o) (λ _. reached (holding (record { from = v; to = r.leader; group = g.number; term = 0; body = bodies.ReadAsk key }) refl tt o))))

-- the row of BeatReply keeps the invariant
pub beat_reply_kept : BeatReplyRow
beat_reply_kept m round g v h b r0 d w some before to on =
    let r = in_term m.term r0 in
    let o : Open h g v b r d w = in_term_step m.term before in
    either_row ((m.term == r.term) && is_leader r) _ _
    (λ e. let l : Leads h g v b r d w = record { open_group = o; role = leads r (and_parts (m.term == r.term) (is_leader r) e).1 } in
    reached (more_to_step m.from (confirms_step (read_step (answers_round m.from round r).reads l))).open_group)
    (λ _. reached o)

-- a follower, and a beat of the leader of its term
module _ {g : Group} {v : ℕ} {h : History} {b : SavedState} {r : Replica} {d : List Entry} {w : List Envelope} (o : Open h g v b r d w) {from c : ℕ} (x : IsOfLeader h d from r.term 0 0 c []) where
  -- the reign that sent it
  abbrev R : Reign
  R = x.reign

  -- the host's whole log: the decided places up to its front, then its entries
  abbrev W : List Entry
  W = whole d r.log.front r.log.entries

  -- up to what the host has answered in this term its log is the leader's, so the beat's index may be taken as far
  heard_to : (i : ℕ) → i ≤ c → i ≤ length W → r.commit < i → HasAnswer w v r.term c → Agree (max r.commit i) W d
  heard_to i low short past a =
      let told = (o.sent a.envelope a.there a.from).now in
      ⊎_elim
      (λ e.
      let y : Tells h d (HasAnswer w) h.answer a.envelope.from a.envelope.to a.envelope.term (bodies.AppendReply true a.index) (of_replica d r) =
      subst (λ z. Tells h d (HasAnswer w) h.answer a.envelope.from a.envelope.to a.envelope.term z (of_replica d r)) e told in
      let z : HoldsUpTo h d r.commit W r.term (min a.index (length W)) = subst (λ t. HoldsUpTo h d r.commit W t (min a.index (length W))) a.term ((y refl).present (sym a.term)) in
      let p = z.rest (omega (arith, z.limited, past, low, short, a.most)) in
      let S : p.0 ≡ R = same_reign o.common p.0 R p.1 x.led (p.2 ∙ sym x.term) in
      within_leader o R x.led x.term x.commit z.limited z.within (subst (λ T. SameFrom z.decided (min a.index (length W)) W T.log) S p.3) i (omega (arith, low, short, a.most)) low)
      (λ e.
      let y : Tells h d (HasAnswer w) h.answer a.envelope.from a.envelope.to a.envelope.term (bodies.SnapReply a.index e.0 true) (of_replica d r) =
      subst (λ z. Tells h d (HasAnswer w) h.answer a.envelope.from a.envelope.to a.envelope.term z (of_replica d r)) e.1 told in
      absurd (omega (arith, (y refl).committed, low, past, a.most)))
      a.body

  -- the commit index rises by a beat only as far as the leader heard this host answer
  beat_row : (c ≡ 0) ⊎ HasAnswer w v r.term c → Open h g v b (record r { commit = max r.commit (min c (last r.log)) }) d w
  beat_row y =
      let i = min c (last r.log) in
      commit_step (omega arith)
      (⊎_elim
      (λ old. let z : r.commit ≡ max r.commit i = omega (arith, old) in subst (λ n. Agree n W d) z o.mine.stands.now.commit)
      (λ past. ⊎_elim (λ none. absurd (omega (arith, none, past)))
      (λ a. heard_to i (omega arith) (let n = o.mine.stands.now in let z = whole_length d r.log.front r.log.entries (omega (arith, n.front, n.commit.right)) in omega (arith, z)) past a) y)
      (le_or i r.commit)) o

-- the row of Beat keeps the invariant
pub beat_kept : BeatRow
beat_kept m c round body g v h b r0 d w some before to on =
    let r = in_term m.term r0 in
    let o : Open h g v b r d w = in_term_step m.term before in
    either_row (nat_lt m.term r.term) _ _
    (λ _. reached (holding (record { from = v; to = m.from; group = g.number; term = r.term; body = bodies.BeatReply 0 }) refl tt o))
    (λ new. either_row (is_leader r) _ _ (λ _. reached o)
    (λ _.
    let told = delivered m o on in
    let same : m.term ≡ r.term = (let low = ltb-false m.term r.term new in let most = in_term_most m.term r0 in omega (arith, low, most)) in
    let x : Tells h d (HasAnswer w) h.answer m.from m.to m.term (bodies.Beat c round) told.stage = subst (λ y. Tells h d (HasAnswer w) h.answer m.from m.to m.term y told.stage) body told.tells in
    let y : (c ≡ 0) ⊎ HasAnswer w v r.term c = subst (λ t. (c ≡ 0) ⊎ HasAnswer w v t c) same (subst (λ u. (c ≡ 0) ⊎ HasAnswer w u m.term c) to x.1) in
    reached (holding (record { from = v; to = m.from; group = g.number; term = r.term; body = bodies.BeatReply round }) refl tt
    (beat_row (follow_step m.from o) (subst (λ t. IsOfLeader h d m.from t 0 0 c []) same x.0) y))))
