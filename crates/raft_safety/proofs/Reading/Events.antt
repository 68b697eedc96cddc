-- Every event that is allowed keeps the invariant of reads, and notes a read as confirmed only with its front. Source: dissertation section 6.4.
use Rattle.std.proofs.Common.{◌≡◌, ⊎_elim, ℕ, ◌<◌, List, [], ◌∷◌, ◌++◌, length, false, refl, sym, ◌∙◌, subst, arith, inl, inr, Option, Some, None}
use Rattle.std.proofs.lemmas.Option.{same_Some}
use Rattle.host_ids.specs.declared.entry.Key.{Key}
use Rattle.wire_types.specs.declared.envelope.Envelope.{Envelope}
use Rattle.wire_types.specs.declared.envelope.Body.{Body}
use Rattle.wire_types.specs.declared.envelope.Body.TheVariants as bodies
use Rattle.raft_model.specs.declared.event.LaneEvent.{LaneEvent}
use Rattle.raft_model.specs.declared.event.LaneEvent.TheVariants as events
use Rattle.raft_model.specs.declared.note.Note.{Note}
use Rattle.raft_model.specs.declared.note.Note.TheVariants as notes
use Rattle.raft_model.specs.declared.state.State.{State as Replica}
use Rattle.raft_model.specs.declared.state.Pending.{Pending}
use Rattle.raft_model.specs.declared.input.Input.TheVariants as inputs
use Rattle.raft_model.specs.Replica.{Row, fresh}
use Rattle.raft_model.specs.Saving.{gave_batch}
use Rattle.raft_model.specs.Step.{row, on_body, released}
use Rattle.raft_model.specs.Group.{Group, Acted, replica_at, saved_at, moved, stepped, at_up, seat, act, run, delivers, envelope_at, noted_ask, readies, saves_id, merged, inputs_at, compacts}
use Rattle.raft_safety.specs.Runs.{ActsFronted}
use Rattle.raft_safety.specs.Rounds.{BeginsReads, StaysReads, NotesFronts, HasReads, ReadTells, Rounds, aheads, AllTell}
use Rattle.raft_safety.specs.Replicas.{of_replica}
use Rattle.raft_safety.specs.Envelopes.{Tells}
use Rattle.raft_safety.specs.Invariant.{IsOnWire, HasAnswer, Kept}
use Rattle.raft_safety.specs.Events.{IsAllowed, AreAllowed}
use Rattle.raft_safety.specs.Agreed.{StaysKept}
use Rattle.raft_safety.specs.ReadFront.{AskedWithin, IsFronted, AreFronted, ReadFront, IsNoted, CoversNow, FirstAsk}
use Rattle.raft_safety.proofs.Frame.Tables.{of_replicate}
use Rattle.raft_safety.proofs.Frame.Settle.{within_table, on_wire}
use Rattle.raft_safety.proofs.Laws.Cases.{at_up_cases, readies_cases, saves_id_cases, compacts_cases, noted_ask_cases}
use Rattle.raft_safety.proofs.Laws.First.{first_kept}
use Rattle.raft_safety.proofs.Laws.Events.{kept_asks}
use Rattle.raft_safety.proofs.Laws.Seals.{kept_after}
use Rattle.raft_safety.proofs.Reading.Asks.{StayAsked, first_asked, noted_asked, act_still, asked_first}
use Rattle.raft_safety.proofs.Reading.Steps.{Does, Fronted, Fronts, RowOut, tell_at, notes_and, pending_fits, saves_rise, settled, stepped_reads}
use Rattle.raft_safety.proofs.Reading.Rounds.{later_asks, notes_later, asked_reads}
use Rattle.raft_safety.proofs.Reading.OtherRows.{out, start, timeout_out, vote_out, vote_reply_out, append_out, append_reply_out, propose_out, local_proposal_out, saved_does}
use Rattle.raft_safety.proofs.Reading.ReadRows.{script_beat_out, read_ask_out, ask_out, read_answer_out, beat_out, beat_reply_out}
use Rattle.raft_safety.proofs.Reading.SnapshotRows.{chunk_out, snap_reply_out, sends_chunk_out, compacted_out, installed_out, named_within}
use Rattle.raft_safety.proofs.Reading.Starts.{turned_reads, restart_fronted}
use Rattle.raft_safety.proofs.Allowed.{start_of, named_of, parts_of, all_of}

-- what is on a wire is on it with seals at its head
on_right : (ms w : List Envelope) (m : Envelope) → IsOnWire w m → IsOnWire (ms ++ w) m
on_right [] w m on = on
on_right (x ∷ ms) w m on = inr (on_right ms w m on)

-- an event at a host keeps the invariant of reads if it does where the host is up, and so has a place in each table
at_up_fronted : {g : Group} (v : ℕ) (a : Acted) → HasReads g → (v < 10 → Fronts g a) → Fronts g (at_up g v a)
at_up_fronted {g} v a p next = at_up_cases g v (Fronts g) (λ f goes. record { reads = p; notes = tt }) a
    (λ _ up. let m = within_table g.up v up in let t = p.common.kept.holds.tables.up in next (omega (arith, m, t)))

module _ {g : Group} (p : HasReads g) (v : ℕ) where
  -- the host's replica
  abbrev r : Replica
  r = replica_at g v

  -- an input keeps it where its row does
  input_fronted : {w : Row} → RowOut g v w → Fronts g (at_up g v (stepped g v (released [] w)))
  input_fronted o = at_up_fronted v _ p (λ within. stepped_reads g.saves (λ u. omega arith) (let t = p.common.kept.holds.tables.replicas in omega (arith, within, t)) [] o tt)

  module _ (m : Envelope) (on : IsOnWire g.wire m) where
    -- what an envelope on the wire tells holds of its sender as it stands
    told : (b : Body) → m.body ≡ b → let h = p.common.kept.history in Tells h g.decided (HasAnswer (p.seals ++ g.wire)) h.answer m.from m.to m.term b (of_replica g.decided (replica_at g m.from))
    told b e = rw e at ((p.common.kept.holds.wire m (on_right p.seals g.wire m on)).now)

    -- and what it tells of reads holds
    tells : (b : Body) → m.body ≡ b → ReadTells p.rounds g.asks m.from m.term b
    tells b e = rw e at (tell_at p.rounds g.asks g.wire m p.common.wire on)

    -- the row that it meets keeps the invariant of reads, whatever its kind
    body_out : (body : Body) → m.body ≡ body → RowOut g v (on_body (seat g v) m.from m.term body r)
    body_out (bodies.Vote l lt) e = vote_out p v m.from m.term l lt
    body_out (bodies.VoteReply granted) e = vote_reply_out p v m.from m.term granted
    body_out (bodies.Append prev pt c es) e = append_out p v m.from m.term prev pt c es (told (bodies.Append prev pt c es) e).commit.right
    body_out (bodies.AppendReply ok i) e = append_reply_out p v m.from m.term ok i
    body_out (bodies.Beat c round) e = beat_out p v m.from m.term c round (told (bodies.Beat c round) e).0.commit.right (tells (bodies.Beat c round) e)
    body_out (bodies.BeatReply round) e = beat_reply_out p v m.from m.term round (tells (bodies.BeatReply round) e)
    body_out (bodies.SnapChunk index lt number count size bytes) e =
        chunk_out p v m.from (record { term = m.term; index = index; last_term = lt; number = number; count = count; size = size; bytes = bytes })
    body_out (bodies.SnapReply i want all) e = snap_reply_out p v m.from m.term i all
    body_out (bodies.Propose key a) e = propose_out p v key a
    body_out (bodies.ReadAsk key) e = read_ask_out p v m.from key (tells (bodies.ReadAsk key) e)
    body_out (bodies.ReadAnswer key i) e = read_answer_out p v key i (tells (bodies.ReadAnswer key i) e)

  -- a replica that is put in keeps it where it has what a row owes
  put_reads : (q : Replica) → Does p.rounds g v q → v < 10 → Kept (aheads p.seals (moved g v q [])) → HasReads (moved g v q [])
  put_reads q does within post =
      settled v g.saves (λ u. omega arith) p.common (λ u o. p.hosts u) q does [] tt (let t = p.common.kept.holds.tables.replicas in omega (arith, within, t)) post

  -- Ready keeps it: the held envelopes wait for the batch
  ready_fronted : Fronts g (at_up g v (readies g v))
  ready_fronted = at_up_fronted v _ p (λ within. readies_cases g v (Fronts g)
      (λ goes. record { reads = put_reads r (start p v) within (goes p.seals p.common.kept); notes = (tt, tt) })
      (λ _ goes.
      let i = start p v in
      let does : Does p.rounds g v (gave_batch r) =
      record { held = tt; pending = λ w e. subst (λ (z : Pending). AllTell p.rounds g.asks z.envelopes) (same_Some _ w e) i.held; role = i.role; rises = i.rises; within = i.within } in
      record { reads = put_reads (gave_batch r) does within (goes p.seals p.common.kept); notes = (tt, tt) }))

  -- Saved keeps it: the batch's envelopes go on the wire
  saved_fronted : (id : ℕ) → Fronts g (at_up g v (saves_id g v id))
  saved_fronted id = at_up_fronted v _ p (λ within. saves_id_cases g v (Fronts g) (λ f goes. record { reads = p; notes = tt }) id (λ w e.
      let t = p.common.kept.holds.tables in
      let b = merged (saved_at g v) w.batch in
      let d = saved_does p v w.batch in
      stepped_reads _ (saves_rise g v b (omega (arith, within, t.saves)) (pending_fits p.common v w e).0) (omega (arith, within, t.replicas)) w.envelopes (out p v d.0 d.1) ((p.hosts v).pending w e)))

  -- Compact keeps it
  compact_fronted : (i : ℕ) → Fronts g (at_up g v (compacts g v i))
  unfolding row
  compact_fronted i = at_up_fronted v _ p (λ within. compacts_cases g v (Fronts g) (λ f goes. record { reads = p; notes = tt }) i
      (stepped_reads g.saves (λ u. omega arith) (let t = p.common.kept.holds.tables.replicas in omega (arith, within, t)) [] (compacted_out p v i) tt))

  -- a local read, which is noted as asked, keeps it
  ask_fronted : (key : Key) → Fronts g (at_up g v (inputs_at (noted_ask g key) v (inputs.Ask key)))
  unfolding row
  ask_fronted key = at_up_fronted v _ p (λ within goes.
      let a = asked_reads key p in
      stepped_reads (noted_ask g key).saves (λ u. omega arith) (let t = a.common.kept.holds.tables.replicas in omega (arith, within, t)) [] (ask_out a v key (noted_asked g key)) tt
      (λ ms k. goes ms (noted_ask_cases g key (λ n. Kept (aheads ms n) → Kept (aheads ms g)) (λ _ k. k) (λ _ k. kept_asks g.asks k) k)))

-- a delivery keeps it
delivered_fronted : {g : Group} → HasReads g → (x : Option Envelope) → ((m : Envelope) → x ≡ Some m → IsOnWire g.wire m) → Fronts g (delivers g x)
unfolding row
delivered_fronted p None on = λ goes. record { reads = p; notes = tt }
delivered_fronted p (Some m) on = input_fronted p m.to (body_out p m.to m (on m refl) m.body refl)

-- each event that is allowed keeps it, where it keeps the invariant with any seals
event_fronted : (e : LaneEvent) {g : Group} → IsAllowed g e → HasReads g → Fronts g (act e g)
unfolding act row
event_fronted (events.Timeout v) allowed p = input_fronted p v (timeout_out p v)
event_fronted (events.Beat v) allowed p = input_fronted p v (script_beat_out p v)
event_fronted (events.Deliver n) {g} allowed p = delivered_fronted p (envelope_at g.wire n) (on_wire g.wire n)
event_fronted (events.Ready v) allowed p = ready_fronted p v
event_fronted (events.Saved v id) allowed p = saved_fronted p v id
event_fronted (events.Propose v key a) allowed p = input_fronted p v (local_proposal_out p v key a)
event_fronted (events.Ask v key) allowed p = ask_fronted p v key
event_fronted (events.Chunk v to c) allowed p = input_fronted p v (sends_chunk_out p v to c)
event_fronted (events.Compact v i) allowed p = compact_fronted p v i
event_fronted (events.Installed v i t) {g} allowed p = input_fronted p v (installed_out p v i t (named_within p v i t (named_of g v i t allowed)))
event_fronted (events.Down v) allowed p = at_up_fronted v _ p (λ within goes. record { reads = turned_reads v false p; notes = tt })
event_fronted (events.Restart v s) {g} allowed p = restart_fronted v s p (start_of g v s allowed)

-- each note of a list whose confirmed reads have their fronts has its front
noted_at : (asks : List (Key × ℕ)) (ns : List Note) (n : Note) → AreFronted asks ns → IsNoted ns n → IsFronted asks n
noted_at asks [] n f on = absurd on
noted_at asks (m ∷ ms) n f on = ⊎_elim (λ e. rw e f.0) (λ more. noted_at asks ms n f.1 more) on

module _ (event_kept : StaysKept) where
  -- an event that is allowed keeps the invariant of reads, and notes reads as confirmed only with their fronts
  event_next : (e : LaneEvent) {g : Group} → IsAllowed g e → HasReads g → Fronted (act e g)
  event_next e {g} allowed p = event_fronted e allowed p (λ ms k. kept_after event_kept ms e g allowed k)

  -- a list of events keeps it, notes reads as confirmed only with their fronts, and forgets no first asking
  record Ran (g : Group) (es : List LaneEvent) : Type 0 where
    reads : HasReads (run es g).group
    noted : AreFronted (run es g).group.asks (run es g).notes
    still : StayAsked g.asks (run es g).group.asks

  -- every list of allowed events does so
  run_fronted : (es : List LaneEvent) {g : Group} → AreAllowed g es → HasReads g → Ran g es
  unfolding run
  run_fronted [] all p = record { reads = p; noted = tt; still = λ k m f. f }
  run_fronted (e ∷ es) {g} all p =
      let n = act e g in
      let parts = parts_of e es g all in
      let a = event_next e parts.0 p in
      let b = run_fronted es parts.1 a.reads in
      let after = run es n.group in
      record {
        reads = b.reads;
        noted = notes_and after.group.asks n.notes after.notes (notes_later (later_asks a.reads.rounds n.group.asks after.group.asks b.still) n.notes a.notes) b.noted;
        still = λ k m f. b.still k m (act_still e g k m f);
      }

  -- a group that has just begun has the invariant of reads, with no round and no seal
  pub first_reads : BeginsReads
  first_reads number voters some =
      let x : Rounds = record { count = λ t. 0; gone = λ t r u. false } in
      record {
        rounds = x;
        seals = [];
        common = record {
          kept = first_kept number voters some;
          bounded = λ key m f. absurd (cc);
          wire = tt;
          gone = λ t r u e. absurd (cc);
          within = λ t r u e. absurd (cc);
          more = λ t r s u e a b. absurd (cc);
          led = λ t e. absurd (e refl);
          decided = inl refl;
        };
        hosts = λ u. rw (of_replicate 10 u fresh) (record { held = tt; pending = λ w e. absurd (cc); leader = λ e. absurd (cc) });
      }

  -- each allowed event keeps the invariant of reads
  pub stays_reads : StaysReads
  stays_reads e g allowed p = (event_next e allowed p).reads

  -- and notes reads as confirmed only with their fronts
  pub notes_fronts : NotesFronts
  notes_fronts e g allowed p = (event_next e allowed p).notes

  -- over every list of allowed events from a group that has just begun, reads are confirmed only with their fronts
  pub read_front : ReadFront
  read_front number voters some es all = (run_fronted es all (first_reads number voters some)).noted

  -- and by one event more
  pub acts_fronted : ActsFronted
  acts_fronted before x e allowed = notes_fronts e before allowed (subst HasReads x.is (run_fronted x.events x.allowed (first_reads x.number x.voters x.some)).reads)

  -- a read that is first asked now is confirmed, whenever that is, with an index that covers all that is decided now
  covers_now : {g : Group} → HasReads g → CoversNow g
  unfolding run
  covers_now {g} p v key taken new es all host n noted =
      let e = events.Ask v key in
      let after = run (e ∷ es) g in
      let f : AskedWithin after.group.asks key n = noted_at after.group.asks after.notes (notes.Confirmed host key n) (run_fronted (e ∷ es) (all_of e es g refl all) p).noted noted in
      let last : first_asked key after.group.asks ≡ Some (length g.decided) = (run_fronted es all (event_next e refl p).reads).still key (length g.decided) (asked_first g v key taken new) in
      let same : f.first ≡ length g.decided = same_Some f.first (length g.decided) (sym f.asked ∙ last) in
      let w = f.within in
      omega (arith, w, same)

  -- so it is at each moment of a run from a group that has just begun
  pub first_ask : FirstAsk
  first_ask number voters some es all = covers_now (run_fronted es all (first_reads number voters some)).reads
