-- The rows of reads: Beat, BeatReply, ReadAsk and ReadAnswer, the script's beat and the local read. Source: dissertation section 6.4.
use Rattle.std.proofs.Common.{◌≡◌, ⊎_elim, ℕ, ◌≤◌, List, [], ◌∷◌, length, true, false, sym, ap, ◌∙◌, subst, arith, inl, ◌==◌, ◌&&◌, ◌||◌, min, max, not}
use Rattle.std.specs.Prelude.{nat_lt, nat_le}
use Rattle.std.proofs.lemmas.Bool.{cond_both, and_parts, or_parts, or_cases, not-false, eqb-true, leb-true, ltb-false}
use Rattle.host_ids.specs.declared.entry.Key.{Key}
use Rattle.wire_types.specs.declared.envelope.Envelope.{Envelope}
use Rattle.wire_types.specs.declared.envelope.Body.TheVariants as bodies
use Rattle.raft_model.specs.declared.state.State.{State as Replica}
use Rattle.read_index.specs.declared.reads.OpenRead.{OpenRead}
use Rattle.raft_model.specs.declared.role.Role.TheVariants.{Candidate, Leader}
use Rattle.raft_model.specs.declared.note.Note.TheVariants as notes
use Rattle.log_view.specs.Log.{last, term_at}
use Rattle.roster.specs.Roster.{Seat, at}
use Rattle.raft_model.specs.Replica.{Row, is_leader, is_full, sent_in, in_term}
use Rattle.raft_model.specs.Reading.{is_answered, confirmed, confirm, confirms, waits_on, answers_round, beats, next_round, may_read, open_read}
use Rattle.raft_model.specs.Reading.{on_beat, on_beat_reply, on_script_beat, on_read_ask, on_read_answer, on_ask}
use Rattle.raft_model.specs.Group.{Group, replica_at, saved_at, seat}
use Rattle.raft_safety.specs.Rounds.{AllOpen, HasReads, IsAsked, IsOpen, ReadsCommon, ReadsOfLeader, Rounds}
use Rattle.raft_safety.specs.ReadFront.{AskedWithin, AreFronted}
use Rattle.raft_safety.proofs.Argument.Agreement.{le_or}
use Rattle.raft_safety.proofs.Argument.Quorums.{in_both}
use Rattle.raft_safety.proofs.Frame.Words.{each_other_stays}
use Rattle.raft_safety.proofs.Frame.Roles.{leads}
use Rattle.raft_safety.proofs.Frame.Settle.{in_term_most}
use Rattle.raft_safety.proofs.Replication.AppendReply.{at_set}
use Rattle.raft_safety.proofs.Reading.Steps.{Does, RowOut, open_and, notes_and, not_gone, here_still}
use Rattle.raft_safety.proofs.Reading.Rounds.{after, opened_common, opened_others, opened_row, opened_front}
use Rattle.raft_safety.proofs.Reading.OtherRows.{in_term_leads, in_term_rises, in_term_commit, follower_does, sends, more_does, out, committed, start, terms}

-- what a host has saved has no greater term than its replica
saved_below : {x : Rounds} {ms : List Envelope} {g : Group} (v : ℕ) → ReadsCommon x ms g → (saved_at g v).term ≤ (replica_at g v).term
saved_below v c = let w = (c.kept.holds.hosts v).stands in let a = w.first.term in let b = w.second.term in omega (arith, a, b)

-- A leader at work on its reads, for any rounds that fit.
module _ {g : Group} (v : ℕ) {y : Rounds} {ms : List Envelope} (c : ReadsCommon y ms g) (was : (replica_at g v).role ≡ Leader) where
  -- its term
  abbrev t : ℕ
  t = (replica_at g v).term

  -- its seat
  abbrev s : Seat
  s = seat g v

  -- a round of the term was opened, and this host had not passed the term by then
  abbrev Heard : ℕ → ℕ → Type 0
  Heard u round = (round ≤ y.count t) × (y.gone t round u ≡ false)

  -- the replica leads that term still, with its reads
  record Leading (q : Replica) : Type 0 where
    does : Does y g v q
    role : q.role ≡ Leader
    term : q.term ≡ t
    reads : ReadsOfLeader y g.voters g.asks t q.reads.round q.reads.answered q.reads.waiting

  -- a leader with what the row owes leads that term still
  leading : (q : Replica) → Does y g v q → q.role ≡ Leader → Leading q
  leading q d role = ⊎_elim
      (λ old. record { does = d; role = role; term = old.1; reads = rw old.1 at old.2 })
      (λ new. absurd (let a : (replica_at g v).role ≡ Leader = was in let b : (replica_at g v).role ≡ Candidate = new.0 in cc))
      (d.role role)

  -- so it does with another round, other answers and other reads that fit
  reading : {q : Replica} {round : ℕ} {answered : List ℕ} {reads : List OpenRead} → Leading q → ReadsOfLeader y g.voters g.asks t round answered reads
      → Leading (record q { reads = record { round = round; answered = answered; waiting = reads } })
  reading l o = record {
    does = record { held = l.does.held; pending = l.does.pending; role = λ e. inl (was, l.term, rw l.term o); rises = l.does.rises; within = l.does.within };
    role = l.role;
    term = l.term;
    reads = o;
  }

  -- and with one more open read that fits
  opens : {q : Replica} (read : OpenRead) → IsOpen y g.voters g.asks t read → Leading q → Leading (waits_on read q)
  opens {q} read o l = let k = l.reads in reading l (record { begun = k.begun; heard = k.heard; stay = open_and y g.voters g.asks t q.reads.waiting (read ∷ []) k.stay (o, tt) })

  -- and after a beat to each other voter
  beats_lead : {q : Replica} → Leading q → Leading (beats s q)
  beats_lead {q} l = each_other_stays Leading v _
      (λ u q other l. record { does = sends _ (let b = l.reads.begun in rw l.term (omega (arith, b))) l.does; role = l.role; term = l.term; reads = l.reads }) g.voters q l

  -- a host that had passed the term at the opening of a round answers neither that nor a later one
  none_answers : (read : OpenRead) {q : Replica} → Leading q → (u : ℕ) → y.gone t read.round u ≡ true → ((u == v) || nat_le read.round (at q.reads.answered u)) ≡ true → ⊥
  none_answers read {q} l u gone test = ⊎_elim
      (λ me. let a : y.gone t read.round v ≡ true = rw (eqb-true u v me) at gone in let b = here_still c t read.round v (saved_below v c) in absurd (cc))
      (λ told.
      let h = l.reads.heard u in
      let a : y.gone t (at q.reads.answered u) u ≡ true = c.more t read.round (at q.reads.answered u) u gone (leb-true read.round (at q.reads.answered u) told) h.0 in
      let b : y.gone t (at q.reads.answered u) u ≡ false = h.1 in
      absurd (cc))
      (or_cases (u == v) (nat_le read.round (at q.reads.answered u)) test)

  -- so a read whose round a majority has answered covers what was decided when it was asked
  covered : {read : OpenRead} {q : Replica} → Leading q → IsOpen y g.voters g.asks t read → is_answered s q read ≡ true → AskedWithin g.asks read.key read.index
  covered {read} {q} l o test = ⊎_elim
      (λ a. a)
      (λ majority.
      let b = in_both g.voters (y.gone t read.round) (λ u. (u == v) || nat_le read.round (at q.reads.answered u)) majority test in
      absurd (none_answers read l b.0 b.1 b.2))
      o.front

  -- the leader goes on, and confirms reads only with their fronts
  record Confirming (w : Row) : Type 0 where
    leading : Leading w.replica
    notes : AreFronted g.asks w.notes

  -- it does so where it confirms a read that has its front
  confirmed_lead : (read : OpenRead) {w : Row} → AskedWithin g.asks read.key read.index → Confirming w → Confirming (confirmed s read w)
  confirmed_lead read {w} a l = cond_both (read.origin == v) _ (record w { replica = sent_in 0 s read.origin (bodies.ReadAnswer read.key read.index) w.replica }) Confirming
      (λ _. record { leading = l.leading; notes = notes_and g.asks w.notes (notes.Confirmed v read.key read.index ∷ []) l.notes (a, tt) })
      (λ _. let k = l.leading in record { leading = record { does = sends _ a k.does; role = k.role; term = k.term; reads = k.reads }; notes = l.notes })

  -- it does so where it confirms of some open reads those that are answered
  confirm_lead : (reads : List OpenRead) {w : Row} → AllOpen y g.voters g.asks t reads → Confirming w → Confirming (confirm s reads w)
  confirm_lead [] o l = l
  confirm_lead (read ∷ more) {w} o l = cond_both (is_answered s w.replica read) _ _ Confirming
      (λ e. confirm_lead more o.1 (confirmed_lead read (covered l.leading o.0 e) l))
      (λ _. confirm_lead more o.1 (record { leading = opens read o.0 l.leading; notes = l.notes }))

  -- and of all that are open
  confirms_lead : {q : Replica} → Leading q → Confirming (confirms s q)
  confirms_lead {q} l = let k = l.reads in confirm_lead q.reads.waiting k.stay (record { leading = reading l (record { begun = k.begun; heard = k.heard; stay = tt }); notes = tt })

  -- it leads still where it hears of a round that a voter answers
  hears : {q : Replica} (u round : ℕ) → Leading q → Heard u round → Leading (answers_round u round q)
  hears {q} u round l told =
      let k = l.reads in
      let n = max (at q.reads.answered u) round in
      let best : Heard u n = ⊎_elim
      (λ less. let e : round ≡ n = omega (arith, less) in subst (Heard u) e told)
      (λ more. let e : at q.reads.answered u ≡ n = omega (arith, more) in subst (Heard u) e (k.heard u))
      (le_or (at q.reads.answered u) round) in
      reading l (record {
        begun = k.begun;
        heard = λ w. ⊎_elim (λ new. subst (Heard w) (sym new.1) (subst (λ z. Heard z n) (sym new.0) best)) (λ old. subst (Heard w) (sym old) (k.heard w)) (at_set q.reads.answered u n w);
        stay = k.stay;
      })

module _ {g : Group} (p : HasReads g) (v : ℕ) where
  -- the host's replica
  abbrev r : Replica
  r = replica_at g v

  -- its seat
  abbrev e : Seat
  e = seat g v

  -- a leader leads still in its next round
  next_leads : (role : r.role ≡ Leader) → Leading v (opened_common p v role) role (next_round r)
  next_leads role = leading v (opened_common p v role) role (next_round r) (opened_row p v role) role

  -- the script's beat keeps what is owed of reads
  pub script_beat_out : RowOut g v (on_script_beat e r)
  script_beat_out = cond_both (is_full r || not (is_leader r)) _ _ (RowOut g v)
      (λ _. out p v (start p v) (tt, tt))
      (λ a.
      let role = leads r (not-false (is_leader r) (or_parts (is_full r) (not (is_leader r)) a).1) in
      let c = opened_common p v role in
      record { rounds = after p v role; seals = _; common = c; others = opened_others p v role; row = (beats_lead v c role (next_leads role)).does; notes = tt })

  -- a leader that may read keeps it where it opens a read in its next round
  reads_out : may_read r ≡ true → (key : Key) → IsAsked g.asks key → (origin : ℕ) → RowOut g v (open_read e key origin r)
  reads_out may key asked origin =
      let parts = and_parts (is_leader r) (term_at r.log r.commit == r.term) may in
      let role = leads r parts.0 in
      let c = opened_common p v role in
      let read : OpenRead = record { key = key; origin = origin; index = r.commit; round = (next_round r).reads.round } in
      let o = opened_front p v role (eqb-true (term_at r.log r.commit) r.term parts.1) key origin asked in
      let z = confirms_lead v c role (beats_lead v c role (opens v c role read o (next_leads role))) in
      record { rounds = after p v role; seals = _; common = c; others = opened_others p v role; row = z.leading.does; notes = z.notes }

  -- ReadAsk keeps it
  pub read_ask_out : (from : ℕ) (key : Key) → IsAsked g.asks key → RowOut g v (on_read_ask e from key r)
  read_ask_out from key asked = cond_both (may_read r && not (is_full r)) _ _ (RowOut g v)
      (λ a. reads_out (and_parts (may_read r) (not (is_full r)) a).0 key asked from)
      (λ _. out p v (start p v) tt)

  -- the local read keeps it
  pub ask_out : (key : Key) → IsAsked g.asks key → RowOut g v (on_ask e key r)
  ask_out key asked = cond_both (is_full r) _ _ (RowOut g v) (λ _. out p v (start p v) (tt, tt))
      (λ _. cond_both (is_leader r) _ _ (RowOut g v)
      (λ _. cond_both (may_read r) _ _ (RowOut g v) (λ may. reads_out may key asked v) (λ _. out p v (start p v) (tt, tt)))
      (λ _. cond_both (r.leader == 0) _ _ (RowOut g v) (λ _. out p v (start p v) (tt, tt)) (λ _. out p v (sends _ asked (start p v)) tt)))

  -- ReadAnswer keeps it
  pub read_answer_out : (key : Key) (i : ℕ) → AskedWithin g.asks key i → RowOut g v (on_read_answer e key i r)
  read_answer_out key i a = out p v (start p v) (a, tt)

  -- BeatReply keeps it
  pub beat_reply_out : (from t round : ℕ) → (round ≤ p.rounds.count t) × (p.rounds.gone t round from ≡ false) → RowOut g v (on_beat_reply e from t round (in_term t r))
  beat_reply_out from t round told =
      let q = in_term t r in
      cond_both ((t == q.term) && is_leader q) _ _ (RowOut g v)
      (λ a.
      let parts = and_parts (t == q.term) (is_leader q) a in
      let role : q.role ≡ Leader = leads q parts.1 in
      let same : q ≡ r = in_term_leads t r role in
      let was : r.role ≡ Leader = ap (λ (z : Replica). z.role) (sym same) ∙ role in
      let term : t ≡ r.term = eqb-true t q.term parts.0 ∙ ap (λ (z : Replica). z.term) same in
      let l = leading v p.common was q (terms p v t) role in
      let z = confirms_lead v p.common was (hears v p.common was from round l (rw term at told)) in
      out p v (more_does e from (confirms e (answers_round from round q)).replica z.leading.does) z.notes)
      (λ _. out p v (terms p v t) tt)

  -- Beat keeps it
  pub beat_out : (from t c round : ℕ) → c ≤ length g.decided → round ≤ p.rounds.count t → RowOut g v (on_beat e from t c round (in_term t r))
  beat_out from t c round less told =
      let q = in_term t r in
      let d = terms p v t in
      cond_both (nat_lt t q.term) _ _ (RowOut g v)
      (λ _. out p v (sends _ (omega arith, not_gone p.common q.term v) d) tt)
      (λ a. cond_both (is_leader q) _ _ (RowOut g v) (λ _. out p v d tt)
      (λ _.
      let term : t ≡ q.term = (let m = in_term_most t r in let k = ltb-false t q.term a in omega (arith, m, k)) in
      let here : p.rounds.gone t round v ≡ false = here_still p.common t round v (omega (arith, saved_below v p.common, in_term_rises t r, term)) in
      out p v
      (sends _ (rw (← term) (told, here)) (follower_does (max q.commit (min c (last q.log))) (omega (arith, in_term_commit t r, less, committed p v)) d)) tt))
