-- The invariant of reads where a read is first asked, and where a leader opens a round and a read in it. Source: dissertation section 6.4.
use Rattle.std.proofs.Common.{◌≡◌, ◌≢◌, ◌⊎◌, ⊎_elim, ℕ, ◌+◌, ◌≤◌, List, [], ◌∷◌, length, Bool, true, false, refl, sym, ap, ◌∙◌, arith, inl, inr, ◌==◌, if◌then◌else◌}
use Rattle.std.specs.Prelude.{nat_lt}
use Rattle.std.proofs.lemmas.Bool.{cases_eq, eq-eqb, ne_eqb, lt-ltb, ltb-true}
use Rattle.std.specs.BTreeMap.{insert_entry}
use Rattle.host_ids.specs.declared.entry.Key.{Key}
use Rattle.wire_types.specs.declared.envelope.Envelope.{Envelope}
use Rattle.wire_types.specs.declared.envelope.Body.{Body}
use Rattle.wire_types.specs.declared.envelope.Body.TheVariants as bodies
use Rattle.raft_model.specs.declared.state.State.{State as Replica}
use Rattle.read_index.specs.declared.reads.OpenRead.{OpenRead}
use Rattle.raft_model.specs.declared.role.Role.TheVariants.{Leader}
use Rattle.raft_model.specs.declared.note.Note.{Note}
use Rattle.raft_model.specs.declared.note.Note.TheVariants as notes
use Rattle.roster.specs.Roster.{at}
use Rattle.log_view.specs.Log.{term_at}
use Rattle.raft_model.specs.Reading.{next_round}
use Rattle.raft_model.specs.Group.{Group, replica_at, saved_at, key_order, noted_ask}
use Rattle.raft_safety.specs.Rounds.{AllOpen, AllTell, Asks, HasReads, IsAsked, IsOpen, IsReader, ReadTells, ReadsOfLeader, ReadsCommon, Rounds, View, aheads, seal, view}
use Rattle.raft_safety.specs.ReadFront.{AskedWithin, IsFronted, AreFronted}
use Rattle.raft_safety.proofs.Argument.Agreement.{le_or}
use Rattle.raft_safety.proofs.Argument.Quorums.{majority_more}
use Rattle.raft_safety.proofs.Frame.Tables.{IsPair, at_pair, at_there, at_elsewhere, pair_cases}
use Rattle.raft_safety.proofs.Laws.Cases.{noted_ask_cases}
use Rattle.raft_safety.proofs.Laws.Events.{kept_asks}
use Rattle.raft_safety.proofs.Laws.Agreed.{agreed}
use Rattle.raft_safety.proofs.Laws.Seals.{sealed, front_or_gone}
use Rattle.raft_safety.proofs.Reading.Asks.{StayAsked, asked_still, asked_bounded}
use Rattle.raft_safety.proofs.Reading.Steps.{Does, decided_with, common_with}

-- rounds and first askings go on: some may be more, and those of before are as they were
pub record Later (x y : Rounds) (asks more : Asks) : Type 0 where
  pub count : (t : ℕ) → x.count t ≤ y.count t
  pub gone : (t r u : ℕ) → r ≤ x.count t → y.gone t r u ≡ x.gone t r u
  pub asked : StayAsked asks more

module _ {x y : Rounds} {asks more : Asks} (l : Later x y asks more) where
  -- an index that covers the first asking of a read covers it still
  within_later : (key : Key) (n : ℕ) → AskedWithin asks key n → AskedWithin more key n
  within_later key n a = record { first = a.first; asked = l.asked key a.first a.asked; within = a.within }

  -- a round that was opened was opened still, and who had not passed its term by then had not
  heard_later : (t round u : ℕ) → (round ≤ x.count t) × (x.gone t round u ≡ false) → (round ≤ y.count t) × (y.gone t round u ≡ false)
  heard_later t round u p = (let m = l.count t in omega (arith, m, p.0), l.gone t round u p.0 ∙ p.1)

  -- what an envelope tells of reads is so still
  tells_later : (from t : ℕ) (body : Body) → ReadTells x asks from t body → ReadTells y more from t body
  tells_later from t (bodies.Beat c round) p = let m = l.count t in omega (arith, m, p)
  tells_later from t (bodies.BeatReply round) p = heard_later t round from p
  tells_later from t (bodies.ReadAsk key) p = record { first = p.first; asked = l.asked key p.first p.asked }
  tells_later from t (bodies.ReadAnswer key i) p = within_later key i p
  tells_later from t body p = tt

  -- and what each of some envelopes tells
  all_later : (es : List Envelope) → AllTell x asks es → AllTell y more es
  all_later [] p = tt
  all_later (e ∷ es) p = (tells_later e.from e.term e.body p.0, all_later es p.1)

  -- open reads that fit still fit
  opens_later : (voters : List ℕ) (t : ℕ) (reads : List OpenRead) → AllOpen x voters asks t reads → AllOpen y voters more t reads
  opens_later voters t [] p = tt
  opens_later voters t (read ∷ reads) p = (open_later p.0, opens_later voters t reads p.1)
    where
      open_later : {read : OpenRead} → IsOpen x voters asks t read → IsOpen y voters more t read
      open_later {read} p = record {
        within = (let m = l.count t in let w = p.within in omega (arith, m, w));
        front = ⊎_elim
            (λ a. inl (within_later read.key read.index a))
            (λ m. inr (majority_more voters (x.gone t read.round) (y.gone t read.round) (λ u e. l.gone t read.round u p.within ∙ e) m))
            p.front;
      }

  -- the reads of a leader that has begun all rounds of its term still fit
  leader_later : {voters : List ℕ} {t before : ℕ} {answered : List ℕ} {reads : List OpenRead} (round : ℕ) → round ≡ y.count t → ReadsOfLeader x voters asks t before answered reads
      → ReadsOfLeader y voters more t round answered reads
  leader_later {voters} {t} {answered} {reads} round begun o = record { begun = begun; heard = λ u. heard_later t (at answered u) u (o.heard u); stay = opens_later voters t reads o.stay }

  -- what is said of the reads of a replica holds still, if no round was opened in a term that it leads
  reader_later : {voters : List ℕ} {r : View} → (r.role ≡ Leader → y.count r.term ≡ x.count r.term) → IsReader x voters asks r → IsReader y voters more r
  reader_later {voters} {r} same p = record {
    held = all_later r.held p.held;
    pending = λ q e. all_later q.envelopes (p.pending q e);
    leader = λ e. let o = p.leader e in leader_later r.round (o.begun ∙ sym (same e)) o;
  }

  -- confirmed reads have their fronts still
  pub notes_later : (ns : List Note) → AreFronted asks ns → AreFronted more ns
  notes_later [] p = tt
  notes_later (n ∷ ns) p = (note_later n p.0, notes_later ns p.1)
    where
      note_later : (n : Note) → IsFronted asks n → IsFronted more n
      note_later (notes.Confirmed host key i) p = within_later key i p
      note_later n p = tt

-- first askings may go on while the rounds are as they were
pub later_asks : (x : Rounds) (asks more : Asks) → StayAsked asks more → Later x x asks more
later_asks x asks more asked = record { count = λ t. omega arith; gone = λ t r u m. refl; asked = asked }

-- a group has the invariant of reads still where a read is noted as asked
pub asked_reads : {g : Group} (key : Key) → HasReads g → HasReads (noted_ask g key)
asked_reads {g} key p = noted_ask_cases g key HasReads (λ _. p) (λ new.
    let more = insert_entry key_order g.asks key (length g.decided) in
    let l = later_asks p.rounds g.asks more (asked_still g key new) in
    let c = p.common in
    record {
      rounds = p.rounds;
      seals = p.seals;
      common = common_with g.up more (kept_asks more c.kept) (asked_bounded g key new c.bounded) (all_later l g.wire c.wire) c;
      hosts = λ u. reader_later l (λ role. refl) (p.hosts u);
    })

-- A leader opens a round.

module _ {g : Group} (p : HasReads g) (v : ℕ) (role : (replica_at g v).role ≡ Leader) where
  -- the rounds before
  abbrev x : Rounds
  x = p.rounds

  -- the leader
  abbrev r : Replica
  r = replica_at g v

  -- its term
  abbrev t : ℕ
  t = r.term

  -- the round that it opens
  abbrev n : ℕ
  n = x.count t + 1

  -- the hosts whose saved term is above the leader's
  abbrev passed : ℕ → Bool
  passed u = nat_lt t (saved_at g u).term

  -- the rounds after: those hosts had passed the term at the opening of the new one
  abbrev pub after : Rounds
  after = record { count = λ s. if s == t then n else x.count s; gone = at_pair t n passed x.gone }

  -- the seals after: the leader is sealed
  abbrev pub seals : List Envelope
  seals = seal v t 0 ∷ p.seals

  -- in the leader's term one round more is opened
  count_mine : (s : ℕ) → s ≡ t → after.count s ≡ x.count s + 1
  count_mine s same = rw same (ap (λ b. if b then n else x.count t) (eq-eqb t t refl))

  -- in another term none is
  count_other : (s : ℕ) → s ≢ t → after.count s ≡ x.count s
  count_other s o = ap (λ b. if b then n else x.count s) (ne_eqb s t o)

  -- the new round is the next of its term
  is_next : {s k : ℕ} → IsPair t n s k → k ≡ x.count s + 1
  is_next here = rw here.first here.second

  -- and the next of that term is the new one
  next_is : (s k : ℕ) → s ≡ t → k ≡ x.count s + 1 → IsPair t n s k
  next_is s k same e = record { first = same; second = rw same at e }

  -- at the opening of another round the same hosts had passed the term as before
  gone_other : (s k u : ℕ) → (IsPair t n s k → ⊥) → after.gone s k u ≡ x.gone s k u
  gone_other s k u o = ap (λ f. f u) (at_elsewhere t n passed x.gone s k o)

  -- at the opening of the new one those with a greater saved term
  gone_mine : (s k u : ℕ) → IsPair t n s k → after.gone s k u ≡ passed u
  gone_mine s k u here = rw here.first (rw here.second (ap (λ f. f u) (at_there t n passed x.gone)))

  -- who had passed the term at an opening did so at the new one, or is as before
  gone_was : (s k u : ℕ) → after.gone s k u ≡ true → (IsPair t n s k × (passed u ≡ true)) ⊎ (x.gone s k u ≡ true)
  gone_was s k u e = ⊎_elim (λ here. inl (here, sym (gone_mine s k u here) ∙ e)) (λ o. inr (sym (gone_other s k u o) ∙ e)) (pair_cases t n s k)

  -- no term has fewer rounds than before
  count_more : (s : ℕ) → x.count s ≤ after.count s
  count_more s = ⊎_elim (λ same. omega (arith, count_mine s same)) (λ o. omega (arith, count_other s o)) (cases_eq s t)

  -- a round that is opened, other than the new one, was opened before
  most_other : (s k : ℕ) → (IsPair t n s k → ⊥) → k ≤ after.count s → k ≤ x.count s
  most_other s k o most = ⊎_elim
      (λ same. ⊎_elim (λ l. l) (λ past. absurd (o (next_is s k same (let a = count_mine s same in omega (arith, past, most, a))))) (le_or k (x.count s)))
      (λ apart. omega (arith, count_other s apart, most))
      (cases_eq s t)

  -- so the rounds go on
  opened_later : Later x after g.asks g.asks
  opened_later = record {
    count = count_more;
    gone = λ s k u m. gone_other s k u (λ here. let e = is_next here in omega (arith, m, e));
    asked = λ key m f. f;
  }

  -- the part of the invariant of reads on the group holds with these rounds and seals
  pub opened_common : ReadsCommon after seals g
  opened_common =
      let c = p.common in
      record {
        kept = sealed v c.kept role 0 (omega arith);
        bounded = c.bounded;
        wire = all_later opened_later g.wire c.wire;
        gone = λ s k u e. ⊎_elim (λ new. let l = ltb-true t (saved_at g u).term new.1 in let same = new.0.first in omega (arith, l, same)) (c.gone s k u) (gone_was s k u e);
        within = λ s k u e. ⊎_elim
            (λ new. let e = is_next new.0 in let a = count_mine s new.0.first in (omega (arith, e), omega (arith, e, a)))
            (λ old. let w = c.within s k u old in (w.0, omega (arith, w.1, count_more s)))
            (gone_was s k u e);
        more = λ s k j u e up most. ⊎_elim
            (λ here. gone_mine s j u here ∙ lt-ltb t (saved_at g u).term (⊎_elim
            (λ new. ltb-true t (saved_at g u).term new.1)
            (λ old. let l = c.gone s k u old in let same = here.first in omega (arith, l, same))
            (gone_was s k u e)))
            (λ o. gone_other s j u o ∙ ⊎_elim
            (λ new. absurd (o (next_is s j new.0.first (let m = is_next new.0 in let a = count_mine s new.0.first in omega (arith, m, up, most, a)))))
            (λ old. c.more s k j u old up (most_other s j o most))
            (gone_was s k u e))
            (pair_cases t n s j);
        led = λ s some. ⊎_elim
            (λ same. record { host = v; decided = 0; there = inl (ap (λ z. seal v z 0) same) })
            (λ o. let m = c.led s (λ z. some (count_other s o ∙ z)) in record { host = m.host; decided = m.decided; there = inr m.there })
            (cases_eq s t);
        decided = decided_with g.up g.asks (λ m on. inr on) c.decided;
      }

  -- and so does the part on every other host, which leads another term
  pub opened_others : (u : ℕ) → u ≢ v → IsReader after g.voters g.asks (view (replica_at g u))
  opened_others u other = reader_later opened_later (λ leads. count_other (replica_at g u).term (λ same. other ((agreed (aheads p.seals g) p.common.kept).leaders u v leads role same))) (p.hosts u)

  -- the leader in its next round has what a row owes
  pub opened_row : Does after g v (next_round r)
  opened_row =
      let a = p.hosts v in
      let o = a.leader role in
      record {
        held = all_later opened_later r.held a.held;
        pending = λ q e. all_later opened_later q.envelopes (a.pending q e);
        role = λ e. inl (role, refl, leader_later opened_later (r.reads.round + 1) (ap (λ k. k + 1) o.begun ∙ sym (count_mine t refl)) o);
        rises = λ was e. omega arith;
        within = inr role;
      }

  -- a read that opens in the new round covers what is decided, or a majority had passed the term by then
  pub opened_front : term_at r.log r.commit ≡ r.term → (key : Key) (origin : ℕ) → IsAsked g.asks key
      → IsOpen after g.voters g.asks t (record { key = key; origin = origin; index = r.commit; round = (next_round r).reads.round })
  opened_front own key origin asked =
      let c = p.common in
      let m : asked.first ≤ length g.decided = c.bounded key asked.first asked.asked in
      let round : (next_round r).reads.round ≡ n = ap (λ k. k + 1) ((p.hosts v).leader role).begun in
      let covered : length g.decided ≤ r.commit → AskedWithin g.asks key r.commit = λ w. record { first = asked.first; asked = asked.asked; within = omega (arith, w, m) } in
      record {
        within = omega (arith, round, count_mine t refl);
        front = ⊎_elim
            (λ none. inl (covered (omega (arith, none))))
            (λ by. ⊎_elim
            (λ w. inl (covered w))
            (λ majority. inr (majority_more g.voters passed (after.gone t (next_round r).reads.round) (λ u e. gone_mine t (next_round r).reads.round u (record { first = refl; second = round }) ∙ e) majority))
            (front_or_gone p.seals g c.kept by.host by.term by.there v role own (λ here. (rw (← here) at by.own) role)))
            c.decided;
      }
