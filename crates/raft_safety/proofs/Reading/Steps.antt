-- The invariant of reads (`HasReads`) in the group after a row, from what the row makes of a replica. Source: dissertation section 6.4.
use Rattle.std.proofs.Common.{◌≡◌, ◌≢◌, ◌⊎◌, ⊎_elim, ℕ, ◌-◌, ◌<◌, ◌≤◌, List, [], ◌∷◌, ◌++◌, length, take, drop, Bool, false, refl, sym, ◌∙◌, arith, inl, inr, Some, ◌&&◌}
use Rattle.std.specs.Prelude.{nat_lt, nat_le, slice_set}
use Rattle.std.proofs.lemmas.Bool.{cond_both, cases_eq}
use Rattle.std.proofs.lemmas.List.{get_or-set_same, get_or-set_other, length-append, length-take}
use Rattle.host_ids.specs.declared.entry.Entry.{Entry}
use Rattle.host_ids.specs.declared.entry.Key.{Key}
use Rattle.raft_model.specs.declared.saved.SavedState.{SavedState}
use Rattle.wire_types.specs.declared.envelope.Envelope.{Envelope}
use Rattle.raft_model.specs.declared.state.State.{State as Replica}
use Rattle.raft_model.specs.declared.state.Pending.{Pending}
use Rattle.read_index.specs.declared.reads.OpenRead.{OpenRead}
use Rattle.raft_model.specs.declared.role.Role.TheVariants.{Candidate, Leader}
use Rattle.raft_model.specs.declared.note.Note.{Note}
use Rattle.roster.specs.Roster.{at, all_at}
use Rattle.raft_model.specs.Replica.{Row, fresh, may_release}
use Rattle.raft_model.specs.Step.{Step, released}
use Rattle.raft_model.specs.Group.{Group, Acted, replica_at, saved_at, nothing_saved, continued, moved, stepped}
use Rattle.raft_safety.specs.Rounds.{AllOpen, AllTell, Asks, HasReads, IsDecidedBy, IsReader, ReadTells, ReadsCommon, ReadsOfLeader, Rounds, View, aheads, seal, view}
use Rattle.raft_safety.specs.Invariant.{IsOnWire, Kept}
use Rattle.raft_safety.specs.Replicas.{to_be_saved}
use Rattle.raft_safety.specs.ReadFront.{AreFronted}
use Rattle.raft_safety.proofs.Frame.Settle.{continued_none}
use Rattle.raft_safety.proofs.Laws.Seals.{sealed, only_sealed, not_candidate}
use Rattle.raft_safety.proofs.Argument.Agreement.{le_or}
use Rattle.raft_safety.proofs.Frame.Tables.{none_matched}
use Rattle.raft_safety.proofs.Laws.GoesOn.{goes_continued}
use Rattle.raft_safety.proofs.Reading.Asks.{first_asked}
use Rattle.raft_safety.proofs.Frame.Growth.{never_true}

-- an event leaves a group with the invariant of reads, and has noted reads as confirmed only with their fronts
pub record Fronted (a : Acted) : Type 0 where
  pub reads : HasReads a.group
  pub notes : AreFronted a.group.asks a.notes

-- it does so where it keeps the invariant of the group with any seals
abbrev pub Fronts : Group → Acted → Type 0
Fronts g a = ((ms : List Envelope) → Kept (aheads ms g) → Kept (aheads ms a.group)) → Fronted a

-- what a leader that has just begun has of rounds and reads
pub record IsNewly (round : ℕ) (answered : List ℕ) (reads : List OpenRead) : Type 0 where
  pub begun : round ≡ 0
  pub heard : answered ≡ all_at 0
  pub stay : reads ≡ []

-- what a row owes of the replica that it makes: it tells what is so, and a leader goes on with its reads or begins with none
pub record RowReads (x : Rounds) (g : Group) (v : ℕ) (q : View) : Type 0 where
  pub held : AllTell x g.asks q.held
  pub pending : (p : Pending) → q.pending ≡ Some p → AllTell x g.asks p.envelopes
  pub role : q.role ≡ Leader → (((replica_at g v).role ≡ Leader) × (q.term ≡ (replica_at g v).term) × ReadsOfLeader x g.voters g.asks q.term q.round q.answered q.reads)
      ⊎ (((replica_at g v).role ≡ Candidate) × (q.term ≡ (replica_at g v).term) × IsNewly q.round q.answered q.reads)
  pub rises : (replica_at g v).role ≡ Leader → q.role ≡ Leader → (replica_at g v).commit ≤ q.commit
  pub within : (q.commit ≤ length g.decided) ⊎ (q.role ≡ Leader)

-- the same, of a replica instead of what its reads need
abbrev pub Does : Rounds → Group → ℕ → Replica → Type 0
Does x g v q = RowReads x g v (view q)

-- all that a row owes: of its replica and its notes, with rounds and seals for which the rest of the invariant of reads holds
pub record RowOut (g : Group) (v : ℕ) (w : Row) : Type 0 where
  pub rounds : Rounds
  pub seals : List Envelope
  pub common : ReadsCommon rounds seals g
  pub others : (u : ℕ) → u ≢ v → IsReader rounds g.voters g.asks (view (replica_at g u))
  pub row : Does rounds g v w.replica
  pub notes : AreFronted g.asks w.notes

-- a replica that doesn't lead has what a row owes, whatever its reads
pub not_leading : {x : Rounds} {g : Group} {v : ℕ} (q : View) → (q.role ≡ Leader → ⊥) → q.commit ≤ length g.decided → AllTell x g.asks q.held
    → ((p : Pending) → q.pending ≡ Some p → AllTell x g.asks p.envelopes) → RowReads x g v q
not_leading q other within held pending = record { held = held; pending = pending; role = λ e. absurd (other e); rises = λ was e. absurd (other e); within = inl within }

-- two lists of envelopes that tell what is so do as one list
pub tell_and : (x : Rounds) (asks : Asks) (es fs : List Envelope) → AllTell x asks es → AllTell x asks fs → AllTell x asks (es ++ fs)
tell_and x asks [] fs p q = q
tell_and x asks (e ∷ es) fs p q = (p.0, tell_and x asks es fs p.1 q)

-- each envelope of a list that tells what is so does
pub tell_at : (x : Rounds) (asks : Asks) (es : List Envelope) (m : Envelope) → AllTell x asks es → IsOnWire es m → ReadTells x asks m.from m.term m.body
tell_at x asks [] m p on = absurd on
tell_at x asks (e ∷ es) m p on = ⊎_elim (λ same. rw same p.0) (λ more. tell_at x asks es m p.1 more) on

-- two lists of open reads that fit do as one list
pub open_and : (x : Rounds) (voters : List ℕ) (asks : Asks) (t : ℕ) (es fs : List OpenRead) → AllOpen x voters asks t es → AllOpen x voters asks t fs → AllOpen x voters asks t (es ++ fs)
open_and x voters asks t [] fs p q = q
open_and x voters asks t (e ∷ es) fs p q = (p.0, open_and x voters asks t es fs p.1 q)

-- two lists of notes whose confirmed reads have their fronts do as one list
pub notes_and : (asks : Asks) (es fs : List Note) → AreFronted asks es → AreFronted asks fs → AreFronted asks (es ++ fs)
notes_and asks [] fs p q = q
notes_and asks (e ∷ es) fs p q = (p.0, notes_and asks es fs p.1 q)

-- nobody had passed a term at the opening of its round 0, which no leader opens
pub not_gone : {x : Rounds} {ms : List Envelope} {g : Group} → ReadsCommon x ms g → (t u : ℕ) → x.gone t 0 u ≡ false
not_gone {x} c t u = never_true (x.gone t 0 u) (λ e. let w = (c.within t 0 u e).0 in omega (arith, w))

-- nor had one whose saved term isn't above it, at the opening of any round
pub here_still : {x : Rounds} {ms : List Envelope} {g : Group} → ReadsCommon x ms g → (t r u : ℕ) → (saved_at g u).term ≤ t → x.gone t r u ≡ false
here_still {x} c t r u less = never_true (x.gone t r u) (λ e. let w = c.gone t r u e in omega (arith, w, less))

-- the leader that has decided all stays so with more seals, other hosts up and other first askings
pub decided_with : {ms ns : List Envelope} {g : Group} (up : List Bool) (asks : Asks) → ((m : Envelope) → IsOnWire ms m → IsOnWire ns m) → (length g.decided ≡ 0) ⊎ IsDecidedBy ms g
    → (length g.decided ≡ 0) ⊎ IsDecidedBy ns (record g { up = up; asks = asks })
decided_with {g} up asks on by = ⊎_elim (λ none. inl none) (λ by. inr (record { host = by.host; term = by.term; there = on (seal by.host by.term (length g.decided)) by.there; own = by.own })) by

-- the part of the invariant of reads on the group holds with other hosts up and other first askings that fit
pub common_with : {x : Rounds} {ms : List Envelope} {g : Group} (up : List Bool) (asks : Asks) → Kept (aheads ms (record g { up = up; asks = asks }))
    → ((key : Key) (m : ℕ) → first_asked key asks ≡ Some m → m ≤ length g.decided) → AllTell x asks g.wire → ReadsCommon x ms g → ReadsCommon x ms (record g { up = up; asks = asks })
common_with up asks kept bounded wire c =
    record { kept = kept; bounded = bounded; wire = wire; gone = c.gone; within = c.within; more = c.more; led = c.led; decided = decided_with up asks (λ m on. on) c.decided }

-- a batch that is pending has no lower term than what is saved, and a commit index that is decided
pub pending_fits : {x : Rounds} {ms : List Envelope} {g : Group} → ReadsCommon x ms g → (v : ℕ) (p : Pending) → (replica_at g v).pending ≡ Some p
    → ((saved_at g v).term ≤ p.batch.term) × (p.batch.commit ≤ length g.decided)
pending_fits {g} c v p is = let s = (c.kept.holds.hosts v).stands in let a = s.first.term in let b = s.saving.commit.right in (rw (is, to_be_saved) at a, rw (is, to_be_saved) at b)

-- where a state of no lower term is saved, no saved term is lower
pub saves_rise : (g : Group) (v : ℕ) (b : SavedState) → v < length g.saves → (saved_at g v).term ≤ b.term → (u : ℕ) → (saved_at g u).term ≤ (saved_at (record g { saves = slice_set g.saves v b }) u).term
saves_rise g v b within more u = ⊎_elim
    (λ same. rw same (rw (get_or-set_same g.saves v b nothing_saved within) more))
    (λ o. rw (get_or-set_other g.saves v u b nothing_saved o) (omega arith))
    (cases_eq u v)

-- The group after a row, with other saved states.

module _ {g : Group} (v : ℕ) (saves : List SavedState) (more : (u : ℕ) → (saved_at g u).term ≤ (saved_at (record g { saves = saves }) u).term)
    {x : Rounds} {ms : List Envelope} (c : ReadsCommon x ms g) (others : (u : ℕ) → u ≢ v → IsReader x g.voters g.asks (view (replica_at g u)))
    (q : Replica) (row : Does x g v q) (sent : List Envelope) (tells : AllTell x g.asks sent)
    (within : v < length g.replicas) (post : Kept (aheads ms (moved (record g { saves = saves }) v q sent))) where
  -- the group after the row
  abbrev G : Group
  G = moved (record g { saves = saves }) v q sent

  -- the decided list before
  abbrev d : List Entry
  d = g.decided

  -- and after
  abbrev e : List Entry
  e = continued g.decided q

  -- the host has the replica that the row made
  mine : replica_at G v ≡ q
  mine = get_or-set_same g.replicas v q fresh within

  -- every other host is as it was
  other : (u : ℕ) → u ≢ v → replica_at G u ≡ replica_at g u
  other u o = get_or-set_other g.replicas v u q fresh o

  -- the decided list doesn't get shorter
  longer : length d ≤ length e
  longer = let a = goes_continued d q in let l = length-append d a.more in rw a.is (omega (arith, l))

  -- where the replica's commit index passes the list, the list doesn't pass that index
  exact : length d < q.commit → length e ≤ q.commit
  exact past = cond_both (nat_lt (length d) q.commit && nat_le q.log.front (length d)) _ d (λ es. length es ≤ q.commit)
      (λ _.
      let more = drop (length d - q.log.front) q.log.entries in
      let l = length-append d (take (q.commit - length d) more) in let m = length-take (q.commit - length d) more in omega (arith, l, m, past))
      (λ _. omega (arith, past))

  -- no round was opened in a term that is led from now on
  unopened : (t : ℕ) → (replica_at g v).role ≡ Candidate → (replica_at g v).term ≡ t → q.role ≡ Leader → q.term ≡ t → x.count t ≡ 0
  unopened t cand before role term = ⊎_elim
      (λ none. none)
      (λ some.
      let m = c.led t some in
      absurd (not_candidate ms g c.kept m.host t m.decided v m.there cand before (only_sealed ms G post m.host t m.decided v m.there (rw mine role) (rw mine term))))
      (cases_eq (x.count t) 0)

  -- the part of the invariant of reads on one host holds of that replica
  reader : IsReader x g.voters g.asks (view q)
  reader = record {
    held = row.held;
    pending = row.pending;
    leader = λ role. ⊎_elim
        (λ was. was.2)
        (λ new.
        let n = new.2 in
        let none = unopened q.term new.0 (sym new.1) role refl in
        record {
          begun = n.begun ∙ sym none;
          heard = λ u. let a : at q.reads.answered u ≡ 0 = rw n.heard (none_matched u) in (omega (arith, a), rw a (not_gone c q.term u));
          stay = rw n.stay tt;
        })
        (row.role role);
  }

  -- and of each host's
  hosts : (u : ℕ) → IsReader x g.voters g.asks (view (replica_at G u))
  hosts u = ⊎_elim (λ same. rw same (rw mine reader)) (λ o. rw (other u o) (others u o)) (cases_eq u v)

  -- so the group has the invariant of reads with any seals among which these are, if some leader of them has decided all
  finish : (ns : List Envelope) → Kept (aheads ns G) → ((m : Envelope) → IsOnWire ms m → IsOnWire ns m) → (length e ≡ 0) ⊎ IsDecidedBy ns G → HasReads G
  finish ns kept on decided = record {
    rounds = x;
    seals = ns;
    common = record {
      kept = kept;
      bounded = λ key m a. let b = c.bounded key m a in omega (arith, b, longer);
      wire = tell_and x g.asks g.wire sent c.wire tells;
      gone = λ t r u a. let b = c.gone t r u a in omega (arith, b, more u);
      within = c.within;
      more = c.more;
      led = λ t some. let m = c.led t some in record { host = m.host; decided = m.decided; there = on (seal m.host t m.decided) m.there };
      decided = decided;
    };
    hosts = hosts;
  }

  -- a sealed leader that has committed all that is decided has done so after the row, if it leads that term still
  own_still : (host term : ℕ) → IsOnWire ms (seal host term (length d)) → ((replica_at g host).role ≡ Leader → (replica_at g host).term ≡ term → length d ≤ (replica_at g host).commit)
      → (replica_at G host).role ≡ Leader → (replica_at G host).term ≡ term → length d ≤ (replica_at G host).commit
  own_still host term there own = ⊎_elim
      (λ here. rw here (rw mine (λ role same. ⊎_elim
      (λ was. let l = row.rises was.0 role in let m = (rw here at own) was.0 (sym was.1 ∙ same) in omega (arith, l, m))
      (λ new. absurd (not_candidate ms g c.kept host term (length d) v there new.0 (sym new.1 ∙ same) (sym here)))
      (row.role role))))
      (λ o. rw (other host o) own)
      (cases_eq host v)

  -- where the replica's commit index doesn't pass the list, the group has the invariant of reads
  same_list : q.commit ≤ length d → HasReads G
  same_list short = let same : e ≡ d = continued_none d q short in finish ms post (λ m on. on) (rw same (⊎_elim
      (λ none. inl none)
      (λ by. inr (record { host = by.host; term = by.term; there = by.there; own = own_still by.host by.term by.there by.own }))
      c.decided))

  -- and where it does, for then the replica leads
  more_list : length d < q.commit → HasReads G
  more_list past =
      let role : (replica_at G v).role ≡ Leader = rw mine (⊎_elim (λ short. absurd (omega (arith, short, past))) (λ l. l) row.within) in
      let committed : length e ≤ (replica_at G v).commit = rw mine (exact past) in
      finish (seal v (replica_at G v).term (length e) ∷ ms) (sealed v post role (length e) committed) (λ m on. inr on)
      (inr (record { host = v; term = (replica_at G v).term; there = inl refl; own = λ l t. committed }))

  -- so it has it in any case
  pub settled : HasReads G
  settled = ⊎_elim same_list more_list (le_or q.commit (length d))

-- an event that is a row, whose envelopes may then be released after others, keeps it
pub stepped_reads : {g : Group} {v : ℕ} (saves : List SavedState) → ((u : ℕ) → (saved_at g u).term ≤ (saved_at (record g { saves = saves }) u).term) → v < length g.replicas
    → (before : List Envelope) {w : Row} (o : RowOut g v w) → AllTell o.rounds g.asks before → Fronts g (stepped (record g { saves = saves }) v (released before w))
stepped_reads {g} {v} saves more within before {w} o tells =
    let q = w.replica in
    cond_both (may_release q) _ _ (λ (s : Step). Fronts g (stepped (record g { saves = saves }) v s))
    (λ _ goes. record {
      reads = settled v saves more o.common o.others (record q { held = [] }) (record { held = tt; pending = o.row.pending; role = o.row.role; rises = o.row.rises; within = o.row.within })
          (before ++ q.held) (tell_and o.rounds g.asks before q.held tells o.row.held) within (goes o.seals o.common.kept);
      notes = o.notes;
    })
    (λ _ goes. record { reads = settled v saves more o.common o.others q o.row before tells within (goes o.seals o.common.kept); notes = o.notes })
