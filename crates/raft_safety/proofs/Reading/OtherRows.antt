-- The rows of votes, of entries and of Saved touch no open read: a replica's reads stay, or are a new leader's, which has none.
use Rattle.std.proofs.Common.{◌≡◌, ℕ, zero, suc, ◌+◌, ◌-◌, ◌<◌, ◌≤◌, List, [], ◌∷◌, ◌++◌, length, Bool, true, refl, sym, ap, ◌∙◌, arith, inl, inr, Some, None, ◌==◌, ◌&&◌, ◌||◌, min, max, not}
use Rattle.std.specs.Prelude.{nat_lt, nat_le, slice_set}
use Rattle.std.proofs.lemmas.Bool.{cond_both, and_parts, ltb-true}
use Rattle.host_ids.specs.declared.entry.Key.{Key}
use Rattle.host_ids.specs.declared.entry.Entry.{Entry}
use Rattle.host_ids.specs.declared.batch.Batch.{Batch}
use Rattle.host_ids.specs.declared.proposal.Proposal.{Proposal}
use Rattle.host_ids.specs.declared.proposal.Proposal.TheVariants as proposals
use Rattle.wire_types.specs.declared.envelope.Envelope.{Envelope}
use Rattle.raft_model.specs.declared.state.State.{State as Replica}
use Rattle.raft_model.specs.declared.role.Role.TheVariants.{Follower, Candidate, Leader}
use Rattle.log_view.specs.Log.{Log, last}
use Rattle.raft_model.specs.declared.progress.Appended.{Appended}
use Rattle.raft_model.specs.declared.progress.Appended.TheVariants.{Refused, Stored}
use Rattle.roster.specs.Roster.{Seat, at, none_set}
use Rattle.read_index.specs.Reads.{closed}
use Rattle.raft_model.specs.Replica.{Row, quiet, is_leader, is_candidate, is_full, append_to, in_term, greatest, may_commit, commit_rule, appended, appended_to_all, no_key, crowned, lead}
use Rattle.raft_model.specs.Voting.{election, campaigned, on_timeout, on_vote, with_grant, has_won, granted_by, counts, on_vote_reply}
use Rattle.raft_model.specs.Appending.{takes, answers_append, follows, on_append, more_to, progress, with_progress, heard, on_append_reply, takes_append}
use Rattle.raft_model.specs.Proposing.{on_propose, on_local_proposal}
use Rattle.raft_model.specs.Saving.{counts_own, own_vote, own_match, stabilised, saved_batch}
use Rattle.raft_model.specs.Group.{Group, replica_at, seat}
use Rattle.raft_safety.specs.Rounds.{HasReads, ReadTells, Rounds, View}
use Rattle.raft_safety.specs.ReadFront.{AreFronted}
use Rattle.raft_safety.proofs.Frame.Words.{each_other_stays}
use Rattle.raft_safety.proofs.Frame.Roles.{leads, stands_for}
use Rattle.raft_safety.proofs.Reading.Steps.{RowReads, Does, RowOut, not_leading, tell_and}

-- what the rule on greater terms comes to: a greater term is taken over, or all is as before
in_term_cases : (t : ℕ) (r : Replica) (P : Replica → Type 0) → (r.term < t → P (record r { term = t; vote = 0; role = Follower; leader = 0; granted = none_set; reads = closed r.reads })) → P r → P (in_term t r)
in_term_cases t r P new old = cond_both (nat_lt r.term t) _ _ P (λ e. new (ltb-true r.term t e)) (λ _. old)

-- a replica that isn't a follower after the rule on greater terms is as it was
in_term_same : (t : ℕ) (r : Replica) → ((in_term t r).role ≡ Follower → ⊥) → in_term t r ≡ r
in_term_same t r = in_term_cases t r (λ q. (q.role ≡ Follower → ⊥) → q ≡ r) (λ _ other. absurd (other refl)) (λ _. refl)

-- so a leader after it is as it was
pub in_term_leads : (t : ℕ) (r : Replica) → (in_term t r).role ≡ Leader → in_term t r ≡ r
in_term_leads t r role = in_term_same t r (λ follows. let z : (in_term t r).role ≡ Leader = role in absurd (cc))

-- the rule lowers no term
pub in_term_rises : (t : ℕ) (r : Replica) → r.term ≤ (in_term t r).term
in_term_rises t r = in_term_cases t r (λ q. r.term ≤ q.term) (λ less. omega (arith, less)) (omega arith)

-- and changes no commit index
pub in_term_commit : (t : ℕ) (r : Replica) → (in_term t r).commit ≡ r.commit
in_term_commit t r = in_term_cases t r (λ q. q.commit ≡ r.commit) (λ _. refl) refl

-- the commit rule lowers no commit index
greatest_most : (p : ℕ → Bool) (low m : ℕ) → low ≤ greatest p low m
greatest_most p low zero = omega arith
greatest_most p low (suc m) = cond_both (p (low + suc m)) _ _ (λ n. low ≤ n) (λ _. omega arith) (λ _. greatest_most p low m)

-- Words of the rows, for any rounds.
module _ {x : Rounds} {g : Group} {v : ℕ} where
  -- a replica that becomes a follower, with a commit index that is decided, keeps what the row owes
  pub follower_does : {q : View} (commit : ℕ) → commit ≤ length g.decided → RowReads x g v q → RowReads x g v (record q { role = Follower; commit = commit })
  follower_does commit within d = not_leading _ (λ e. absurd (cc)) within d.held d.pending

  -- so does one that holds an envelope more that tells what is so
  pub sends : {q : View} (m : Envelope) → ReadTells x g.asks m.from m.term m.body → RowReads x g v q → RowReads x g v (record q { held = q.held ++ m ∷ [] })
  sends {q} m tells d = record { held = tell_and x g.asks q.held (m ∷ []) d.held (tells, tt); pending = d.pending; role = d.role; rises = d.rises; within = d.within }

  -- so does a leader that sends entries to a voter
  pub append_does : (s : Seat) (u : ℕ) (q : Replica) → Does x g v q → Does x g v (append_to s u q)
  append_does s u q d = cond_both (nat_lt q.log.front (at q.next u) && nat_le (at q.next u) (last q.log + 1)) _ q (Does x g v) (λ _. sends _ tt d) (λ _. d)

  -- or more of them to one that lacks them
  pub more_does : (s : Seat) (u : ℕ) (q : Replica) → Does x g v q → Does x g v (more_to s u q)
  more_does s u q d = cond_both (nat_lt (at q.matched u) (last q.log)) _ q (Does x g v) (λ _. append_does s u q d) (λ _. d)

  -- or appends an entry and sends it to the others
  appends_does : (s : Seat) (key : Key) (p : Proposal) (q : Replica) → Does x g v q → Does x g v (appended_to_all s key p q)
  appends_does s key p q d = each_other_stays (Does x g v) s.me (append_to s) (λ u q _ d. append_does s u q d) s.voters (appended key p q) d

  -- or commits by the commit rule
  commits_does : (s : Seat) (q : Replica) → q.role ≡ Leader → Does x g v q → Does x g v (commit_rule s q)
  commits_does s q role d = record {
    held = d.held;
    pending = d.pending;
    role = d.role;
    rises = λ was e. (let m = greatest_most (may_commit s.voters q.matched q.log q.term) q.commit (last q.log - q.commit) in let l = d.rises was role in omega (arith, l, m));
    within = inr role;
  }

  -- a candidate of before that counts a grant keeps it, whether it then leads or not
  granted_does : (s : Seat) (u : ℕ) (q : Replica) → (replica_at g v).role ≡ Candidate → q.term ≡ (replica_at g v).term → Does x g v q
      → Does x g v (granted_by s u q).replica × AreFronted g.asks (granted_by s u q).notes
  granted_does s u q was term d =
      let e = record q { granted = slice_set q.granted u true } in
      cond_both (has_won s.voters (with_grant u (election q))) (lead s e) (quiet e) (λ w. Does x g v w.replica × AreFronted g.asks w.notes)
      (λ _. (
        appends_does s no_key proposals.Blank (crowned s e) (record {
          held = d.held;
          pending = d.pending;
          role = λ l. inr (was, term, record { begun = refl; heard = refl; stay = refl });
          rises = λ led l. absurd (let a : (replica_at g v).role ≡ Leader = led in let b : (replica_at g v).role ≡ Candidate = was in cc);
          within = inr refl;
        }),
        (tt, tt),
      ))
      (λ _. (d, tt))

  -- and so does one that counts its own vote
  own_vote_does : (s : Seat) (b : Batch) (q : Replica) → (q.role ≡ Candidate → ((replica_at g v).role ≡ Candidate) × (q.term ≡ (replica_at g v).term)) → Does x g v q
      → Does x g v (own_vote s b q).replica × AreFronted g.asks (own_vote s b q).notes
  own_vote_does s b q was d = cond_both (counts_own s b q) (granted_by s s.me q) (quiet q) (λ w. Does x g v w.replica × AreFronted g.asks w.notes)
      (λ e.
      let a = and_parts (is_candidate q) (b.term == q.term) (and_parts (is_candidate q && (b.term == q.term)) (b.vote == s.me) e).0 in
      let w = was (stands_for q a.0) in granted_does s s.me q w.0 w.1 d)
      (λ _. (d, tt))

  -- and a leader that counts its own entries
  own_match_does : (s : Seat) (q : Replica) → Does x g v q → Does x g v (own_match s q)
  own_match_does s q d = let m = record q { matched = slice_set q.matched s.me q.stable } in cond_both (is_leader q) (commit_rule s m) q (Does x g v) (λ e. commits_does s m (leads q e) d) (λ _. d)

module _ {g : Group} (p : HasReads g) (v : ℕ) where
  -- the host's replica
  abbrev r : Replica
  r = replica_at g v

  -- its seat
  abbrev s : Seat
  s = seat g v

  -- what a row owes of a replica, with the rounds as they are
  abbrev D : Replica → Type 0
  D = Does p.rounds g v

  -- such a row has what the event needs, with the rounds and the seals as they are
  abbrev pub out : {w : Row} → D w.replica → AreFronted g.asks w.notes → RowOut g v w
  out d ns = record { rounds = p.rounds; seals = p.seals; common = p.common; others = λ u o. p.hosts u; row = d; notes = ns }

  -- the host has committed no more than is decided
  pub committed : r.commit ≤ length g.decided
  committed = (p.common.kept.holds.hosts v).stands.now.commit.right

  -- before the row its replica has what the row owes
  pub start : D r
  start = let i = p.hosts v in record { held = i.held; pending = i.pending; role = λ e. inl (e, refl, i.leader e); rises = λ was e. omega arith; within = inl committed }

  -- and so after the rule on greater terms
  pub terms : (t : ℕ) → D (in_term t r)
  terms t = in_term_cases t r D (λ _. not_leading _ (λ e. absurd (cc)) committed start.held start.pending) start

  -- Timeout keeps what is owed of reads
  pub timeout_out : RowOut g v (on_timeout s r)
  timeout_out = cond_both (is_full r || is_leader r) _ _ (RowOut g v)
      (λ _. out start (tt, tt))
      (λ _. out (each_other_stays D v _ (λ u q _ d. sends _ tt d) g.voters (campaigned s r) (not_leading _ (λ e. absurd (cc)) committed start.held start.pending)) tt)

  -- Vote keeps it
  pub vote_out : (from t l lt : ℕ) → RowOut g v (on_vote s from t l lt (in_term t r))
  vote_out from t l lt = out (sends _ tt (terms t)) tt

  -- VoteReply keeps it
  pub vote_reply_out : (from t : ℕ) (granted : Bool) → RowOut g v (on_vote_reply s from t granted (in_term t r))
  vote_reply_out from t granted =
      let q = in_term t r in
      cond_both (counts (election q) t granted) _ _ (RowOut g v)
      (λ e.
      let role : q.role ≡ Candidate = stands_for q (and_parts (granted && (t == q.term)) (is_candidate q) e).1 in
      let same : q ≡ r = in_term_same t r (λ follows. let z : (in_term t r).role ≡ Candidate = role in absurd (cc)) in
      let a = granted_does s from q (ap (λ (q : Replica). q.role) (sym same) ∙ role) (ap (λ (q : Replica). q.term) same) (terms t) in
      out a.0 a.1)
      (λ _. out (terms t) tt)

  -- a follower that takes entries, with a commit index that is decided, keeps it
  took_does : (from c : ℕ) (o : Appended) (q : Replica) (log : Log) → c ≤ length g.decided → q.commit ≤ length g.decided → D q
      → let w = answers_append s from c o (record (follows from q) { log = log }) in D w.replica × AreFronted g.asks w.notes
  took_does from c (Refused hint) q log less within d = (sends _ tt (follower_does q.commit within d), tt)
  took_does from c (Stored m None) q log less within d = (sends _ tt (follower_does (max q.commit (min c m)) (omega (arith, less, within)) d), tt)
  took_does from c (Stored m (Some i)) q log less within d = (sends _ tt (follower_does (max q.commit (min c m)) (omega (arith, less, within)) d), tt)

  -- Append keeps it
  pub append_out : (from t prev pt c : ℕ) (es : List Entry) → c ≤ length g.decided → RowOut g v (on_append s from t prev pt c es (in_term t r))
  append_out from t prev pt c es less =
      let q = in_term t r in
      cond_both (nat_lt t q.term) _ _ (RowOut g v) (λ _. out (sends _ tt (terms t)) tt)
      (λ _. cond_both (is_leader q) (quiet q) (takes_append s from prev pt c es (follows from q)) (RowOut g v) (λ _. out (terms t) tt)
      (λ _.
      let took = takes q.log q.commit prev pt es in
      let a = took_does from c took.outcome q took.log less (omega (arith, in_term_commit t r, committed)) (terms t) in
      out a.0 a.1))

  -- AppendReply keeps it
  pub append_reply_out : (from t : ℕ) (ok : Bool) (i : ℕ) → RowOut g v (on_append_reply s from t ok i (in_term t r))
  append_reply_out from t ok i =
      let q = in_term t r in
      let m = with_progress (heard from ok i (progress q)) q in
      cond_both ((t == q.term) && is_leader q) _ _ (RowOut g v)
      (λ e. cond_both ok _ _ (RowOut g v)
      (λ _. out (more_does s from (commit_rule s m) (commits_does s m (leads q (and_parts (t == q.term) (is_leader q) e).1) (terms t))) tt)
      (λ _. out (append_does s from m (terms t)) tt))
      (λ _. out (terms t) tt)

  -- Propose keeps it
  pub propose_out : (key : Key) (a : Proposal) → RowOut g v (on_propose s key a r)
  propose_out key a = cond_both (is_leader r && not (is_full r)) _ _ (RowOut g v) (λ _. out (appends_does s key a r start) tt) (λ _. out start tt)

  -- the local proposal keeps it
  pub local_proposal_out : (key : Key) (a : Proposal) → RowOut g v (on_local_proposal s key a r)
  local_proposal_out key a = cond_both (is_full r) _ _ (RowOut g v) (λ _. out start (tt, tt))
      (λ _. cond_both (is_leader r) _ _ (RowOut g v) (λ _. out (appends_does s key a r start) tt)
      (λ _. cond_both (r.leader == 0) _ _ (RowOut g v) (λ _. out start (tt, tt)) (λ _. out (sends _ tt start) tt)))

  -- Saved keeps it
  pub saved_does : (b : Batch) → D (saved_batch s b r).replica × AreFronted g.asks (saved_batch s b r).notes
  saved_does b =
      let q = stabilised b r in
      let a = own_vote_does s b q (λ e. (e, refl)) start in
      let m = own_match_does s (own_vote s b q).replica a.0 in
      (record { held = m.held; pending = λ w e. absurd (cc); role = m.role; rises = m.rises; within = m.within }, a.1)
