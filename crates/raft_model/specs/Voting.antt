-- The rows of Timeout, Vote and VoteReply. Source: dissertation sections 3.4 and 3.6.
use Rattle.std.specs.Prelude.{ℕ, ◌+◌, ◌==◌, ◌||◌, ◌&&◌, List, Bool, true, not, nat_lt, nat_le, slice_set, if◌then◌else◌}
use Rattle.wire_types.specs.declared.envelope.Body.TheVariants as bodies
use Rattle.raft_model.specs.declared.election.Election.{Election}
use Rattle.raft_model.specs.declared.role.Role.TheVariants.{Candidate}
use Rattle.roster.specs.Roster.{Seat, is_set, none_set, is_majority}
use Rattle.log_view.specs.Log.{last, last_term}
use Rattle.raft_model.specs.declared.state.State.{State as Replica}
use Rattle.raft_model.specs.Replica.{Row, quiet, notes_idle, is_leader, is_candidate, is_full, sent, each_other, lead}

-- what of a replica its votes depend on: the end of its log among it
abbrev pub election : Replica → Election
election r = record { term = r.term; vote = r.vote; last = last r.log; last_term = last_term r.log; granted = r.granted; candidate = is_candidate r }

-- | Timeout | else | term + 1; vote = me; role Candidate; leader 0; no grants; send Vote{last, term_at(last)} to each other |
abbrev pub stands : ℕ → Election → Election
stands me e = record e { term = e.term + 1; vote = me; granted = none_set; candidate = true }

abbrev pub campaigned : Seat → Replica → Replica
campaigned s r = let e = stands s.me (election r) in record r { term = e.term; vote = e.vote; role = Candidate; leader = 0; granted = e.granted }

abbrev pub asked_votes : Seat → Replica → Replica
asked_votes s r = each_other s.me (λ v q. sent s v (bodies.Vote (last q.log) (last_term q.log)) q) s.voters r

-- | Timeout | Leader, or full | note Idle |
abbrev pub on_timeout : Seat → Replica → Row
on_timeout s r = if is_full r || is_leader r then notes_idle r else quiet (asked_votes s (campaigned s r))

-- the log of the sender is at least as late as this one
abbrev pub is_late_enough : Election → ℕ → ℕ → Bool
is_late_enough e l lt = nat_lt e.last_term lt || ((lt == e.last_term) && nat_le e.last l)

-- the vote is free or the sender's, and its log is late enough; an older term gets none
abbrev pub grants : Election → ℕ → ℕ → ℕ → ℕ → Bool
grants e from t l lt = not (nat_lt t e.term) && (((e.vote == 0) || (e.vote == from)) && is_late_enough e l lt)

abbrev pub voted : ℕ → Bool → Election → Election
voted from granted e = if granted then record e { vote = from } else e

-- | Vote{l, lt} | t < term | send VoteReply{0} |
-- | Vote{l, lt} | t = term | granted where vote is 0 or the sender, and lt > term_at(last), or lt = term_at(last) and l >= last; then vote = sender; send VoteReply{granted} |
abbrev pub on_vote : Seat → ℕ → ℕ → ℕ → ℕ → Replica → Row
on_vote s from t l lt r =
    let granted = grants (election r) from t l lt in
    quiet (sent s from (bodies.VoteReply granted) (record r { vote = (voted from granted (election r)).vote }))

abbrev pub with_grant : ℕ → Election → Election
with_grant from e = record e { granted = slice_set e.granted from true }

abbrev pub has_won : List ℕ → Election → Bool
has_won voters e = is_majority voters (is_set e.granted)

-- a grant is counted, and a majority of them leads
abbrev pub granted_by : Seat → ℕ → Replica → Row
granted_by s from r =
    let e = with_grant from (election r) in
    let q = record r { granted = e.granted } in
    if has_won s.voters e then lead s q else quiet q

-- a grant of the candidate's term
abbrev pub counts : Election → ℕ → Bool → Bool
counts e t granted = granted && (t == e.term) && e.candidate

-- | VoteReply{1} | t = term, Candidate | the sender is granted; with a majority: Lead |
-- | VoteReply | else | nothing |
abbrev pub on_vote_reply : Seat → ℕ → ℕ → Bool → Replica → Row
on_vote_reply s from t granted r = if counts (election r) t granted then granted_by s from r else quiet r
