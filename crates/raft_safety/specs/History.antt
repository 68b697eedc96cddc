-- What the invariant remembers of a run, and what it says of logs alone. Source: dissertation sections 3.6 and 3.8; the history is this project's own.
use Rattle.std.specs.Prelude.{false, ◌≡◌, ◌⊎◌, ℕ, ◌<◌, ◌≤◌, List, [], ◌∷◌, length, take, drop, Bool, true, nat_le}
use Rattle.host_ids.specs.declared.entry.Entry.{Entry}
use Rattle.roster.specs.Roster.{is_majority}
use Rattle.raft_model.specs.Group.{term_of}

-- a reign: a term that was led, by whom, and with which log
pub record Reign : Type 0 where
  pub term : ℕ
  pub leader : ℕ
  pub quorum : ℕ → Bool  -- the voters whose grants were counted at the election
  pub log : List Entry  -- the leader's whole log, as it stands or stood last
  pub order : ℕ  -- greater than that of each reign elected before

-- what is remembered of a run. An answer to a term's leader has three levels: it is told as soon as the log holds what it covers, saving once that is in
-- the batch that is being saved, and an answer once that is saved. A leader tells itself its own log
pub record History : Type 0 where
  pub vote : ℕ → ℕ → ℕ  -- of a voter in a term: its candidate, 0 for none; a vote that a crash took back is gone
  pub campaign : ℕ → ℕ → List Entry  -- in a term, of a candidate: its whole log at the timeout
  pub floor : ℕ → ℕ → ℕ  -- in a term, of a candidate: how many places were decided at that timeout
  pub reigns : List Reign  -- the last elected first
  pub told : ℕ → ℕ → ℕ  -- of a voter in a term: up to where it holds that leader's log, as it stands
  pub saving : ℕ → ℕ → ℕ  -- the same, with the batch that is being saved
  pub answer : ℕ → ℕ → ℕ  -- the same, as it is saved
  pub decided_in : ℕ → ℕ  -- of a place: the least term whose leader committed it
  pub reach : ℕ → ℕ  -- of a place: up to where that leader committed then

-- a reign is one of these
abbrev pub IsLed : List Reign → Reign → Type 0
IsLed [] R = ⊥
IsLed (Q ∷ Qs) R = (R ≡ Q) ⊎ IsLed Qs R

-- two lists hold the same first n places
pub record Agree (n : ℕ) (a b : List Entry) : Type 0 where
  pub left : n ≤ length a
  pub right : n ≤ length b
  pub same : take n a ≡ take n b

-- places j + 1 to k of a list are those of another one
pub record SameFrom (j k : ℕ) (a b : List Entry) : Type 0 where
  pub reaches : k ≤ length b
  pub same : drop j (take k a) ≡ drop j (take k b)

-- a place of a reign's log that holds an entry of its own term
pub record IsOwn (R : Reign) (n : ℕ) : Type 0 where
  pub place : 0 < n
  pub within : n ≤ length R.log
  pub term : term_of R.log n ≡ R.term

-- a voter has answered up to a place of a reign, as it is saved
abbrev pub has_answered : History → Reign → ℕ → ℕ → Bool
has_answered h R n v = nat_le n (h.answer v R.term)

-- a place of a reign is safe: the logs of all reigns of later terms begin with this one's up to it
abbrev pub IsSafe : List Reign → Reign → ℕ → Type 0
IsSafe reigns R n = (Q : Reign) → IsLed reigns Q → R.term < Q.term → Agree n Q.log R.log

-- a place of a reign is chosen: it holds an entry of its own term, up to which a majority has answered
pub record IsChosen (voters : List ℕ) (h : History) (R : Reign) (n : ℕ) : Type 0 where
  pub own : IsOwn R n
  pub answered : is_majority voters (has_answered h R n) ≡ true

-- each entry of a list is of a term that was led, and up to it the list is that leader's log. So it is with the logs of reigns and with the decided list
abbrev pub IsStrict : History → List Entry → Type 0
IsStrict h L = (k : ℕ) → 0 < k → k ≤ length L → (R : Reign) × IsLed h.reigns R × (R.term ≡ term_of L k) × Agree k L R.log

-- at a place of a replica's log the same holds above some decided places at its beginning
pub record MatchesAt (h : History) (d X : List Entry) (k : ℕ) : Type 0 where
  pub decided : ℕ
  pub most : decided ≤ k
  pub front : Agree decided X d
  pub rest : decided < k → (R : Reign) × IsLed h.reigns R × (R.term ≡ term_of X k) × SameFrom decided k X R.log

-- so it is at each place
abbrev pub Matches : History → List Entry → List Entry → Type 0
Matches h d X = (k : ℕ) → 0 < k → k ≤ length X → MatchesAt h d X k

-- and none needs more decided places than these
abbrev pub MatchesWithin : History → List Entry → ℕ → List Entry → Type 0
MatchesWithin h d most X = (k : ℕ) → 0 < k → k ≤ length X → (m : MatchesAt h d X k) × (m.decided ≤ most)

-- a log keeps the first n places of a reign, and holds no entry of a lower term above them
pub record Keeps (R : Reign) (n : ℕ) (X : List Entry) : Type 0 where
  pub there : Agree n X R.log
  pub clean : (k : ℕ) → n ≤ k → k ≤ length X → R.term ≤ term_of X k

-- a host counts an entry of a reign's own term as held, and all later terms have it
pub record Counts (h : History) (level : ℕ → ℕ → ℕ) (v : ℕ) (R : Reign) (n : ℕ) : Type 0 where
  pub led : IsLed h.reigns R
  pub own : IsOwn R n
  pub most : n ≤ level v R.term
  pub safe : IsSafe h.reigns R n

-- a late answer: what it covers is decided, and in the log of a leader of its term or of a later one; and the host is in no quorum of a term above
-- the answer's that was elected up to that leader
pub record IsLate (reigns : List Reign) (d : List Entry) (v t i : ℕ) : Type 0 where
  pub reign : Reign
  pub led : IsLed reigns reign
  pub above : t ≤ reign.term
  pub decided : Agree i d reign.log
  pub outside : (Q : Reign) → IsLed reigns Q → t < Q.term → Q.order ≤ reign.order → Q.quorum v ≡ false

-- an early answer: what it covers was decided by a leader of a term below
pub record IsEarly (decided_in : ℕ → ℕ) (d : List Entry) (t i : ℕ) : Type 0 where
  pub place : ℕ
  pub most : i ≤ place
  pub some : 0 < place
  pub within : place ≤ length d
  pub below : decided_in place < t

-- an old answer, either way: it covers what is decided already, and need not count as held
abbrev pub IsOld : History → List Entry → ℕ → ℕ → ℕ → Type 0
IsOld h d v t i = IsLate h.reigns d v t i ⊎ IsEarly h.decided_in d t i

-- a log holds up to a place what it answered in its term: decided places up to at most a limit, and then those of the term's leader
pub record HoldsUpTo (h : History) (d : List Entry) (limit : ℕ) (X : List Entry) (t i : ℕ) : Type 0 where
  pub within : i ≤ length X
  pub decided : ℕ
  pub most : decided ≤ i
  pub limited : decided ≤ limit
  pub front : Agree decided X d
  pub rest : decided < i → (R : Reign) × IsLed h.reigns R × (R.term ≡ t) × SameFrom decided i X R.log
