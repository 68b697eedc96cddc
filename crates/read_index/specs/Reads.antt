-- The reads that a leader has opened, and the rounds of beats that confirm them. Source: dissertation section 6.4.
use Rattle.std.specs.Prelude.{◌≤◌, ℕ, ◌+◌, ◌==◌, ◌||◌, List, [], ◌∷◌, ◌++◌, Bool, nat_le, max, slice_set, ⊤}
use Rattle.std.specs.List.{All}
use Rattle.host_ids.specs.declared.entry.Key.{Key}
use Rattle.roster.specs.Roster.{at, all_at, is_majority}
use Rattle.read_index.specs.declared.reads.OpenRead.{OpenRead}

pub record Reads : Type 0 where
  pub round : ℕ  -- the last round of beats
  pub answered : List ℕ  -- a table by host: the greatest round that each voter answered
  pub waiting : List OpenRead  -- the open reads, in the order of opening

abbrev pub no_reads : Reads
no_reads = record { round = 0; answered = all_at 0; waiting = [] }

-- no read is open any more, and all else stays
abbrev pub closed : Reads → Reads
closed a = record a { waiting = [] }

abbrev pub next_round : Reads → Reads
next_round a = record a { round = a.round + 1 }

-- a read opens with an index, for the present round
abbrev pub opened : Key → ℕ → ℕ → Reads → Reads
opened key origin index a = record a { waiting = a.waiting ++ record { key = key; origin = origin; index = index; round = a.round } ∷ [] }

-- a voter has answered a round
abbrev pub answers_round : ℕ → ℕ → Reads → Reads
answers_round v round a = record a { answered = slice_set a.answered v (max (at a.answered v) round) }

-- a majority, this replica among it, has answered the read's round
abbrev pub is_answered : List ℕ → ℕ → Reads → OpenRead → Bool
is_answered voters me a read = is_majority voters (λ v. (v == me) || nat_le read.round (at a.answered v))

-- the rounds of these reads don't fall, and are at most this one
abbrev pub AscendTo : ℕ → List OpenRead → Type 0
AscendTo n [] = ⊤
AscendTo n (r ∷ rs) = (r.round ≤ n) × All (λ q. r.round ≤ q.round) rs × AscendTo n rs
