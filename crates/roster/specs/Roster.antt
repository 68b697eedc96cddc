-- The replicas of a group, tables by host, and majorities. Source: dissertation section 3.4.
use Rattle.std.specs.Prelude.{ℕ, ◌+◌, ◌*◌, List, [], ◌∷◌, Bool, false, nat_lt, length, replicate, slice_index_or, if◌then◌else◌}

-- a place in a group: which group, which host, and all its voters, ascending
pub record Seat : Type 0 where
  pub group : ℕ
  pub me : ℕ
  pub voters : List ℕ

-- a table has ten places, one for each number of a host; those of no voter don't count
abbrev pub all_at : ℕ → List ℕ
all_at n = replicate 10 n

abbrev pub none_set : List Bool
none_set = replicate 10 false

abbrev pub at : List ℕ → ℕ → ℕ
at table v = slice_index_or table v 0

abbrev pub is_set : List Bool → ℕ → Bool
is_set table v = slice_index_or table v false

abbrev pub count : (ℕ → Bool) → List ℕ → ℕ
count p [] = 0
count p (v ∷ vs) = (if p v then 1 else 0) + count p vs

-- twice as many as pass are more than there are voters
abbrev pub is_majority : List ℕ → (ℕ → Bool) → Bool
is_majority voters p = nat_lt (length voters) (2 * count p voters)
