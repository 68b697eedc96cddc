-- How far the commit rule may step down at once.
use Rattle.std.specs.Prelude.{ℕ, List, [], ◌∷◌, nat_lt, max, if◌then◌else◌}
use Rattle.roster.specs.Roster.{at}

-- the greatest of these voters' matched indices that is below n and not below the other number, or that number
abbrev pub greatest_below : List ℕ → ℕ → ℕ → List ℕ → ℕ
greatest_below matched n low [] = low
greatest_below matched n low (v ∷ vs) = greatest_below matched n (if nat_lt (at matched v) n then max low (at matched v) else low) vs
