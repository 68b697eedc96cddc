-- When a read that waits is due.
use Rattle.std.specs.Prelude.{ℕ, List, [], ◌∷◌, Bool, false, nat_le}
use Rattle.run_model.specs.declared.told.Waiting.{Waiting}

-- the first waiting read is due
abbrev pub is_due : ℕ → List Waiting → Bool
is_due applied [] = false
is_due applied (r ∷ rs) = nat_le r.front applied
