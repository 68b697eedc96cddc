-- The table of sessions as data. Source: dissertation section 6.3; the order of touch is this project's own.
use Rattle.std.specs.Prelude.{ℕ, List}
use Rattle.session_lru.specs.declared.session.Session.{Session}

-- the sessions by client, the one touched last first, and how many may stand
pub record Table : Type 0 where
  pub limit : ℕ
  pub sessions : List (ℕ × Session)
