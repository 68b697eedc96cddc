-- When a table is what a list of proposals makes of the sessions. A history is such a list with its newest proposal first. Source: dissertation section 6.3; eviction and responded values are this project's own.
use Rattle.std.specs.Prelude.{◌≡◌, ℕ, List, ◌∷◌, ◌++◌, Option, None, false, map, reverse, nat_lt, if◌then◌else◌}
use Rattle.std.specs.List.{AllByRecursion}
use Rattle.host_ids.specs.declared.proposal.Proposal.{Proposal}
use Rattle.host_ids.specs.declared.proposal.Proposal.TheVariants as proposals
use Rattle.host_ids.specs.declared.verdict.Verdict.TheVariants as verdicts
use Rattle.object_model.specs.Sequence.{standing, stands, raised, after_all, verdict}
use Rattle.object_model.specs.Laws.{NoneBegins}
use Rattle.session_lru.specs.declared.session.Session.{Session}
use Rattle.session_lru.specs.Table.{Table}
use Rattle.session_lru.specs.Calls.{session_of, kept_reply, admitted}

-- what a series of a client was replied since the client's last register that acted
abbrev pub replied : ℕ → List Proposal → ℕ → ℕ → Option (List ℕ)
replied limit history client series = (after_all limit history).found client series

-- a session holds its client's responded value, and of the replies since its register those above that value
pub record Holds (limit : ℕ) (history : List Proposal) (client : ℕ) (s : Session) : Type 0 where
  pub responded : s.responded ≡ raised limit client history
  pub replies : (series : ℕ) → kept_reply series s ≡ (if nat_lt s.responded series then replied limit history client series else None)

-- the table that a list of proposals makes: the clients that stand, in the order of touch, each with what it holds
pub record StandsFor (history : List Proposal) (t : Table) : Type 0 where
  pub clients : reverse (map (λ e. e.0) t.sessions) ≡ standing t.limit history
  pub sessions : AllByRecursion (λ e. Holds t.limit history e.0 e.1) t.sessions

-- a command was admitted that acts, to a table that stood for the history, and its reply isn't kept yet
pub record Awaits (history : List Proposal) (client series responded : ℕ) (command : List ℕ) (t : Table) : Type 0 where
  pub before : Table
  pub stood : StandsFor history before
  pub acts : verdict before.limit history (proposals.Session client series responded command) ≡ verdicts.Acts
  pub admits : t ≡ admitted client responded (session_of client before) before

-- ---- at most once

-- a command of the client and series acted, and no session of the client began since
pub record HasActed (client series : ℕ) (t : Table) : Type 0 where
  pub responded : ℕ
  pub command : List ℕ
  pub older : List Proposal
  pub newer : List Proposal
  pub acts : verdict t.limit older (proposals.Session client series responded command) ≡ verdicts.Acts
  pub none : NoneBegins t.limit client newer (proposals.Session client series responded command ∷ older)
  pub stands : StandsFor (newer ++ proposals.Session client series responded command ∷ older) t

-- the client's session had ended, and none began since
pub record IsGone (client : ℕ) (t : Table) : Type 0 where
  pub older : List Proposal
  pub newer : List Proposal
  pub gone : stands t.limit client older ≡ false
  pub none : NoneBegins t.limit client newer older
  pub stands : StandsFor (newer ++ older) t

-- ---- proposals that no table sees

-- a blank and a command outside of every session leave a table as it is
abbrev pub OthersLeave : Type 0
OthersLeave = (history : List Proposal) (command : List ℕ) (t : Table) → StandsFor history t → StandsFor (proposals.Blank ∷ history) t × StandsFor (proposals.Plain command ∷ history) t
