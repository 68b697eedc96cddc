-- What each call answers and makes of the table. Source: dissertation section 6.3; eviction by the last touch and responded values are this project's own.
use Rattle.std.specs.Prelude.{◌≡◌, ◌<◌, ◌≤◌, ℕ, ◌-◌, List, [], ◌∷◌, Option, Some, None, true, length, nat_eq, nat_lt, max, take, filter}
use Rattle.std.specs.Ordering.{nat_cmp}
use Rattle.std.specs.BTreeMap.{insert_entry, is_at}
use Rattle.std.specs.Map.{lookup, remove_entry, set_value}
use Rattle.host_ids.specs.declared.verdict.Verdict.{Verdict}
use Rattle.host_ids.specs.declared.verdict.Verdict.TheVariants as verdicts
use Rattle.host_ids.specs.declared.proposal.TheConstants.{MOST_COMMAND}
use Rattle.object_model.specs.Sequence.{command_verdict}
use Rattle.session_lru.specs.declared.session.Session.{Session}
use Rattle.session_lru.specs.Table.{Table}

-- the session of a client, where it stands
abbrev pub session_of : ℕ → Table → Option Session
session_of client t = lookup (nat_eq client) t.sessions

-- the kept reply of a series
abbrev pub kept_reply : ℕ → Session → Option (List ℕ)
kept_reply series s = lookup (is_at (nat_cmp series)) s.replies

-- ---- register

-- a session that begins
abbrev pub fresh : Session
fresh = record { responded = 0; replies = [] }

abbrev pub register_verdict : Option Session → Verdict
register_verdict None = verdicts.Acts
register_verdict (Some s) = verdicts.Taken

-- a new session comes first; where as many stand as may, the last one, which was touched longest ago, goes
abbrev pub registered : ℕ → Option Session → Table → Table
registered client None t = record t { sessions = (client, fresh) ∷ take (t.limit - 1) t.sessions }
registered client (Some s) t = t

-- ---- close

abbrev pub close_verdict : Option Session → Verdict
close_verdict None = verdicts.NotStanding
close_verdict (Some s) = verdicts.Acts

abbrev pub closed : ℕ → Table → Table
closed client t = record t { sessions = remove_entry (nat_eq client) t.sessions }

-- ---- a command

abbrev pub admit_verdict : Option Session → ℕ → ℕ → Verdict
admit_verdict None series responded = verdicts.NotStanding
admit_verdict (Some s) series responded = command_verdict true (max s.responded responded) series (kept_reply series s)

-- the first reply is there, of a series up to this one
abbrev pub BeginsUpto : ℕ → List (ℕ × List ℕ) → Type 0
BeginsUpto series [] = ⊥
BeginsUpto series (e ∷ es) = e.0 ≤ series

-- the responded value rises, and the kept replies up to it go
abbrev pub raised_to : ℕ → Session → Session
raised_to responded s = record { responded = max s.responded responded; replies = filter (λ e. nat_lt (max s.responded responded) e.0) s.replies }

-- a command's session comes first, and its responded value rises
abbrev pub admitted : ℕ → ℕ → Option Session → Table → Table
admitted client responded None t = t
admitted client responded (Some s) t = record t { sessions = (client, raised_to responded s) ∷ remove_entry (nat_eq client) t.sessions }

-- ---- the reply of a command that acted

abbrev pub with_reply : ℕ → List ℕ → Session → Session
with_reply series reply s = record s { replies = insert_entry nat_cmp s.replies series reply }

-- a reply is kept in the session, whose place in the order stays
abbrev pub kept_by : ℕ → ℕ → List ℕ → Option Session → Table → Table
kept_by client series reply None t = t
kept_by client series reply (Some s) t = record t { sessions = set_value (nat_eq client) t.sessions (with_reply series reply s) }

-- a reply may be kept: the client stands, its series is above the responded value and has no reply yet, and the reply has at most 512 bytes
pub record MayKeep (client series : ℕ) (reply : List ℕ) (t : Table) : Type 0 where
  pub session : Session
  pub stands : session_of client t ≡ Some session
  pub above : session.responded < series
  pub new : kept_reply series session ≡ None
  pub short : length reply ≤ MOST_COMMAND
