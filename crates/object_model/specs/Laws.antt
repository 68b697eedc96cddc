-- What the definitions of standing, raised and repeat mean, as laws over every history. Source: dissertation section 6.3; eviction and the responded values are this project's own.
use Rattle.std.specs.Prelude.{◌≡◌, ◌≢◌, ◌↔◌, ◌<◌, ℕ, ◌==◌, ◌&&◌, List, [], ◌∷◌, ◌++◌, Bool, true, false, max, reverse, if◌then◌else◌}
use Rattle.host_ids.specs.declared.proposal.Proposal.{Proposal}
use Rattle.host_ids.specs.declared.proposal.Proposal.TheVariants as proposals
use Rattle.host_ids.specs.declared.verdict.Verdict.{Verdict}
use Rattle.host_ids.specs.declared.verdict.Verdict.TheVariants as verdicts
use Rattle.object_model.specs.declared.mark.Placed.{Placed}
use Rattle.object_model.specs.declared.mark.Mark.{Mark}
use Rattle.object_model.specs.Object.{after}
use Rattle.object_model.specs.Sequence.{touched, standing, stands, raised, verdict, does_act, state}
use Rattle.object_model.specs.Legal.{Legal}
use Rattle.object_model.specs.Decision.{legal}

-- ---- standing, from the list's front

-- the standing clients after a list whose first proposal comes next, where these stand before
abbrev pub standing_from : ℕ → List ℕ → List Proposal → List ℕ
standing_from limit clients [] = clients
standing_from limit clients (p ∷ list) = standing_from limit (touched limit p clients) list

abbrev pub StandsFromFront : Type 0
StandsFromFront = (limit : ℕ) (list : List Proposal) → standing limit (reverse list) ≡ standing_from limit [] list

-- ---- the last register that acted

-- a register of the client that acts
abbrev pub begins_session : ℕ → Proposal → Verdict → Bool
begins_session client proposals.Blank v = false
begins_session client (proposals.Plain command) v = false
begins_session client (proposals.Session c series responded command) v = false
begins_session client (proposals.Register c) v = (c == client) && does_act v
begins_session client (proposals.Close c) v = false

-- none of the newer proposals is a register of the client that acts
unfoldable pub NoneBegins : ℕ → ℕ → List Proposal → List Proposal → Type 0
NoneBegins limit client [] older = Unit {0}
NoneBegins limit client (p ∷ newer) older = (begins_session client p (verdict limit (newer ++ older) p) ≡ false) × NoneBegins limit client newer older

-- the client's last register that acted, what came after it, and what came before
pub record LastRegister (limit client : ℕ) (history : List Proposal) : Type 0 where
  pub newer : List Proposal
  pub older : List Proposal
  pub whole : history ≡ newer ++ proposals.Register client ∷ older
  pub acts : verdict limit older (proposals.Register client) ≡ verdicts.Acts
  pub last : NoneBegins limit client newer (proposals.Register client ∷ older)

-- ---- raised

-- the greatest responded value of the client's commands among these, 0 where there are none
abbrev pub greatest_responded : ℕ → List Proposal → ℕ
greatest_responded client [] = 0
greatest_responded client (proposals.Blank ∷ list) = greatest_responded client list
greatest_responded client (proposals.Plain command ∷ list) = greatest_responded client list
greatest_responded client (proposals.Session c series responded command ∷ list) = if c == client then max (greatest_responded client list) responded else greatest_responded client list
greatest_responded client (proposals.Register c ∷ list) = greatest_responded client list
greatest_responded client (proposals.Close c ∷ list) = greatest_responded client list

abbrev pub RaisedIsGreatest : Type 0
RaisedIsGreatest = (limit client : ℕ) (history : List Proposal) → stands limit client history ≡ true
    → (register : LastRegister limit client history) × (raised limit client history ≡ greatest_responded client register.newer)

-- ---- repeats

-- a command of the client and series acted after the client's last register that acted, and had this reply
pub record HasActed (limit client series : ℕ) (reply : List ℕ) (history : List Proposal) : Type 0 where
  pub register : LastRegister limit client history
  pub responded : ℕ
  pub command : List ℕ
  pub newer : List Proposal
  pub between : List Proposal
  pub stood : register.newer ≡ newer ++ proposals.Session client series responded command ∷ between
  pub acts : verdict limit (between ++ proposals.Register client ∷ register.older) (proposals.Session client series responded command) ≡ verdicts.Acts
  pub replied : reply ≡ (after (state limit (between ++ proposals.Register client ∷ register.older)) command).reply

abbrev pub RepeatsWhatActed : Type 0
RepeatsWhatActed = (limit client series responded : ℕ) (command reply : List ℕ) (history : List Proposal)
    → (verdict limit history (proposals.Session client series responded command) ≡ verdicts.RepeatOf reply)
    ↔ ((stands limit client history ≡ true) × (max (raised limit client history) responded < series) × HasActed limit client series reply history)

-- a series that acted doesn't act again before a new session of its client begins
abbrev pub ActsOnce : Type 0
ActsOnce = (limit client series first second : ℕ) (command again : List ℕ) (older newer : List Proposal)
    → verdict limit older (proposals.Session client series first command) ≡ verdicts.Acts
    → NoneBegins limit client newer (proposals.Session client series first command ∷ older)
    → verdict limit (newer ++ proposals.Session client series first command ∷ older) (proposals.Session client series second again) ≢ verdicts.Acts

-- a client that doesn't stand doesn't until a session of it begins, and its commands are refused
abbrev pub StaysGone : Type 0
StaysGone = (limit client series responded : ℕ) (command : List ℕ) (older newer : List Proposal)
    → stands limit client older ≡ false
    → NoneBegins limit client newer older
    → verdict limit (newer ++ older) (proposals.Session client series responded command) ≡ verdicts.NotStanding

-- ---- legality

-- the test computes exactly what legality says
abbrev pub DecidesLegal : Type 0
DecidesLegal = (limit : ℕ) (list : List Placed) (ms : List Mark) → (legal limit list ms ≡ true) ↔ Legal limit list ms
