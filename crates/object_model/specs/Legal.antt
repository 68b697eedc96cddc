-- When the marks of a group's output are legal by a list of proposals with their contexts. Each mark is judged by the marks before it. Source: this project's own.
use Rattle.std.specs.Prelude.{◌≡◌, ◌≢◌, ◌≤◌, ◌<◌, ◌+◌, ◌-◌, ℕ, List, [], ◌∷◌, ◌++◌, Some, IfSome, length, slice_get, ◌⊎◌}
use Rattle.std.specs.List.{AllByRecursion}
use Rattle.host_ids.specs.declared.proposal.Proposal.{Proposal}
use Rattle.host_ids.specs.declared.proposal.Proposal.TheVariants as proposals
use Rattle.object_model.specs.declared.mark.What.{What}
use Rattle.object_model.specs.declared.mark.What.TheVariants as whats
use Rattle.object_model.specs.declared.mark.Ending.{Ending}
use Rattle.object_model.specs.declared.mark.Placed.{Placed}
use Rattle.object_model.specs.declared.mark.Mark.{Mark}
use Rattle.object_model.specs.declared.mark.Mark.TheVariants as marks
use Rattle.object_model.specs.Sequence.{ending_at, answer_at}
use Rattle.object_model.specs.Mark.{asked_context, ended_context, named_place, told_number, entries}

-- nothing was asked under the context
abbrev pub NotAsked : List ℕ → List Mark → Type 0
NotAsked context before = AllByRecursion (λ m. asked_context m ≢ Some context) before

-- the request under the context hasn't ended
abbrev pub NotEnded : List ℕ → List Mark → Type 0
NotEnded context before = AllByRecursion (λ m. ended_context m ≢ Some context) before

-- no ending names the place
abbrev pub NotNamed : ℕ → List Mark → Type 0
NotNamed place before = AllByRecursion (λ m. named_place m ≢ Some place) before

-- no number told is greater
abbrev pub AtMost : ℕ → List Mark → Type 0
AtMost most before = AllByRecursion (λ m. IfSome (told_number m) (λ n. n ≤ most)) before

-- it was asked under the context
pub record Asked (before : List Mark) (context : List ℕ) (what : What) : Type 0 where
  pub earlier : List Mark
  pub later : List Mark
  pub stands : before ≡ earlier ++ marks.Asks context what ∷ later

-- it was asked under the context, and no number told before that is greater than this
pub record AskedWithin (before : List Mark) (context : List ℕ) (what : What) (most : ℕ) : Type 0 where
  pub earlier : List Mark
  pub later : List Mark
  pub stands : before ≡ earlier ++ marks.Asks context what ∷ later
  pub numbers : AtMost most earlier

-- an ending with a place: the place holds the context and what was asked under it, this is how a request there ends, no other ending names the place, the request hasn't ended before, and the place is greater than every number told before the ask
pub record GoodEnding (limit : ℕ) (list : List Placed) (before : List Mark) (context : List ℕ) (place : ℕ) (ending : Ending) : Type 0 where
  pub proposal : Proposal
  pub positive : 0 < place
  pub stands : slice_get list (place - 1) ≡ Some (record { context = context; proposal = proposal })
  pub asked : AskedWithin before context (whats.Proposes proposal) (place - 1)
  pub only : NotEnded context before
  pub own : NotNamed place before
  pub gives : ending_at limit list place ≡ Some ending

-- a read: the answer to the query that was asked, after a front of the list that is at least every number told before the ask
pub record GoodRead (limit : ℕ) (list : List Placed) (before : List Mark) (context : List ℕ) (front : ℕ) (answer : List ℕ) : Type 0 where
  pub query : List ℕ
  pub asked : AskedWithin before context (whats.Queries query) front
  pub only : NotEnded context before
  pub within : front ≤ length list
  pub gives : answer ≡ answer_at limit list front query

-- an ending without a place
pub record GoodLeave (before : List Mark) (context : List ℕ) : Type 0 where
  pub what : What
  pub asked : Asked before context what
  pub only : NotEnded context before

-- a mark is good by the list and by the marks before it; an entry that is shown has the number that comes next
abbrev pub Good : ℕ → List Placed → List Mark → Mark → Type 0
Good limit list before (marks.Asks context what) = NotAsked context before
Good limit list before (marks.Ends context place ending) = GoodEnding limit list before context place ending
Good limit list before (marks.Leaves context) = GoodLeave before context
Good limit list before (marks.Reads context front answer) = GoodRead limit list before context front answer
Good limit list before (marks.Stales front query answer) = (front ≤ length list) × (answer ≡ answer_at limit list front query)
Good limit list before (marks.Tells number) = Unit {0}
Good limit list before (marks.Shows place placed) = place ≡ length (entries before) + 1

-- each mark is good, where those before the first are given
unfoldable pub EachGood : ℕ → List Placed → List Mark → List Mark → Type 0
EachGood limit list before [] = Unit {0}
EachGood limit list before (m ∷ ms) = Good limit list before m × EachGood limit list (before ++ m ∷ []) ms

-- a place holds a blank, or what was asked under its context
abbrev pub IsAccounted : List Mark → Placed → Type 0
IsAccounted ms e = (e.proposal ≡ proposals.Blank) ⊎ Asked ms e.context (whats.Proposes e.proposal)

-- the marks are legal by this list, under this limit of sessions
pub record Legal (limit : ℕ) (list : List Placed) (ms : List Mark) : Type 0 where
  pub each : EachGood limit list [] ms
  pub places : AllByRecursion (λ e. IsAccounted ms e) list

-- the marks of a whole output are legal by the entries that they show
abbrev pub IsLegalOutput : ℕ → List Mark → Type 0
IsLegalOutput limit ms = Legal limit (entries ms) ms
