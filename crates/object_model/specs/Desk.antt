-- A desk: the one list that is decided and only grows, what was asked and may be decided, and the requests that are open. Its moves are all that legality asks of a world. Source: this project's own.
use Rattle.std.specs.Prelude.{◌≡◌, ◌≢◌, ◌≤◌, ◌<◌, ◌+◌, ◌-◌, ℕ, List, [], ◌∷◌, ◌++◌, Some, length, slice_get, ◌⊎◌}
use Rattle.std.specs.List.{AllByRecursion}
use Rattle.host_ids.specs.declared.proposal.Proposal.{Proposal}
use Rattle.host_ids.specs.declared.proposal.Proposal.TheVariants as proposals
use Rattle.object_model.specs.declared.mark.What.{What}
use Rattle.object_model.specs.declared.mark.What.TheVariants as whats
use Rattle.object_model.specs.declared.mark.Ending.{Ending}
use Rattle.object_model.specs.declared.mark.Placed.{Placed}
use Rattle.object_model.specs.declared.mark.Mark.{Mark}
use Rattle.object_model.specs.declared.mark.Mark.TheVariants as marks
use Rattle.object_model.specs.Sequence.{ending_at, answer_at}
use Rattle.object_model.specs.Mark.{entries}
use Rattle.object_model.specs.Legal.{Legal}

-- a request, and a length that the decided list had not passed when it was asked
pub record Request : Type 0 where
  pub context : List ℕ
  pub what : What
  pub since : ℕ

pub record Desk : Type 0 where
  pub decided : List Placed
  pub asked : List Request
  pub open_ones : List Request

abbrev pub empty_desk : Desk
empty_desk = record { decided = []; asked = []; open_ones = [] }

-- one of the requests is this one, and the others are these
pub record Without (r : Request) (rs others : List Request) : Type 0 where
  pub front : List Request
  pub back : List Request
  pub whole : rs ≡ front ++ r ∷ back
  pub rest : others ≡ front ++ back

-- what is decided is a blank, or was asked
abbrev pub MayStand : List Request → Placed → Type 0
MayStand asked e = (e.proposal ≡ proposals.Blank) ⊎ ((since : ℕ) × (front back : List Request) × (asked ≡ front ++ record { context = e.context; what = whats.Proposes e.proposal; since = since } ∷ back))

-- the decided list grows by what may stand
pub record Grows (d e : Desk) : Type 0 where
  pub more : List Placed
  pub may : AllByRecursion (MayStand d.asked) more
  pub becomes : e ≡ record d { decided = d.decided ++ more }

-- a new request, under a context that wasn't used
pub record AskMove (d : Desk) (context : List ℕ) (what : What) (e : Desk) : Type 0 where
  pub since : ℕ
  pub late : length d.decided ≤ since
  pub new : AllByRecursion (λ r. r.context ≢ context) d.asked
  pub open_ones : List Request
  pub with : Without (record { context = context; what = what; since = since }) open_ones d.open_ones
  pub becomes : e ≡ record { decided = d.decided; asked = d.asked ++ record { context = context; what = what; since = since } ∷ []; open_ones = open_ones }

-- an open request ends
pub record EndMove (d : Desk) (context : List ℕ) (what : What) (since : ℕ) (e : Desk) : Type 0 where
  pub others : List Request
  pub was : Without (record { context = context; what = what; since = since }) d.open_ones others
  pub becomes : e ≡ record d { open_ones = others }

-- it ends at a place that holds it, as the list has it there
pub record PlaceMove (limit : ℕ) (d : Desk) (context : List ℕ) (place : ℕ) (ending : Ending) (e : Desk) : Type 0 where
  pub proposal : Proposal
  pub since : ℕ
  pub positive : 0 < place
  pub stands : slice_get d.decided (place - 1) ≡ Some (record { context = context; proposal = proposal })
  pub gives : ending_at limit d.decided place ≡ Some ending
  pub ends : EndMove d context (whats.Proposes proposal) since e

-- a read ends after a front that is at least its floor
pub record ReadMove (limit : ℕ) (d : Desk) (context : List ℕ) (front : ℕ) (answer : List ℕ) (e : Desk) : Type 0 where
  pub query : List ℕ
  pub since : ℕ
  pub late : since ≤ front
  pub within : front ≤ length d.decided
  pub gives : answer ≡ answer_at limit d.decided front query
  pub ends : EndMove d context (whats.Queries query) since e

-- it ends without a place
pub record LeaveMove (d : Desk) (context : List ℕ) (e : Desk) : Type 0 where
  pub what : What
  pub since : ℕ
  pub ends : EndMove d context what since e

-- what a mark does at a desk; an entry that is shown is no move
abbrev pub Move : ℕ → Desk → Mark → Desk → Type 0
Move limit d (marks.Asks context what) e = AskMove d context what e
Move limit d (marks.Ends context place ending) e = PlaceMove limit d context place ending e
Move limit d (marks.Leaves context) e = LeaveMove d context e
Move limit d (marks.Reads context front answer) e = ReadMove limit d context front answer e
Move limit d (marks.Stales front query answer) e = (front ≤ length d.decided) × (answer ≡ answer_at limit d.decided front query) × (e ≡ d)
Move limit d (marks.Tells number) e = (number ≤ length d.decided) × (e ≡ d)
Move limit d (marks.Shows place placed) e = ⊥

-- mark after mark, where the list grows before each one and after the last
unfoldable pub Moves : ℕ → Desk → List Mark → Desk → Type 0
Moves limit d [] e = Grows d e
Moves limit d (m ∷ ms) e = (grown next : Desk) × Grows d grown × Move limit grown m next × Moves limit next ms e

-- the marks that show a list of entries, numbered from this place on
abbrev pub shown_from : ℕ → List Placed → List Mark
shown_from n [] = []
shown_from n (p ∷ ps) = marks.Shows n p ∷ shown_from (n + 1) ps

-- the marks that show a whole list
abbrev pub shown : List Placed → List Mark
shown list = shown_from 1 list

-- marks that are moves from an empty desk are legal by the list decided in the end, also with its entries shown after them
abbrev pub MovesAreLegal : Type 0
MovesAreLegal = (limit : ℕ) (ms : List Mark) (e : Desk) → Moves limit empty_desk ms e → Legal limit e.decided ms × Legal limit e.decided (ms ++ shown e.decided)

-- the entries that such marks show are the list
abbrev pub MovesShowNothing : Type 0
MovesShowNothing = (limit : ℕ) (d : Desk) (ms : List Mark) (e : Desk) → Moves limit d ms e → entries (ms ++ shown e.decided) ≡ e.decided

-- moves after moves are moves
abbrev pub MovesJoin : Type 0
MovesJoin = (limit : ℕ) (d : Desk) (a b : List Mark) (e f : Desk) → Moves limit d a e → Moves limit e b f → Moves limit d (a ++ b) f
