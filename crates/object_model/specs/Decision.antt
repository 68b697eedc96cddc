-- The rules of legality as tests that compute. Source: this project's own.
use Rattle.std.specs.Prelude.{ℕ, ◌+◌, ◌-◌, ◌==◌, List, [], ◌∷◌, ◌++◌, Bool, true, false, not, ◌&&◌, ◌||◌, nat_lt, nat_le, length, Option, Some, None, slice_get, bytes_eq}
use Rattle.std.specs.List.{list_any, list_all}
use Rattle.host_ids.specs.declared.proposal.Proposal.{Proposal}
use Rattle.host_ids.specs.declared.proposal.Proposal.TheVariants as proposals
use Rattle.object_model.specs.declared.mark.What.{What}
use Rattle.object_model.specs.declared.mark.What.TheVariants as whats
use Rattle.object_model.specs.declared.mark.Ending.{Ending}
use Rattle.object_model.specs.declared.mark.Ending.TheVariants as endings
use Rattle.object_model.specs.declared.mark.Placed.{Placed}
use Rattle.object_model.specs.declared.mark.Mark.{Mark}
use Rattle.object_model.specs.declared.mark.Mark.TheVariants as marks
use Rattle.object_model.specs.Sequence.{ending_at, answer_at}
use Rattle.object_model.specs.Mark.{asked_context, ended_context, named_place, told_number, entries}

-- ---- the same proposal, the same request, the same ending

abbrev pub is_blank : Proposal → Bool
is_blank proposals.Blank = true
is_blank (proposals.Plain command) = false
is_blank (proposals.Session client series responded command) = false
is_blank (proposals.Register client) = false
is_blank (proposals.Close client) = false

abbrev pub is_plain : List ℕ → Proposal → Bool
is_plain text proposals.Blank = false
is_plain text (proposals.Plain command) = bytes_eq text command
is_plain text (proposals.Session client series responded command) = false
is_plain text (proposals.Register client) = false
is_plain text (proposals.Close client) = false

abbrev pub is_session : ℕ → ℕ → ℕ → List ℕ → Proposal → Bool
is_session c s r text proposals.Blank = false
is_session c s r text (proposals.Plain command) = false
is_session c s r text (proposals.Session client series responded command) = (c == client) && (s == series) && (r == responded) && bytes_eq text command
is_session c s r text (proposals.Register client) = false
is_session c s r text (proposals.Close client) = false

abbrev pub is_register : ℕ → Proposal → Bool
is_register c proposals.Blank = false
is_register c (proposals.Plain command) = false
is_register c (proposals.Session client series responded command) = false
is_register c (proposals.Register client) = c == client
is_register c (proposals.Close client) = false

abbrev pub is_close : ℕ → Proposal → Bool
is_close c proposals.Blank = false
is_close c (proposals.Plain command) = false
is_close c (proposals.Session client series responded command) = false
is_close c (proposals.Register client) = false
is_close c (proposals.Close client) = c == client

abbrev pub same_proposal : Proposal → Proposal → Bool
same_proposal proposals.Blank q = is_blank q
same_proposal (proposals.Plain command) q = is_plain command q
same_proposal (proposals.Session client series responded command) q = is_session client series responded command q
same_proposal (proposals.Register client) q = is_register client q
same_proposal (proposals.Close client) q = is_close client q

abbrev pub proposes : Proposal → What → Bool
proposes p (whats.Proposes proposal) = same_proposal p proposal
proposes p (whats.Queries query) = false

abbrev pub is_done : List ℕ → Ending → Bool
is_done text (endings.Done reply) = bytes_eq text reply
is_done text endings.Rejected = false
is_done text endings.Responded = false
is_done text endings.Registered = false
is_done text endings.Closed = false

abbrev pub is_rejected : Ending → Bool
is_rejected (endings.Done reply) = false
is_rejected endings.Rejected = true
is_rejected endings.Responded = false
is_rejected endings.Registered = false
is_rejected endings.Closed = false

abbrev pub is_responded : Ending → Bool
is_responded (endings.Done reply) = false
is_responded endings.Rejected = false
is_responded endings.Responded = true
is_responded endings.Registered = false
is_responded endings.Closed = false

abbrev pub is_registered : Ending → Bool
is_registered (endings.Done reply) = false
is_registered endings.Rejected = false
is_registered endings.Responded = false
is_registered endings.Registered = true
is_registered endings.Closed = false

abbrev pub is_closed : Ending → Bool
is_closed (endings.Done reply) = false
is_closed endings.Rejected = false
is_closed endings.Responded = false
is_closed endings.Registered = false
is_closed endings.Closed = true

abbrev pub same_ending : Ending → Ending → Bool
same_ending (endings.Done reply) f = is_done reply f
same_ending endings.Rejected f = is_rejected f
same_ending endings.Responded f = is_responded f
same_ending endings.Registered f = is_registered f
same_ending endings.Closed f = is_closed f

abbrev pub gives_ending : Option Ending → Ending → Bool
gives_ending None ending = false
gives_ending (Some given) ending = same_ending given ending

-- ---- marks

abbrev pub is_context : List ℕ → Option (List ℕ) → Bool
is_context context None = false
is_context context (Some other) = bytes_eq context other

abbrev pub is_place : ℕ → Option ℕ → Bool
is_place place None = false
is_place place (Some other) = place == other

abbrev pub is_within : ℕ → Option ℕ → Bool
is_within most None = true
is_within most (Some number) = nat_le number most

abbrev pub not_asked : List ℕ → List Mark → Bool
not_asked context before = list_all (λ m. not (is_context context (asked_context m))) before

abbrev pub not_ended : List ℕ → List Mark → Bool
not_ended context before = list_all (λ m. not (is_context context (ended_context m))) before

abbrev pub not_named : ℕ → List Mark → Bool
not_named place before = list_all (λ m. not (is_place place (named_place m))) before

-- the mark asks under the context for something that passes the test
abbrev pub asks_for : List ℕ → (What → Bool) → Mark → Bool
asks_for context test (marks.Asks other what) = bytes_eq context other && test what
asks_for context test (marks.Ends other place ending) = false
asks_for context test (marks.Leaves other) = false
asks_for context test (marks.Reads other front answer) = false
asks_for context test (marks.Stales front query answer) = false
asks_for context test (marks.Tells number) = false
asks_for context test (marks.Shows place placed) = false

-- such a mark is among these, and no number told before it is greater than this
abbrev pub asked_within : (Mark → Bool) → ℕ → List Mark → Bool
asked_within asks most [] = false
asked_within asks most (m ∷ ms) = asks m || (is_within most (told_number m) && asked_within asks most ms)

abbrev pub any_request : What → Bool
any_request what = true

-- the query whose answer after the front is this
abbrev pub answered_by : ℕ → List Placed → ℕ → List ℕ → What → Bool
answered_by limit list front answer (whats.Proposes proposal) = false
answered_by limit list front answer (whats.Queries query) = bytes_eq answer (answer_at limit list front query)

-- the place holds the context, and what was asked under it before with no greater number told
abbrev pub stands_there : List Mark → List ℕ → ℕ → Option Placed → Bool
stands_there before context place None = false
stands_there before context place (Some e) = bytes_eq context e.context && asked_within (asks_for context (proposes e.proposal)) (place - 1) before

abbrev pub good : ℕ → List Placed → List Mark → Mark → Bool
good limit list before (marks.Asks context what) = not_asked context before
good limit list before (marks.Ends context place ending) =
    nat_lt 0 place && stands_there before context place (slice_get list (place - 1)) && not_ended context before && not_named place before && gives_ending (ending_at limit list place) ending
good limit list before (marks.Leaves context) = list_any (asks_for context any_request) before && not_ended context before
good limit list before (marks.Reads context front answer) =
    nat_le front (length list) && asked_within (asks_for context (answered_by limit list front answer)) front before && not_ended context before
good limit list before (marks.Stales front query answer) = nat_le front (length list) && bytes_eq answer (answer_at limit list front query)
good limit list before (marks.Tells number) = true
good limit list before (marks.Shows place placed) = place == length (entries before) + 1

unfoldable pub each_good : ℕ → List Placed → List Mark → List Mark → Bool
each_good limit list before [] = true
each_good limit list before (m ∷ ms) = good limit list before m && each_good limit list (before ++ m ∷ []) ms

abbrev pub accounted : List Mark → Placed → Bool
accounted ms e = is_blank e.proposal || list_any (asks_for e.context (proposes e.proposal)) ms

-- the marks are legal by this list, under this limit of sessions
abbrev pub legal : ℕ → List Placed → List Mark → Bool
legal limit list ms = each_good limit list [] ms && list_all (accounted ms) list
