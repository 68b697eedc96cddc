-- What a list of proposals makes of the sessions and of the object. A history is such a list with its newest proposal first. Source: dissertation section 6.3; the order of eviction and the responded values are this project's own.
use Rattle.std.specs.Prelude.{ℕ, ◌-◌, ◌==◌, List, [], ◌∷◌, ◌++◌, Bool, true, false, not, ◌&&◌, nat_le, length, take, drop, map, reverse, max, filter, Option, Some, None, slice_get, if◌then◌else◌}
use Rattle.std.specs.List.{list_any}
use Rattle.host_ids.specs.declared.proposal.Proposal.{Proposal}
use Rattle.host_ids.specs.declared.proposal.Proposal.TheVariants as proposals
use Rattle.host_ids.specs.declared.verdict.Verdict.{Verdict}
use Rattle.host_ids.specs.declared.verdict.Verdict.TheVariants as verdicts
use Rattle.object_model.specs.declared.mark.Ending.{Ending}
use Rattle.object_model.specs.declared.mark.Ending.TheVariants as endings
use Rattle.object_model.specs.declared.mark.Placed.{Placed}
use Rattle.object_model.specs.Object.{Pairs, Updated, after, answer}

-- ---- the standing sessions

abbrev pub has : ℕ → List ℕ → Bool
has client clients = list_any (λ c. c == client) clients

abbrev pub without : ℕ → List ℕ → List ℕ
without client clients = filter (λ c. not (c == client)) clients

-- where `limit` clients stand, the first is evicted to make room
abbrev pub with_room : ℕ → List ℕ → List ℕ
with_room limit clients = if nat_le limit (length clients) then drop 1 clients else clients

-- what a proposal makes of the standing clients: a command moves its client to the end, a register adds one there, a close removes it
abbrev pub touched : ℕ → Proposal → List ℕ → List ℕ
touched limit proposals.Blank clients = clients
touched limit (proposals.Plain command) clients = clients
touched limit (proposals.Session client series responded command) clients = if has client clients then without client clients ++ client ∷ [] else clients
touched limit (proposals.Register client) clients = if has client clients then clients else with_room limit clients ++ client ∷ []
touched limit (proposals.Close client) clients = without client clients

-- the clients whose session stands, the one touched longest ago first
unfoldable pub standing : ℕ → List Proposal → List ℕ
standing limit [] = []
standing limit (p ∷ older) = touched limit p (standing limit older)

abbrev pub stands : ℕ → ℕ → List Proposal → Bool
stands limit client older = has client (standing limit older)

-- ---- the responded value

abbrev pub raised_by : ℕ → Proposal → Bool → ℕ → ℕ
raised_by client proposals.Blank stood value = value
raised_by client (proposals.Plain command) stood value = value
raised_by client (proposals.Session c series responded command) stood value = if (c == client) && stood then max value responded else value
raised_by client (proposals.Register c) stood value = if (c == client) && not stood then 0 else value
raised_by client (proposals.Close c) stood value = value

-- the greatest responded value of a client's commands since its session began
unfoldable pub raised : ℕ → ℕ → List Proposal → ℕ
raised limit client [] = 0
raised limit client (p ∷ older) = raised_by client p (stands limit client older) (raised limit client older)

-- ---- verdicts

-- a command whose client stands or not, whose series is responded up to a bound, and which was replied to in this session or not
abbrev pub command_verdict : Bool → ℕ → ℕ → Option (List ℕ) → Verdict
command_verdict false bound series found = verdicts.NotStanding
command_verdict true bound series None = if nat_le series bound then verdicts.Responded else verdicts.Acts
command_verdict true bound series (Some reply) = if nat_le series bound then verdicts.Responded else verdicts.RepeatOf reply

abbrev pub verdict_by : Proposal → Bool → ℕ → Option (List ℕ) → Verdict
verdict_by proposals.Blank stood value found = verdicts.Nothing
verdict_by (proposals.Plain command) stood value found = verdicts.Acts
verdict_by (proposals.Session client series responded command) stood value found = command_verdict stood (max value responded) series found
verdict_by (proposals.Register client) stood value found = if stood then verdicts.Taken else verdicts.Acts
verdict_by (proposals.Close client) stood value found = if stood then verdicts.Acts else verdicts.NotStanding

abbrev pub does_act : Verdict → Bool
does_act verdicts.Nothing = false
does_act verdicts.NotStanding = false
does_act verdicts.Taken = false
does_act verdicts.Responded = false
does_act (verdicts.RepeatOf reply) = false
does_act verdicts.Acts = true

abbrev pub client_of : Proposal → ℕ
client_of proposals.Blank = 0
client_of (proposals.Plain command) = 0
client_of (proposals.Session client series responded command) = client
client_of (proposals.Register client) = client
client_of (proposals.Close client) = client

abbrev pub series_of : Proposal → ℕ
series_of proposals.Blank = 0
series_of (proposals.Plain command) = 0
series_of (proposals.Session client series responded command) = series
series_of (proposals.Register client) = 0
series_of (proposals.Close client) = 0

-- ---- the object and the replies

-- what a proposal makes of the object where it acts, and the reply of a command
abbrev pub effect_of : Proposal → Pairs → Updated
effect_of proposals.Blank pairs = record { pairs = pairs; reply = [] }
effect_of (proposals.Plain command) pairs = after pairs command
effect_of (proposals.Session client series responded command) pairs = after pairs command
effect_of (proposals.Register client) pairs = record { pairs = pairs; reply = [] }
effect_of (proposals.Close client) pairs = record { pairs = pairs; reply = [] }

-- what a client's series was replied in its session, after a proposal that acts or not and has this reply
abbrev pub found_by : ℕ → ℕ → Proposal → Bool → List ℕ → Option (List ℕ) → Option (List ℕ)
found_by client series proposals.Blank acts reply found = found
found_by client series (proposals.Plain command) acts reply found = found
found_by client series (proposals.Session c s responded command) acts reply found = if (c == client) && (s == series) && acts then Some reply else found
found_by client series (proposals.Register c) acts reply found = if (c == client) && acts then None else found
found_by client series (proposals.Close c) acts reply found = found

-- the object, and what each series of each client was replied since the client's last register that acted
pub record After : Type 0 where
  pub pairs : Pairs
  pub found : ℕ → ℕ → Option (List ℕ)

abbrev pub verdict_in : ℕ → List Proposal → After → Proposal → Verdict
verdict_in limit older a p = verdict_by p (stands limit (client_of p) older) (raised limit (client_of p) older) (a.found (client_of p) (series_of p))

abbrev pub after_one : Proposal → Bool → After → After
after_one p acts a = record {
  pairs = if acts then (effect_of p a.pairs).pairs else a.pairs;
  found = λ client series. found_by client series p acts (effect_of p a.pairs).reply (a.found client series);
}

unfoldable pub after_all : ℕ → List Proposal → After
after_all limit [] = record { pairs = []; found = λ client series. None }
after_all limit (p ∷ older) = after_one p (does_act (verdict_in limit older (after_all limit older) p)) (after_all limit older)

-- the verdict of a proposal as the next one after a history
abbrev pub verdict : ℕ → List Proposal → Proposal → Verdict
verdict limit older p = verdict_in limit older (after_all limit older) p

-- the object after a history: the commands that act, one after another
abbrev pub state : ℕ → List Proposal → Pairs
state limit older = (after_all limit older).pairs

-- the reply of a proposal that has this verdict: that of the object where a command acts, and the first one where it repeats
abbrev pub acting_reply : Proposal → Pairs → Option (List ℕ)
acting_reply proposals.Blank pairs = None
acting_reply (proposals.Plain command) pairs = Some (after pairs command).reply
acting_reply (proposals.Session client series responded command) pairs = Some (after pairs command).reply
acting_reply (proposals.Register client) pairs = None
acting_reply (proposals.Close client) pairs = None

abbrev pub reply_by : Verdict → Proposal → Pairs → Option (List ℕ)
reply_by verdicts.Nothing p pairs = None
reply_by verdicts.NotStanding p pairs = None
reply_by verdicts.Taken p pairs = None
reply_by verdicts.Responded p pairs = None
reply_by (verdicts.RepeatOf reply) p pairs = Some reply
reply_by verdicts.Acts p pairs = acting_reply p pairs

-- how a request whose proposal has this verdict ends
abbrev pub acting_ending : Proposal → Pairs → Option Ending
acting_ending proposals.Blank pairs = None
acting_ending (proposals.Plain command) pairs = Some (endings.Done (after pairs command).reply)
acting_ending (proposals.Session client series responded command) pairs = Some (endings.Done (after pairs command).reply)
acting_ending (proposals.Register client) pairs = Some endings.Registered
acting_ending (proposals.Close client) pairs = Some endings.Closed

abbrev pub ending_by : Verdict → Proposal → Pairs → Option Ending
ending_by verdicts.Nothing p pairs = None
ending_by verdicts.NotStanding p pairs = Some endings.Rejected
ending_by verdicts.Taken p pairs = Some endings.Rejected
ending_by verdicts.Responded p pairs = Some endings.Responded
ending_by (verdicts.RepeatOf reply) p pairs = Some (endings.Done reply)
ending_by verdicts.Acts p pairs = acting_ending p pairs

-- ---- places of a list, whose first proposal stands at place 1

-- the history of the first n places
abbrev pub history : ℕ → List Proposal → List Proposal
history n list = reverse (take n list)

-- what stands at a place
abbrev pub place_of : {A : Type 0} → List A → ℕ → Option A
place_of list place = if place == 0 then None else slice_get list (place - 1)

abbrev pub verdict_next : ℕ → List Proposal → Option Proposal → Option Verdict
verdict_next limit older None = None
verdict_next limit older (Some p) = Some (verdict limit older p)

abbrev pub verdict_at : ℕ → List Proposal → ℕ → Option Verdict
verdict_at limit list place = verdict_next limit (history (place - 1) list) (place_of list place)

abbrev pub reply_next : ℕ → List Proposal → Option Proposal → Option (List ℕ)
reply_next limit older None = None
reply_next limit older (Some p) = reply_by (verdict limit older p) p (state limit older)

abbrev pub reply_at : ℕ → List Proposal → ℕ → Option (List ℕ)
reply_at limit list place = reply_next limit (history (place - 1) list) (place_of list place)

-- the answer after the first places
abbrev pub answer_after : ℕ → List Proposal → ℕ → List ℕ → List ℕ
answer_after limit list front query = answer (state limit (history front list)) query

-- ---- places that hold a proposal under a context

abbrev pub proposals_of : List Placed → List Proposal
proposals_of list = map (λ e. e.proposal) list

abbrev pub ending_next : ℕ → List Proposal → Option Placed → Option Ending
ending_next limit older None = None
ending_next limit older (Some e) = ending_by (verdict limit older e.proposal) e.proposal (state limit older)

-- how the request at a place ends
abbrev pub ending_at : ℕ → List Placed → ℕ → Option Ending
ending_at limit list place = ending_next limit (history (place - 1) (proposals_of list)) (slice_get list (place - 1))

-- the answer after the first places
abbrev pub answer_at : ℕ → List Placed → ℕ → List ℕ → List ℕ
answer_at limit list front query = answer_after limit (proposals_of list) front query
