-- The lines of the output as bytes. Source: this project's own.
use Rattle.std.specs.Prelude.{ℕ, List, [], ◌∷◌, ◌++◌, ◌&&◌, codes, decimal, map, nat_le, if◌then◌else◌}
use Rattle.host_ids.specs.declared.proposal.Proposal.{Proposal}
use Rattle.host_ids.specs.declared.proposal.Proposal.TheVariants as proposals
use Rattle.object_model.specs.declared.mark.Ending.{Ending}
use Rattle.object_model.specs.declared.mark.Ending.TheVariants as endings
use Rattle.script_text.specs.declared.kind.EnvelopeKind.{EnvelopeKind}
use Rattle.script_text.specs.declared.kind.EnvelopeKind.TheVariants as kinds
use Rattle.script_text.specs.declared.limit.Limit.{Limit}
use Rattle.script_text.specs.declared.limit.Limit.TheVariants as limits
use Rattle.script_text.specs.declared.limit.TheConstants.{MOST_ENTRIES, MOST_ENVELOPES, MOST_SCRIPT}
use Rattle.script_text.specs.declared.line.Line.{Line}
use Rattle.script_text.specs.declared.line.Line.TheVariants as lines
use Rattle.script_text.specs.declared.refusal.Refusal.{Refusal}
use Rattle.script_text.specs.declared.refusal.Refusal.TheVariants as refusals

-- words with a space between
infixl 8 ◌·◌
abbrev pub ◌·◌ : List ℕ → List ℕ → List ℕ
a · b = a ++ (32 ∷ b)

-- a byte that doesn't show is printed as `?`
abbrev pub shown_byte : ℕ → ℕ
shown_byte b = if nat_le 32 b && nat_le b 126 then b else 63

-- a payload or a reply
abbrev pub shown_text : List ℕ → List ℕ
shown_text text = map shown_byte text

abbrev pub proposal_text : Proposal → List ℕ
proposal_text proposals.Blank = codes "blank"
proposal_text (proposals.Plain command) = shown_text command
proposal_text (proposals.Session client series responded command) = codes "call" · decimal client · decimal series · decimal responded · shown_text command
proposal_text (proposals.Register client) = codes "register" · decimal client
proposal_text (proposals.Close client) = codes "close" · decimal client

abbrev pub ending_text : List ℕ → ℕ → Ending → List ℕ
ending_text context place (endings.Done reply) = codes "done" · context · decimal place · shown_text reply
ending_text context place endings.Rejected = codes "rejected" · context · decimal place
ending_text context place endings.Responded = codes "responded" · context · decimal place
ending_text context place endings.Registered = codes "registered" · context · decimal place
ending_text context place endings.Closed = codes "closed" · context · decimal place

abbrev pub limit_text : Limit → List ℕ
limit_text limits.Entries = codes "limit entries" · decimal MOST_ENTRIES
limit_text limits.Envelopes = codes "limit envelopes" · decimal MOST_ENVELOPES
limit_text limits.Script = codes "limit script" · decimal MOST_SCRIPT

-- the number by which the output shows a refusal
abbrev pub refusal_number : Refusal → ℕ
refusal_number refusals.NotDeclared = 1
refusal_number refusals.NoReplica = 2
refusal_number refusals.ContextUsed = 5
refusal_number refusals.SessionName = 6
refusal_number refusals.Outstanding = 7
refusal_number refusals.NoEnvelope = 9
refusal_number refusals.Declared = 13
refusal_number refusals.LongCommand = 14

abbrev pub kind_text : EnvelopeKind → List ℕ
kind_text kinds.Vote = codes "vote"
kind_text kinds.VoteReply = codes "votereply"
kind_text kinds.Append = codes "append"
kind_text kinds.AppendReply = codes "appendreply"
kind_text kinds.Beat = codes "beat"
kind_text kinds.BeatReply = codes "beatreply"
kind_text kinds.SnapChunk = codes "snapchunk"
kind_text kinds.SnapReply = codes "snapreply"
kind_text kinds.Propose = codes "propose"
kind_text kinds.ReadAsk = codes "readask"
kind_text kinds.ReadAnswer = codes "readanswer"

abbrev pub line_text : List ℕ → Line → List ℕ
line_text context (lines.Started host start) = codes "started" · decimal host · decimal start
line_text context (lines.Leader host group term) = codes "leader" · decimal host · decimal group · decimal term
line_text context lines.Idle = codes "idle"
line_text context (lines.Refused number) = codes "refused" · decimal number
line_text context (lines.Ask key group proposal) = codes "ask" · context · decimal group · proposal_text proposal
line_text context (lines.AskRead key group query) = codes "ask" · context · decimal group · codes "read" · shown_text query
line_text context (lines.Ended key group place ending) = ending_text context place ending
line_text context (lines.Read key group front answer) = codes "read" · context · decimal front · shown_text answer
line_text context (lines.Stale host group front query answer) = codes "stale" · decimal host · decimal group · decimal front · shown_text answer
line_text context (lines.Dropped key group) = codes "dropped" · context
line_text context (lines.Wire group number from to kind term) = codes "wire" · decimal group · decimal number · decimal from · decimal to · kind_text kind · decimal term
line_text context (lines.Entry group entry) = codes "entry" · decimal group · decimal entry.index · context · proposal_text entry.proposal
line_text context (lines.Reached limit) = limit_text limit
line_text context lines.Usage = codes "usage"
line_text context (lines.BadLine line) = codes "badline" · decimal line
line_text context lines.End = codes "end"

-- a line and its line feed
unfoldable pub print_line : List ℕ → Line → List ℕ
print_line context line = line_text context line ++ 10 ∷ []
