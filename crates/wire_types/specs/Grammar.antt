-- Which keys, proposals, entries and envelopes are well formed: their numbers and lengths are in their ranges. That each number is within its field's type holds already, and isn't asked again. Source: this project's own.
use Rattle.std.specs.Prelude.{ℕ, ◌+◌, ◌-◌, ◌^◌, ◌==◌, ◌||◌, ◌&&◌, List, [], ◌∷◌, Bool, true, false, not, nat_le, nat_lt, length}
use Rattle.host_ids.specs.declared.entry.Entry.{Entry}
use Rattle.host_ids.specs.declared.entry.Key.{Key}
use Rattle.host_ids.specs.declared.proposal.Proposal.{Proposal}
use Rattle.host_ids.specs.declared.proposal.Proposal.TheVariants as proposals
use Rattle.host_ids.specs.declared.proposal.TheConstants.{MOST_COMMAND, MOST_SERIES}
use Rattle.wire_types.specs.declared.grammar.TheConstants.{MOST_ENTRIES, MOST_PIECE}
use Rattle.wire_types.specs.declared.envelope.Envelope.{Envelope}
use Rattle.wire_types.specs.declared.envelope.Body.{Body}
use Rattle.wire_types.specs.declared.envelope.Body.TheVariants as bodies

-- hosts are 1 to 9, groups 1 to 64
abbrev pub is_host : ℕ → Bool
is_host h = nat_le 1 h && nat_le h 9

abbrev pub is_group : ℕ → Bool
is_group g = nat_le 1 g && nat_le g 64

-- start and serial count from 1
abbrev pub is_key : Key → Bool
is_key key = is_host key.host && nat_le 1 key.start && nat_le 1 key.serial

abbrev pub is_command : List ℕ → Bool
is_command text = nat_le 1 (length text) && nat_le (length text) MOST_COMMAND

-- a client and a series of at least 1, and neither series nor responded value above the greatest
abbrev pub are_fit_numbers : ℕ → ℕ → ℕ → Bool
are_fit_numbers client series responded = nat_le 1 client && nat_le 1 series && nat_le series MOST_SERIES && nat_le responded MOST_SERIES

abbrev pub is_proposal : Proposal → Bool
is_proposal proposals.Blank = true
is_proposal (proposals.Plain command) = is_command command
is_proposal (proposals.Session client series responded command) = are_fit_numbers client series responded && is_command command
is_proposal (proposals.Register client) = nat_le 1 client
is_proposal (proposals.Close client) = nat_le 1 client

abbrev pub is_blank : Proposal → Bool
is_blank proposals.Blank = true
is_blank (proposals.Plain command) = false
is_blank (proposals.Session client series responded command) = false
is_blank (proposals.Register client) = false
is_blank (proposals.Close client) = false

-- a request: no blank, and with a key
abbrev pub is_request : Key → Proposal → Bool
is_request key p = is_key key && is_proposal p && not (is_blank p)

-- the key of zeros, which a blank entry has
abbrev pub is_no_key : Key → Bool
is_no_key key = (key.host == 0) && (key.start == 0) && (key.serial == 0)

-- terms count from 1
abbrev pub is_entry : Entry → Bool
is_entry e = nat_le 1 e.term && ((is_blank e.proposal && is_no_key e.key) || is_request e.key e.proposal)

-- entries of these forms, with the indices after one
abbrev pub are_entries : ℕ → List Entry → Bool
are_entries prev [] = true
are_entries prev (e ∷ es) = (e.index == prev + 1) && is_entry e && are_entries (prev + 1) es

-- an append has at most 64 entries, and a piece of a snapshot at most 65,536 bytes
-- at index 0 the term is 0
abbrev pub is_before : ℕ → ℕ → Bool
is_before index term = not (index == 0) || (term == 0)

-- an append: at the previous index 0 the previous term is 0, and there are at most 64 entries, which are well formed and have the indices after the previous one, below 2^64
abbrev pub is_append : ℕ → ℕ → List Entry → Bool
is_append prev prev_term es = is_before prev prev_term && nat_le (length es) MOST_ENTRIES && nat_lt (prev + length es) (2 ^ 64) && are_entries prev es

-- the last term of a snapshot is 0 exactly where its index is 0
abbrev pub is_end : ℕ → ℕ → Bool
is_end index term = (is_before index term) && (not (term == 0) || (index == 0))

-- a piece of a snapshot: the last term is 0 exactly where the index is, the number is from 1 to the count, which is at most 2^32 - 2, the size is from 1 to 65,536, and there are at most 65,536 bytes
abbrev pub is_piece : ℕ → ℕ → ℕ → ℕ → ℕ → List ℕ → Bool
is_piece index last_term number count size bytes =
    is_end index last_term && nat_le 1 number && nat_le number count && nat_lt (count + 1) (2 ^ 32)
    && nat_le 1 size && nat_le size MOST_PIECE && nat_le (length bytes) MOST_PIECE

-- the kinds that belong to a term have one of at least 1, and the others the term 0
abbrev pub is_body : ℕ → Body → Bool
is_body term (bodies.Vote l lt) = nat_le 1 term
is_body term (bodies.VoteReply granted) = nat_le 1 term
is_body term (bodies.Append prev pt c es) = nat_le 1 term && is_append prev pt es
is_body term (bodies.AppendReply ok i) = nat_le 1 term
is_body term (bodies.Beat c round) = nat_le 1 term
is_body term (bodies.BeatReply round) = nat_le 1 term
is_body term (bodies.SnapChunk index last_term number count size bytes) = nat_le 1 term && is_piece index last_term number count size bytes
is_body term (bodies.SnapReply i want whole) = nat_le 1 term
is_body term (bodies.Propose key p) = (term == 0) && is_request key p
is_body term (bodies.ReadAsk key) = (term == 0) && is_key key
is_body term (bodies.ReadAnswer key i) = (term == 0) && is_key key

abbrev pub is_envelope : Envelope → Bool
is_envelope e = is_host e.from && is_host e.to && not (e.from == e.to) && is_group e.group && is_body e.term e.body
