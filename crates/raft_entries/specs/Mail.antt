-- What proposals have, and entries that are sent, and so what envelopes carry. Source: this project's own.
use Rattle.std.specs.Prelude.{ℕ, List, ⊤}
use Rattle.host_ids.specs.declared.entry.Entry.{Entry}
use Rattle.host_ids.specs.declared.entry.Key.{Key}
use Rattle.host_ids.specs.declared.proposal.Proposal.{Proposal}
use Rattle.wire_types.specs.declared.envelope.Envelope.{Envelope}
use Rattle.wire_types.specs.declared.envelope.Body.{Body}
use Rattle.wire_types.specs.declared.envelope.Body.TheVariants as bodies

-- what a proposal may have, with the key of its request
abbrev pub Property : Type 1
Property = Key → Proposal → Type 0

-- what entries may have that were sent in a term to follow an index
abbrev pub Following : Type 1
Following = ℕ → ℕ → List Entry → Type 0

-- a body in its term has what is demanded: of the entries of an Append, after the index that they follow, and of the proposal of a Propose
abbrev pub Carries : Property → Following → ℕ → Body → Type 0
Carries Own Follows t (bodies.Vote l lt) = ⊤
Carries Own Follows t (bodies.VoteReply granted) = ⊤
Carries Own Follows t (bodies.Append prev pt c es) = Follows t prev es
Carries Own Follows t (bodies.AppendReply ok i) = ⊤
Carries Own Follows t (bodies.Beat c round) = ⊤
Carries Own Follows t (bodies.BeatReply round) = ⊤
Carries Own Follows t (bodies.SnapChunk index last_term number count size bytes) = ⊤
Carries Own Follows t (bodies.SnapReply i want whole) = ⊤
Carries Own Follows t (bodies.Propose key p) = Own key p
Carries Own Follows t (bodies.ReadAsk key) = ⊤
Carries Own Follows t (bodies.ReadAnswer key i) = ⊤

-- an envelope has it where its body has it in its term
abbrev pub InMail : Property → Following → Envelope → Type 0
InMail Own Follows m = Carries Own Follows m.term m.body
