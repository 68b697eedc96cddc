-- The calls as steps of a table that is data, and the laws that they follow a list of proposals. Source: dissertation section 6.3; eviction and responded values are this project's own.
use Rattle.std.specs.Prelude.{◌≡◌, ◌≤◌, ℕ, List, ◌∷◌, if◌then◌else◌}
use Rattle.host_ids.specs.declared.proposal.Proposal.{Proposal}
use Rattle.host_ids.specs.declared.proposal.Proposal.TheVariants as proposals
use Rattle.host_ids.specs.declared.verdict.Verdict.{Verdict}
use Rattle.object_model.specs.Object.{after}
use Rattle.object_model.specs.Sequence.{verdict, state, does_act}
use Rattle.session_lru.specs.Table.{Table}
use Rattle.session_lru.specs.Calls.{session_of, register_verdict, registered, close_verdict, closed, admit_verdict, admitted, kept_by}
use Rattle.session_lru.specs.Law.{StandsFor}

-- the table with the reply of a command that it admitted, where that acts
abbrev pub kept_where : Verdict → ℕ → ℕ → List ℕ → Table → Table
kept_where v client series reply t = if does_act v then kept_by client series reply (session_of client t) t else t

-- the table after a command of a client, which has this reply where it acts
abbrev pub commanded : ℕ → ℕ → ℕ → List ℕ → Table → Table
commanded client series responded reply t = kept_where (admit_verdict (session_of client t) series responded) client series reply (admitted client responded (session_of client t) t)

-- a register has the verdict of its proposal, and the table follows
abbrev pub RegistersFollow : Type 0
RegistersFollow = (history : List Proposal) (t : Table) (client : ℕ) → 1 ≤ t.limit → StandsFor history t
    → (register_verdict (session_of client t) ≡ verdict t.limit history (proposals.Register client)) × StandsFor (proposals.Register client ∷ history) (registered client (session_of client t) t)

-- a close has the verdict of its proposal, and the table follows
abbrev pub ClosesFollow : Type 0
ClosesFollow = (history : List Proposal) (t : Table) (client : ℕ) → 1 ≤ t.limit → StandsFor history t
    → (close_verdict (session_of client t) ≡ verdict t.limit history (proposals.Close client)) × StandsFor (proposals.Close client ∷ history) (closed client t)

-- a command has the verdict of its proposal, and the table follows with the object's reply
abbrev pub CommandsFollow : Type 0
CommandsFollow = (history : List Proposal) (t : Table) (client series responded : ℕ) (command : List ℕ) → 1 ≤ t.limit → StandsFor history t
    → (admit_verdict (session_of client t) series responded ≡ verdict t.limit history (proposals.Session client series responded command))
    × StandsFor (proposals.Session client series responded command ∷ history) (commanded client series responded (after (state t.limit history) command).reply t)
