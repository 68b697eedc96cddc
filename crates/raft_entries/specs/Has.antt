-- When all entries and proposals that a group holds have a property, whatever the property is. Source: this project's own.
use Rattle.std.specs.Prelude.{◌≡◌, List, IfSome, Bool, true}
use Rattle.std.specs.List.{All, Contains}
use Rattle.host_ids.specs.declared.entry.Entry.{Entry}
use Rattle.host_ids.specs.declared.entry.Key.{Key}
use Rattle.host_ids.specs.declared.batch.Batch.{Batch}
use Rattle.host_ids.specs.declared.proposal.Proposal.{Proposal}
use Rattle.host_ids.specs.declared.proposal.Proposal.TheVariants as proposals
use Rattle.wire_types.specs.declared.envelope.Envelope.{Envelope}
use Rattle.raft_model.specs.declared.input.Input.{Input}
use Rattle.raft_model.specs.declared.saved.SavedState.{SavedState}
use Rattle.raft_model.specs.declared.state.State.{State as Replica}
use Rattle.raft_model.specs.declared.state.Pending.{Pending}
use Rattle.raft_model.specs.Replica.{no_key}
use Rattle.roster.specs.Roster.{Seat}
use Rattle.raft_model.specs.Step.{Step, step, after_ready, saved}
use Rattle.raft_entries.specs.Parts.{Parts, parts}
use Rattle.raft_entries.specs.Mail.{Property, InMail}
use Rattle.raft_entries.specs.Kept.{Having, Given, Stays}

-- a blank with no key has it, which a new leader appends
abbrev pub OfBlank : Property → Type 0
OfBlank P = P no_key proposals.Blank

-- the proposal of an entry has it
abbrev pub OfEntry : Property → Entry → Type 0
OfEntry P e = P e.key e.proposal

-- the entries or the proposal that an envelope carries have it
abbrev pub OfMail : Property → Envelope → Type 0
OfMail P = InMail P (λ t prev es. All (OfEntry P) es)

-- the entries of a batch have it
abbrev pub OfBatch : Property → Batch → Type 0
OfBatch P b = All (OfEntry P) b.entries

-- the entries of what is saved have it
abbrev pub OfSaved : Property → SavedState → Type 0
OfSaved P b = All (OfEntry P) b.entries

-- the entries of a pending batch have it, and the envelopes that wait for it
abbrev pub OfPending : Property → Pending → Type 0
OfPending P p = OfBatch P p.batch × All (OfMail P) p.envelopes

-- the entries of a replica's log have it, the envelopes that it holds to be sent, and its pending batch
abbrev pub OfParts : Property → Parts → Type 0
OfParts P x = All (OfEntry P) x.log.entries × All (OfMail P) x.held × IfSome x.pending (OfPending P)

-- the same of a whole replica
abbrev pub OfReplica : Property → Replica → Type 0
OfReplica P r = OfParts P (parts r)

-- a replica has it, and the envelopes that it puts on the wire
abbrev pub OfStep : Property → Step → Type 0
OfStep P w = OfReplica P w.replica × All (OfMail P) w.sent

-- an input of a replica has it: an envelope or a proposal
abbrev pub OfInput : Property → Input → Type 0
OfInput P input = Given P (OfMail P) input

-- all of a group has it: what is proposed, its envelopes, what a crash leaves, each replica with what it has saved, and the decided list
abbrev pub OfAll : Property → Having
OfAll P = record {
  Own = P;
  Mail = OfMail P;
  Left = λ d. OfBatch P d.batch;
  Host = λ b r. OfSaved P b × OfReplica P r;
  Listed = All (OfEntry P);
}

-- it stays with each input of a replica, with Ready and Saved, and with the events of a group
pub record Keeps (P : Property) : Type 0 where
  pub steps : (s : Seat) (input : Input) (r : Replica) → OfInput P input → OfReplica P r → OfStep P (step s input r)
  pub ready : (r : Replica) → OfReplica P r → OfReplica P (after_ready r)
  pub saved : (s : Seat) (p : Pending) (r : Replica) → OfPending P p → OfReplica P r → OfStep P (saved s p r)
  pub groups : Stays (OfAll P)

-- a contract ranges over data, so it speaks of tests and lists: to pass a test
abbrev pub Passes : (Key → Proposal → Bool) → Property
Passes test key p = test key p ≡ true

-- and to be a pair of a list
abbrev pub IsOneOf : List (Key × Proposal) → Property
IsOneOf list key p = Contains list (key, p)

-- that all pass a test stays, where a blank with no key passes it
abbrev pub TestsKeep : Type 0
TestsKeep = (test : Key → Proposal → Bool) → OfBlank (Passes test) → Keeps (Passes test)

-- that all are of a list stays, where a blank with no key is of it
abbrev pub ListsKeep : Type 0
ListsKeep = (list : List (Key × Proposal)) → OfBlank (IsOneOf list) → Keeps (IsOneOf list)
