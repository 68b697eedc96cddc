-- What a run needs to know of its group: facts about groups alone, which name no world, no context and no desk.
use Rattle.std.proofs.Common.{◌≡◌, ◌<◌, ℕ, List, ◌∷◌, ◌++◌, take, refl, arith}
use Rattle.std.specs.List.{All, AllByRecursion, Contains}
use Rattle.host_ids.specs.declared.entry.Key.{Key}
use Rattle.host_ids.specs.declared.entry.Entry.{Entry}
use Rattle.host_ids.specs.declared.proposal.Proposal.{Proposal}
use Rattle.host_ids.specs.declared.proposal.Proposal.TheVariants as proposals
use Rattle.raft_model.specs.declared.event.LaneEvent.{LaneEvent}
use Rattle.raft_model.specs.declared.event.LaneEvent.TheVariants as events
use Rattle.raft_model.specs.declared.state.State.{State as Replica}
use Rattle.raft_model.specs.Replica.{no_key}
use Rattle.raft_model.specs.Group.{Group, act, replica_at, fresh_group}
pub use Rattle.raft_safety.specs.Events.{IsPlain}
use Rattle.raft_entries.specs.Numbers.{Numbered}
use Rattle.raft_safety.specs.ReadFront.{AreFronted}

-- each voter is a host, of which none has the number 0
abbrev pub AreHosts : List ℕ → Type 0
AreHosts roster = AllByRecursion (λ v. (0 < v) × (v < 10)) roster

-- proposals with their keys, of which entries may be made
abbrev pub Given : Type 0
Given = List (Key × Proposal)

-- the key and the proposal are among those that are given
abbrev pub IsGiven : Given → Key → Proposal → Type 0
IsGiven given key p = Contains given (key, p)

-- the first of what is given is given
pub first_given : (key : Key) (p : Proposal) (more : Given) → IsGiven ((key, p) ∷ more) key p
first_given key p more = (0, omega arith, refl)

-- what an event proposes is one of these
abbrev pub Proposes : Given → LaneEvent → Type 0
Proposes given (events.Timeout h) = Unit {0}
Proposes given (events.Beat h) = Unit {0}
Proposes given (events.Deliver k) = Unit {0}
Proposes given (events.Ready h) = Unit {0}
Proposes given (events.Saved h id) = Unit {0}
Proposes given (events.Propose h key p) = IsGiven given key p
Proposes given (events.Ask h key) = Unit {0}
Proposes given (events.Chunk h to c) = Unit {0}
Proposes given (events.Compact h i) = Unit {0}
Proposes given (events.Installed h i t) = Unit {0}
Proposes given (events.Down h) = Unit {0}
Proposes given (events.Restart h d) = Unit {0}

-- up to its commit index a replica's log is the decided list
pub record IsFront (decided : List Entry) (r : Replica) : Type 0 where
  pub front : r.log.front ≡ 0
  pub same : take r.commit r.log.entries ≡ take r.commit decided

-- safety: it begins where the voters are hosts, every plain event keeps it, up to its commit index each replica's log is the decided list, and that is numbered from 1 on
pub record SafetyLaw (Kept : Group → Type 0) : Type 0 where
  pub begins : (number : ℕ) (voters : List ℕ) → AreHosts voters → Kept (fresh_group number voters)
  pub stays : (e : LaneEvent) → IsPlain e → (g : Group) → Kept g → Kept (act e g).group
  pub agrees : (g : Group) → Kept g → (v : ℕ) → IsFront g.decided (replica_at g v)
  pub numbered : (g : Group) → Kept g → Numbered 1 g.decided

-- the law of entries: nothing is in a new group, an event brings in no more than it proposes and blanks, and what is decided was carried
pub record EntriesLaw (Carries : Given → Group → Type 0) : Type 0 where
  pub none : (given : Given) → IsGiven given no_key proposals.Blank → (number : ℕ) (voters : List ℕ) → Carries given (fresh_group number voters)
  pub longer : (more given : Given) (g : Group) → Carries given g → Carries (more ++ given) g
  pub carried : (given : Given) → IsGiven given no_key proposals.Blank → (e : LaneEvent) → IsPlain e → Proposes given e → (g : Group) → Carries given g → Carries given (act e g).group
  pub decided : (given : Given) (g : Group) → Carries given g → All (λ e. IsGiven given e.key e.proposal) g.decided

-- all that a run needs: `Kept` is what safety keeps of a group, and `Carries given` says that all that may come to be an entry is given
pub record GroupLaw (Kept : Group → Type 0) (Carries : Given → Group → Type 0) : Type 0 where
  pub safety : SafetyLaw Kept
  pub entries : EntriesLaw Carries
  -- the read law: a plain event notes a read as confirmed only with an index that covers all that was decided when a read with its key was first asked
  pub fronted : (e : LaneEvent) → IsPlain e → (g : Group) → Kept g → AreFronted (act e g).group.asks (act e g).notes
