-- The safety of groups and the law of entries, as their laws give them.
use Rattle.std.proofs.Common.{◌≡◌, ℕ, ◌==◌, List, [], ◌∷◌, ◌++◌, false, Option, Some, None, take, refl, subst, ne_eqb, arith}
use Rattle.std.specs.Prelude.{IfSome}
use Rattle.std.specs.List.{All, list_any}
use Rattle.std.proofs.lemmas.List.Elements.{All-from_recursion, recursion_from_All, Contains-append_right}
use Rattle.host_ids.specs.declared.entry.Key.{Key}
use Rattle.host_ids.specs.declared.entry.Entry.{Entry}
use Rattle.host_ids.specs.declared.proposal.Proposal.{Proposal}
use Rattle.wire_types.specs.declared.envelope.Envelope.{Envelope}
use Rattle.wire_types.specs.declared.envelope.Body.{Body}
use Rattle.wire_types.specs.declared.envelope.Body.TheVariants as bodies
use Rattle.raft_model.specs.declared.event.LaneEvent.{LaneEvent}
use Rattle.raft_model.specs.declared.event.LaneEvent.TheVariants as events
use Rattle.raft_model.specs.declared.state.State.{State as Replica}
use Rattle.raft_model.specs.declared.state.Pending.{Pending}
use Rattle.raft_model.specs.Group.{Group, act, replica_at, saved_at}
use Rattle.raft_safety.specs.History.{Agree}
use Rattle.raft_safety.specs.Replicas.{whole}
use Rattle.raft_safety.specs.Invariant.{Kept}
use Rattle.raft_safety.specs.Events.{IsAllowed}
use Rattle.raft_safety.specs.Agreed.{BeginsKept, StaysKept, AgreesWhereKept}
use Rattle.raft_safety.specs.ReadFront.{AreFronted}
use Rattle.raft_safety.specs.Rounds.{HasReads, BeginsReads, StaysReads, NotesFronts}
use Rattle.raft_entries.specs.Kept.{Comes, Holds, Stays}
use Rattle.raft_entries.specs.Numbers.{Numbering}
use Rattle.raft_entries.specs.Mail.{Property}
use Rattle.raft_entries.specs.Mail.{Carries as Brings}
use Rattle.raft_entries.specs.Has.{OfEntry, OfMail, OfPending, OfReplica, OfAll, IsOneOf, ListsKeep}
use Rattle.run_law.proofs.Basics.Lists.{all_map}
use Rattle.run_law.proofs.Group.Law.{AreHosts, IsPlain, Given, Proposes, IsFront, SafetyLaw, EntriesLaw}
use Rattle.run_law.proofs.Group.Uncut.{AreUncut, uncut_begins, uncut_stays}

-- ---- safety

-- no host has the number 0
no_zero : (vs : List ℕ) → AreHosts vs → list_any (λ v. v == 0) vs ≡ false
no_zero [] p = refl
no_zero (v ∷ vs) p = let n : (v == 0) ≡ false = ne_eqb v 0 (λ e. omega (arith, e, p.0.0)) in rw n (no_zero vs p.1)

-- a log that isn't cut, and agrees
front_of : (decided : List Entry) (r : Replica) → r.log.front ≡ 0 → Agree r.commit (whole decided r.log.front r.log.entries) decided → IsFront decided r
front_of decided r z a = record {
  front = z;
  same = let s : take r.commit (whole decided 0 r.log.entries) ≡ take r.commit decided = subst (λ (n : ℕ). take r.commit (whole decided n r.log.entries) ≡ take r.commit decided) z a.same in s;
}

-- what safety keeps of a group and of its reads, where no log is cut and all entries are numbered
pub record Safe (g : Group) : Type 0 where
  pub kept : Kept g
  pub reads : HasReads g
  pub uncut : AreUncut g
  pub numbering : Holds Numbering g

-- with a plain event no numbered entries have to come
plain_of : (e : LaneEvent) → IsPlain e → Comes Numbering e
plain_of (events.Timeout h) k = tt
plain_of (events.Beat h) k = tt
plain_of (events.Deliver number) k = tt
plain_of (events.Ready h) k = tt
plain_of (events.Saved h id) k = tt
plain_of (events.Propose h key p) k = tt
plain_of (events.Ask h key) k = tt
plain_of (events.Chunk h to c) k = absurd k
plain_of (events.Compact h i) k = absurd k
plain_of (events.Installed h i t) k = absurd k
plain_of (events.Down h) k = absurd k
plain_of (events.Restart h d) k = absurd k

-- a plain event is allowed
allowed_of : (e : LaneEvent) → IsPlain e → (g : Group) → IsAllowed g e
allowed_of (events.Timeout h) k g = refl
allowed_of (events.Beat h) k g = refl
allowed_of (events.Deliver number) k g = refl
allowed_of (events.Ready h) k g = refl
allowed_of (events.Saved h id) k g = refl
allowed_of (events.Propose h key p) k g = refl
allowed_of (events.Ask h key) k g = refl
allowed_of (events.Chunk h to c) k g = absurd k
allowed_of (events.Compact h i) k g = absurd k
allowed_of (events.Installed h i t) k g = absurd k
allowed_of (events.Down h) k g = absurd k
allowed_of (events.Restart h d) k g = absurd k

-- the invariants of groups and of reads, with uncut logs and numbered entries, give the safety law
pub safety_of : BeginsKept → StaysKept → AgreesWhereKept → BeginsReads → StaysReads → Stays Numbering → SafetyLaw Safe
safety_of begins stays agrees begins_reads stays_reads numbers = record {
  begins = λ number voters k. record {
    kept = begins number voters (no_zero voters k);
    reads = begins_reads number voters (no_zero voters k);
    uncut = uncut_begins number voters;
    numbering = numbers.begins number voters;
  };
  stays = λ e is g k. record {
    kept = stays e g (allowed_of e is g) k.kept;
    reads = stays_reads e g (allowed_of e is g) k.reads;
    uncut = uncut_stays e is g k.uncut;
    numbering = numbers.events e g (plain_of e is) k.numbering;
  };
  agrees = λ g k v. front_of g.decided (replica_at g v) (k.uncut v) ((agrees g k.kept).decided v);
  numbered = λ g k. k.numbering.decided;
}

-- what events note of reads gives the read law
pub fronts_of : NotesFronts → (e : LaneEvent) → IsPlain e → (g : Group) → Safe g → AreFronted (act e g).group.asks (act e g).notes
fronts_of fronts e is g k = fronts e g (allowed_of e is g) k.reads

-- ---- the law of entries

-- each entry in the group, and each proposal that is handed on in it, is given
abbrev pub Carries : Given → Group → Type 0
Carries given g = Holds (OfAll (IsOneOf given)) g

-- all of a list that has a property has any other one that follows from it
all_more : {A : Type 0} (P Q : A → Type 0) (xs : List A) → ((x : A) → P x → Q x) → All P xs → All Q xs
all_more P Q xs f a = All-from_recursion Q xs (all_map P Q xs f (recursion_from_All P xs a))

-- a body's entries and its proposal have a property
abbrev OfBody : Property → ℕ → Body → Type 0
OfBody P t b = Brings P (λ t prev es. All (OfEntry P) es) t b

-- what has a property has a wider one
module _ (P Q : Property) (f : (key : Key) (p : Proposal) → P key p → Q key p) where
  -- entries that have the property have the wider one
  entries_more : (es : List Entry) → All (OfEntry P) es → All (OfEntry Q) es
  entries_more es a = all_more (OfEntry P) (OfEntry Q) es (λ e q. f e.key e.proposal q) a

  -- so do the entries and the proposal of a body
  body_more : (t : ℕ) (b : Body) → OfBody P t b → OfBody Q t b
  body_more t (bodies.Vote l lt) q = q
  body_more t (bodies.VoteReply granted) q = q
  body_more t (bodies.Append prev pt c es) q = entries_more es q
  body_more t (bodies.AppendReply ok i) q = q
  body_more t (bodies.Beat c round) q = q
  body_more t (bodies.BeatReply round) q = q
  body_more t (bodies.SnapChunk index last_term number count size bytes) q = q
  body_more t (bodies.SnapReply i want whole) q = q
  body_more t (bodies.Propose key p) q = f key p q
  body_more t (bodies.ReadAsk key) q = q
  body_more t (bodies.ReadAnswer key i) q = q

  -- so do those of envelopes
  mail_more : (ms : List Envelope) → All (OfMail P) ms → All (OfMail Q) ms
  mail_more ms a = all_more (OfMail P) (OfMail Q) ms (λ m q. body_more m.term m.body q) a

  -- so do those of a pending batch and of its envelopes
  pending_more : (o : Option Pending) → IfSome o (OfPending P) → IfSome o (OfPending Q)
  pending_more None q = q
  pending_more (Some p) q = (entries_more p.batch.entries q.0, mail_more p.envelopes q.1)

  -- so do those of a replica: of its log, of what it holds, and of its pending batch
  replica_more : (r : Replica) → OfReplica P r → OfReplica Q r
  replica_more r q = (entries_more r.log.entries q.0, mail_more r.held q.1, pending_more r.pending q.2)

  -- so do those of a whole group
  group_more : (g : Group) → Holds (OfAll P) g → Holds (OfAll Q) g
  group_more g q = record {
    tables = q.tables;
    hosts = λ h. (entries_more (saved_at g h).entries (q.hosts h).0, replica_more (replica_at g h) (q.hosts h).1);
    wire = mail_more g.wire q.wire;
    decided = entries_more g.decided q.decided;
  }

-- what an event proposes is given
event_of : (given : Given) (e : LaneEvent) → IsPlain e → Proposes given e → Comes (OfAll (IsOneOf given)) e
event_of given (events.Timeout h) k q = tt
event_of given (events.Beat h) k q = tt
event_of given (events.Deliver number) k q = tt
event_of given (events.Ready h) k q = tt
event_of given (events.Saved h id) k q = tt
event_of given (events.Propose h key p) k q = q
event_of given (events.Ask h key) k q = tt
event_of given (events.Chunk h to c) k q = absurd k
event_of given (events.Compact h i) k q = absurd k
event_of given (events.Installed h i t) k q = absurd k
event_of given (events.Down h) k q = absurd k
event_of given (events.Restart h d) k q = absurd k

-- what groups keep of any list of proposals gives the law of entries
pub entries_of : ListsKeep → EntriesLaw Carries
entries_of keep = record {
  none = λ given blank number voters. (keep given blank).groups.begins number voters;
  longer = λ more given g q. group_more (IsOneOf given) (IsOneOf (more ++ given)) (λ key p c. Contains-append_right more given (key, p) c) g q;
  carried = λ given blank e plain q g c. (keep given blank).groups.events e g (event_of given e plain q) c;
  decided = λ given g q. q.decided;
}
