-- Which events are allowed: any, but of pieces of a snapshot those of decided places, of installs those of the snapshot that was received, and of starts those that
-- honest disks may lead to. Source: this project's own.
use Rattle.std.specs.Prelude.{ℕ, ◌==◌, ◌&&◌, ◌||◌, List, [], ◌∷◌, Bool, true, false, nat_le, nat_eq, length, Some, None}
use Rattle.std.specs.Cmp.Lexicographic.{pointwise}
use Rattle.host_ids.specs.declared.entry.Entry.{Entry}
use Rattle.host_ids.specs.declared.entry.Key.{Key}
use Rattle.host_ids.specs.declared.proposal.Proposal.{Proposal}
use Rattle.host_ids.specs.declared.proposal.Proposal.TheVariants.{Blank, Plain, Session, Register, Close}
use Rattle.log_view.specs.Log.{term_at}
use Rattle.raft_model.specs.declared.durable.Durable.{Durable}
use Rattle.raft_model.specs.declared.saved.SavedState.{SavedState}
use Rattle.raft_model.specs.declared.event.LaneEvent.{LaneEvent}
use Rattle.raft_model.specs.declared.event.LaneEvent.TheVariants as events
use Rattle.raft_model.specs.Restarting.{state_of, begun_log, beginning, is_fit}
use Rattle.raft_model.specs.Group.{Group, replica_at, saved_at, merged, is_decided, is_named, term_of, act}

-- whether values are the same
abbrev pub same_key : Key → Key → Bool
same_key a b = (a.host == b.host) && (a.start == b.start) && (a.serial == b.serial)

abbrev pub same_text : List ℕ → List ℕ → Bool
same_text = pointwise nat_eq

abbrev pub same_proposal : Proposal → Proposal → Bool
same_proposal Blank b = elim b as (λ _. Bool) [ Blank ↦ true | Plain c ↦ false | Session l s r c ↦ false | Register l ↦ false | Close l ↦ false ]
same_proposal (Plain command) b = elim b as (λ _. Bool) [ Blank ↦ false | Plain c ↦ same_text command c | Session l s r c ↦ false | Register l ↦ false | Close l ↦ false ]
same_proposal (Session client series responded command) b =
    elim b as (λ _. Bool) [ Blank ↦ false | Plain c ↦ false | Session l s r c ↦ (client == l) && (series == s) && (responded == r) && same_text command c | Register l ↦ false | Close l ↦ false ]
same_proposal (Register client) b = elim b as (λ _. Bool) [ Blank ↦ false | Plain c ↦ false | Session l s r c ↦ false | Register l ↦ client == l | Close l ↦ false ]
same_proposal (Close client) b = elim b as (λ _. Bool) [ Blank ↦ false | Plain c ↦ false | Session l s r c ↦ false | Register l ↦ false | Close l ↦ client == l ]

abbrev pub same_entry : Entry → Entry → Bool
same_entry a b = (a.index == b.index) && (a.term == b.term) && same_key a.key b.key && same_proposal a.proposal b.proposal

abbrev pub same_state : SavedState → SavedState → Bool
same_state a b =
    (a.term == b.term) && (a.vote == b.vote) && (a.commit == b.commit) && (a.front == b.front) && (a.front_term == b.front_term) && pointwise same_entry a.entries b.entries

-- what a crash may leave of a host: what it has saved, or that with its whole pending batch
abbrev pub is_left_whole : Group → ℕ → SavedState → Bool
is_left_whole g v b = elim (replica_at g v).pending as (λ _. Bool) [ None ↦ false | Some p ↦ same_state (merged (saved_at g v) p.batch) b ]

abbrev pub is_left : Group → ℕ → SavedState → Bool
is_left g v b = same_state (saved_at g v) b || is_left_whole g v b

-- a start from what a crash may leave, that is fit; its mark is a decided place with its term or 0, its machine's index a decided place or 0, and where the machine
-- begins the log has the decided list's term
abbrev pub is_allowed_start : Group → ℕ → Durable → Bool
is_allowed_start g v s =
    is_left g v (state_of s.batch) && is_decided g.decided s.mark s.mark_term && nat_le s.machine (length g.decided)
    && (term_at (begun_log s) (beginning s) == term_of g.decided (beginning s)) && is_fit s

-- an event is allowed in a group; one that is refused may be too
abbrev pub is_allowed : Group → LaneEvent → Bool
is_allowed g (events.Timeout v) = true
is_allowed g (events.Beat v) = true
is_allowed g (events.Deliver k) = true
is_allowed g (events.Ready v) = true
is_allowed g (events.Saved v id) = true
is_allowed g (events.Propose v key p) = true
is_allowed g (events.Ask v key) = true
is_allowed g (events.Chunk v to c) = is_decided g.decided c.index c.last_term
is_allowed g (events.Compact v i) = true
is_allowed g (events.Installed v i t) = is_named g v i t
is_allowed g (events.Down v) = true
is_allowed g (events.Restart v s) = is_allowed_start g v s

-- each of these events is allowed where it comes
abbrev pub are_allowed : Group → List LaneEvent → Bool
are_allowed g [] = true
are_allowed g (e ∷ es) = is_allowed g e && are_allowed (act e g).group es
