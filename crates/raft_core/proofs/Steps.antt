-- Every row keeps a replica in range, and what it holds fit to be given to another one.
use Rattle.std.proofs.Common.{◌≡◌, ◌≤◌, ◌+◌, ◌-◌, ◌^◌, ℕ, List, [], ◌++◌, true, false, refl, arith, if◌then◌else◌, Option, Some, sym, ap, ◌∙◌, ◌==◌}
use Rattle.std.specs.Option.{option_map, unwrap_or}
use Rattle.std.proofs.lemmas.Bool.{cond_both, eqb-false}
use Rattle.std.proofs.lemmas.List.{append_assoc, append-nil, length-drop}
use Rattle.std.proofs.lemmas.List.Elements.{All-nil}
use Rattle.raft_model.specs.declared.note.Note.{Note}
use Rattle.raft_model.specs.declared.state.Pending.{Pending}
use Rattle.wire_types.specs.declared.envelope.Envelope.{Envelope}
use Rattle.raft_model.specs.declared.input.Input.{Input}
use Rattle.raft_model.specs.declared.input.Input.TheVariants as inputs
use Rattle.raft_model.specs.declared.state.State.{State as Replica}
use Rattle.roster.specs.Roster.{Seat}
use Rattle.raft_model.specs.Replica.{Row, in_term, quiet, may_release}
use Rattle.raft_model.specs.Saving.{may_give, gave_batch, own_match, saved_batch}
use Rattle.raft_model.specs.Step.{Step, row, released, after_ready, saved}
use Rattle.raft_entries.specs.Parts.{parts}
use Rattle.raft_entries.proofs.Rows.Words.{On}
use Rattle.raft_entries.proofs.Rows.Steps.{row_by, saves_by}
use Rattle.raft_core.specs.declared.saving.BatchMark.{BatchMark}
use Rattle.raft_core.specs.Marks.{mark, stabilised_by, own_vote_by, saved_by}
use Rattle.raft_core.specs.Range.{InRange, IsWithin, IsMail, IsSeat, Holds}
use Rattle.raft_core.proofs.Ranges.{AreRanged, enters, words}

pub in_term_kept : (t : ℕ) (r : Replica) → t ≤ 2 ^ 62 → InRange r → InRange (in_term t r)
in_term_kept t r short h = cond_both _ _ _ InRange (λ _. enters (parts r) t short h) (λ _. h)

row_both : (s : Seat) (input : Input) (r : Replica) → IsSeat s → IsWithin r input → On AreRanged r → On AreRanged (row s input r).replica
row_both s inputs.Timeout r q w k = row_by (words s q) refl inputs.Timeout r tt (λ _. tt) k
row_both s inputs.Beat r q w k = row_by (words s q) refl inputs.Beat r tt (λ _. tt) k
row_both s (inputs.Envelope e) r q w k = row_by (words s q) refl (inputs.Envelope e) r w (λ _. tt) k
row_both s (inputs.Propose key p) r q w k = row_by (words s q) refl (inputs.Propose key p) r w (λ _. tt) k
row_both s (inputs.Ask key) r q w k = row_by (words s q) refl (inputs.Ask key) r tt (λ _. tt) k
row_both s (inputs.Chunk to c) r q w k = row_by (words s q) refl (inputs.Chunk to c) r tt (λ _. (w.0, (w.1, w.2, w.3))) k
row_both s (inputs.Compact i) r q w k = row_by (words s q) refl (inputs.Compact i) r tt (λ _. tt) k
row_both s (inputs.Installed i t) r q w k = row_by (words s q) refl (inputs.Installed i t) r tt (λ _. w) k

pub row_kept : (s : Seat) (input : Input) (r : Replica) → IsSeat s → IsWithin r input → InRange r → Holds r → InRange (row s input r).replica
row_kept s input r q w h k = (row_both s input r q w (h, k)).0

pub row_holds : (s : Seat) (input : Input) (r : Replica) → IsSeat s → IsWithin r input → InRange r → Holds r → Holds (row s input r).replica
row_holds s input r q w h k = (row_both s input r q w (h, k)).1

pub released_kept : (r : Replica) → InRange r → InRange (released [] (quiet r)).replica
released_kept r h = cond_both (may_release r) _ _ (λ (x : Step). InRange x.replica) (λ _. h) (λ _. h)

pub released_holds : (r : Replica) → Holds r → Holds (released [] (quiet r)).replica
released_holds r k = cond_both (may_release r) _ _ (λ (x : Step). Holds x.replica) (λ _. (All-nil IsMail, k.1)) (λ _. k)

-- ---- saving

given_kept : (r : Replica) → InRange r → InRange (gave_batch r)
given_kept r h =
    let p = h.1 in
    let k = h.2 in
    let d = length-drop (r.from - r.log.front - 1) r.log.entries in (
      record { term_short = h.0.term_short; round_short = h.0.round_short; batches_short = cond_both (r.batches == 2 ^ 62) 1 (r.batches + 1) (λ n. n ≤ 2 ^ 62) (λ _. omega arith) (λ e. omega (arith, eqb-false r.batches (2 ^ 62) e, h.0.batches_short)) },
      record { last_short = p.last_short; may_lead = p.may_lead; front_committed = p.front_committed; committed = p.committed; front_saved = p.front_saved; saved = omega (arith, p.saved, p.changed); changed = omega arith },
      record { matched_short = k.matched_short; in_place = (omega (arith, p.front_saved, p.saved), omega (arith, d, p.front_saved, p.saved, p.changed, p.last_short)); hand_short = k.hand_short; received = k.received },
      h.3,
    )

pub ready_kept : (r : Replica) → InRange r → InRange (after_ready r)
ready_kept r h = cond_both (may_give r) (gave_batch r) r InRange (λ _. given_kept r h) (λ _. h)

pub ready_holds : (r : Replica) → Holds r → Holds (after_ready r)
ready_holds r k = cond_both (may_give r) (gave_batch r) r Holds (λ _. (All-nil IsMail, k.0)) (λ _. k)

stabilised_kept : (m : BatchMark) (r : Replica) → InRange r → InRange (stabilised_by m r)
stabilised_kept m r h =
    let p = h.1 in
    (h.0, record { last_short = p.last_short; may_lead = p.may_lead; front_committed = p.front_committed; committed = p.committed; front_saved = omega arith; saved = omega (arith, p.front_saved, p.saved); changed = p.changed }, h.2, h.3)

saved_both : (m : BatchMark) (s : Seat) (r : Replica) → IsSeat s → On AreRanged r → On AreRanged (own_match s (own_vote_by m s (stabilised_by m r)).replica)
saved_both m s r q k = saves_by (words s q) refl m.term m.vote (stabilised_by m r) (stabilised_kept m r k.0, k.1)

pub saved_kept : (m : BatchMark) (s : Seat) (r : Replica) → IsSeat s → InRange r → Holds r → InRange (saved_by m s r).replica
saved_kept m s r q h k =
    let y = (saved_both m s r q (h, k)).0 in
    (y.0, y.1, record { matched_short = y.2.matched_short; in_place = tt; hand_short = y.2.hand_short; received = y.2.received }, y.3)

pub saved_holds : (m : BatchMark) (s : Seat) (r : Replica) → IsSeat s → InRange r → Holds r → Holds (saved_by m s r).replica
saved_holds m s r q h k = ((saved_both m s r q (h, k)).1.0, tt)

-- ---- Saved: the envelopes of the batch go first, and then what is released

released_first : (before : List Envelope) (w : Row) → (released before w).replica ≡ (released [] (quiet w.replica)).replica
released_first before w =
    let yes : Step = record { replica = record w.replica { held = [] }; notes = w.notes; sent = before ++ w.replica.held } in
    let no : Step = record { replica = w.replica; notes = w.notes; sent = before } in
    let bare_yes : Step = record { replica = record w.replica { held = [] }; notes = []; sent = [] ++ w.replica.held } in
    let bare_no : Step = record { replica = w.replica; notes = []; sent = [] } in
    elim (may_release w.replica) as (λ b. let x : Step = if b then yes else no in let y : Step = if b then bare_yes else bare_no in x.replica ≡ y.replica) [ true ↦ refl | false ↦ refl ]

sent_first : (out before : List Envelope) (w : Row) → (out ++ before) ++ (released [] (quiet w.replica)).sent ≡ out ++ (released before w).sent
sent_first out before w =
    let yes : Step = record { replica = record w.replica { held = [] }; notes = w.notes; sent = before ++ w.replica.held } in
    let no : Step = record { replica = w.replica; notes = w.notes; sent = before } in
    let bare_yes : Step = record { replica = record w.replica { held = [] }; notes = []; sent = [] ++ w.replica.held } in
    let bare_no : Step = record { replica = w.replica; notes = []; sent = [] } in
    elim (may_release w.replica) as (λ b. let x : Step = if b then yes else no in let y : Step = if b then bare_yes else bare_no in (out ++ before) ++ y.sent ≡ out ++ x.sent)
    [ true ↦ append_assoc out before w.replica.held | false ↦ append-nil (out ++ before) ]

-- the mark that was read off the pending batch is its mark
mark_is : (pending : Option Pending) (p : Pending) (m : BatchMark) → pending ≡ Some p → option_map (λ p. mark p.batch) pending ≡ Some m → m ≡ mark p.batch
mark_is pending p m e k = sym (ap (λ o. unwrap_or o m) (ap (option_map (λ p. mark p.batch)) (sym e) ∙ k))

pub settled_replica : (s : Seat) (r q : Replica) (p : Pending) (m : BatchMark) → r.pending ≡ Some p → option_map (λ p. mark p.batch) r.pending ≡ Some m
    → q ≡ (released [] (quiet (saved_by m s r).replica)).replica → q ≡ (saved s p r).replica
settled_replica s r q p m e k h =
    h ∙ ap (λ m. (released [] (quiet (saved_by m s r).replica)).replica) (mark_is r.pending p m e k) ∙ sym (released_first p.envelopes (saved_batch s p.batch r))

pub settled_notes : (s : Seat) (r : Replica) (ns : List Note) (p : Pending) (m : BatchMark) → r.pending ≡ Some p → option_map (λ p. mark p.batch) r.pending ≡ Some m
    → ns ≡ (saved_by m s r).notes → ns ≡ (saved s p r).notes
settled_notes s r ns p m e k h =
    let w = saved_batch s p.batch r in
    h ∙ ap (λ m. (saved_by m s r).notes) (mark_is r.pending p m e k) ∙ sym (cond_both (may_release w.replica) (record { replica = record w.replica { held = [] }; notes = w.notes; sent = p.envelopes ++ w.replica.held }) (record { replica = w.replica; notes = w.notes; sent = p.envelopes }) (λ (x : Step). x.notes ≡ w.notes) (λ _. refl) (λ _. refl))

pub settled_sent : (s : Seat) (r : Replica) (out more : List Envelope) (p : Pending) (m : BatchMark) → r.pending ≡ Some p → option_map (λ p. mark p.batch) r.pending ≡ Some m
    → more ≡ (out ++ p.envelopes) ++ (released [] (quiet (saved_by m s r).replica)).sent → more ≡ out ++ (saved s p r).sent
settled_sent s r out more p m e k h =
    h ∙ ap (λ m. (out ++ p.envelopes) ++ (released [] (quiet (saved_by m s r).replica)).sent) (mark_is r.pending p m e k) ∙ sent_first out p.envelopes (saved_batch s p.batch r)
