-- What stands at a place, in the words of the definitions.
use Rattle.std.proofs.Common.{◌≡◌, ◌≢◌, ℕ, ◌-◌, List, Bool, true, false, Option, Some, None, cond, take, reverse, refl, sym, ap, ◌∙◌, ◌==◌, length, Bor}
use Rattle.std.specs.Prelude.{slice_get, Result, Ok, Err, IfOk}
use Rattle.std.specs.Slice.{IsItemAt}
use Rattle.std.proofs.lemmas.List.{take-map}
use Rattle.std.proofs.lemmas.Option.{slice_get_read}
use Rattle.std.proofs.lemmas.Bool.Decides.{eqb_tells}
use Rattle.std.proofs.Common.{⊎_elim}
use Rattle.host_ids.specs.declared.proposal.Proposal.{Proposal}
use Rattle.host_ids.specs.declared.verdict.Verdict.{Verdict}
use Rattle.object_model.specs.declared.mark.Ending.{Ending}
use Rattle.object_model.specs.declared.mark.Placed.{Placed}
use Rattle.object_model.specs.Object.{answer}
use Rattle.object_model.specs.Sequence.{verdict, state, verdict_at, verdict_next, reply_at, reply_next, reply_by, history, place_of, answer_at, ending_at, ending_next, ending_by, proposals_of}

placed_by : (list : List Proposal) (place : ℕ) (p : Proposal) (b : Bool) → b ≡ false → slice_get list (place - 1) ≡ Some p → cond b None (slice_get list (place - 1)) ≡ Some p
placed_by list place p true e h = absurd cc
placed_by list place p false e h = h

place_there : (list : List Proposal) (place : ℕ) (p : Proposal) → place ≢ 0 → slice_get list (place - 1) ≡ Some p → place_of list place ≡ Some p
place_there list place p n h = placed_by list place p (place == 0) (⊎_elim (λ e. absurd (n e.1)) (λ e. e.0) (eqb_tells place 0)) h

pub verdict_there : (limit place : ℕ) (list h : List Proposal) (l : ℕ) (p : Proposal) (v : Verdict) → place ≢ 0 → slice_get list (place - 1) ≡ Some p → l ≡ limit → h ≡ reverse (take (place - 1) list) → v ≡ verdict l h p
    → Some v ≡ verdict_at limit list place
verdict_there limit place list h l p v n s e k g =
    let there = place_there list place p n s in
    sym (ap (verdict_next limit (history (place - 1) list)) there ∙ ap (λ (x : Verdict). Some x) (sym (rw (e, k) at g)))

pub reply_there : (limit place : ℕ) (list h : List Proposal) (l : ℕ) (p : Proposal) (r : Option (List ℕ)) → place ≢ 0 → slice_get list (place - 1) ≡ Some p → l ≡ limit → h ≡ reverse (take (place - 1) list)
    → r ≡ reply_by (verdict l h p) p (state l h) → r ≡ reply_at limit list place
reply_there limit place list h l p r n s e k g =
    let there = place_there list place p n s in
    (rw (e, k) at g) ∙ sym (ap (reply_next limit (history (place - 1) list)) there)

pub ending_there : (limit place beyond : ℕ) (list : List Placed) (h : List Proposal) (l : ℕ) (e : Placed) (r : Option Ending) → beyond ≡ place - 1 → slice_get list beyond ≡ Some e → l ≡ limit → h ≡ reverse (proposals_of (take beyond list))
    → r ≡ ending_by (verdict l h e.proposal) e.proposal (state l h) → r ≡ ending_at limit list place
ending_there limit place beyond list h l e r b s q k g =
    let same : h ≡ history beyond (proposals_of list) = k ∙ ap (λ (x : List Proposal). reverse x) (sym (take-map (λ (x : Placed). x.proposal) beyond list)) in
    let here : r ≡ ending_next limit (history beyond (proposals_of list)) (slice_get list beyond) = (rw (q, same) at g) ∙ sym (ap (ending_next limit (history beyond (proposals_of list))) s) in
    here ∙ ap (λ (n : ℕ). ending_next limit (history n (proposals_of list)) (slice_get list n)) b

-- what a look-up by index found
pub found_there : {X : Type 0} (xs : List X) (i : ℕ) (x : Bor X) → IsItemAt xs i (Some x) → slice_get xs i ≡ Some x.now
found_there xs i x h = slice_get_read xs (length xs) i x.now refl h.3.0 (h.3.1 x.now)

pub answer_there : (limit front : ℕ) (list : List Placed) (h : List Proposal) (l : ℕ) (query found : List ℕ) → l ≡ limit → h ≡ reverse (proposals_of (take front list)) → found ≡ answer (state l h) query → found ≡ answer_at limit list front query
answer_there limit front list h l query found q k g =
    let same : h ≡ history front (proposals_of list) = k ∙ ap (λ (x : List Proposal). reverse x) (sym (take-map (λ (x : Placed). x.proposal) front list)) in
    rw (q, same) at g

-- what holds where a fact holds, of the value in an `Ok`
pub ok_map : {T E : Type 0} (P Q : T → Type 0) (r : Result T E) → IfOk r P → ((x : T) → P x → Q x) → IfOk r Q
ok_map P Q (Ok x) h f = f x h
ok_map P Q (Err e) h f = tt
