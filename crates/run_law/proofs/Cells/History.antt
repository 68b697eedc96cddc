-- Entries as a history of proposals.
use Rattle.std.proofs.Common.{◌≡◌, ℕ, List, [], ◌∷◌, ◌++◌, length, map, reverse, refl, sym, ap}
use Rattle.std.proofs.lemmas.List.{map-append, length-map, reverse-append}
use Rattle.std.proofs.Math.Seq.{take-append_seam}
use Rattle.host_ids.specs.declared.entry.Entry.{Entry}
use Rattle.host_ids.specs.declared.proposal.Proposal.{Proposal}
use Rattle.object_model.specs.Sequence.{history, proposals_of}
use Rattle.run_law.specs.Lawful.{placed}

-- the proposals of entries as a history
abbrev pub past : List Entry → List Proposal
past es = reverse (map (λ e. e.proposal) es)

-- entries under their contexts have the same proposals
proposals_placed : (contexts : List (List (List ℕ))) (es : List Entry) → proposals_of (map (placed contexts) es) ≡ map (λ e. e.proposal) es
proposals_placed contexts [] = refl
proposals_placed contexts (e ∷ es) = ap (λ (l : List Proposal). e.proposal ∷ l) (proposals_placed contexts es)

-- the history of the first places is that of their entries
pub past_front : (contexts : List (List (List ℕ))) (front back : List Entry) → history (length front) (proposals_of (map (placed contexts) (front ++ back))) ≡ past front
past_front contexts front back =
    let n : length front ≡ length (map (λ e. e.proposal) front) = sym (length-map front (λ e. e.proposal)) in
    rw (proposals_placed contexts (front ++ back), map-append, n, take-append_seam) refl

-- the history of entries with one more is the proposal of that one, and then their history
pub past_last : (front : List Entry) (e : Entry) → past (front ++ e ∷ []) ≡ e.proposal ∷ past front
past_last front e = rw (map-append, reverse-append) refl
