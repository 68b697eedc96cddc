-- A list of proposals that is followed step by step, as the plain program does. Source: this project's own.
use Rattle.std.specs.Prelude.{◌≡◌, ℕ, List, [], ◌∷◌, Option, None, map, reverse}
use Rattle.host_ids.specs.declared.proposal.Proposal.{Proposal}
use Rattle.object_model.specs.declared.course.CourseStep.{CourseStep}
use Rattle.object_model.specs.Object.{Pairs}
use Rattle.object_model.specs.Sequence.{standing, raised, raised_by, found_by, state, after_all}

-- the limit of sessions, and the proposals so far, the newest first
pub record Course : Type 0 where
  pub limit : ℕ
  pub history : List Proposal

-- the history that steps make
abbrev pub history_of : List CourseStep → List Proposal
history_of steps = reverse (map (λ s. s.proposal) steps)

-- the responded value of a client after these steps, where it was so much before
abbrev pub raised_on : ℕ → ℕ → List CourseStep → ℕ
raised_on client value [] = value
raised_on client value (s ∷ steps) = raised_on client (raised_by client s.proposal s.stood value) steps

-- what a client's series was replied after these steps, where it was this before
abbrev pub found_on : ℕ → ℕ → Option (List ℕ) → List CourseStep → Option (List ℕ)
found_on client series found [] = found
found_on client series found (s ∷ steps) = found_on client series (found_by client series s.proposal s.acts s.reply found) steps

-- what is kept of a history is what the definitions say of it
pub record Follows (limit : ℕ) (steps : List CourseStep) (clients : List ℕ) (pairs : Pairs) : Type 0 where
  pub clients_are : clients ≡ standing limit (history_of steps)
  pub pairs_are : pairs ≡ state limit (history_of steps)
  pub raised_is : (client : ℕ) → raised_on client 0 steps ≡ raised limit client (history_of steps)
  pub found_is : (client series : ℕ) → found_on client series None steps ≡ (after_all limit (history_of steps)).found client series
