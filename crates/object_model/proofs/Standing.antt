-- The standing clients, from the list's front on.
use Rattle.std.proofs.Common.{◌≡◌, ℕ, List, [], ◌∷◌, refl}
use mathlib.Core.List.{reverse_aux}
use Rattle.host_ids.specs.declared.proposal.Proposal.{Proposal}
use Rattle.object_model.specs.Sequence.{standing}
use Rattle.object_model.specs.Laws.{standing_from, StandsFromFront}

-- from the standing clients of a history on
from_back : (limit : ℕ) (list older : List Proposal) → standing limit (reverse_aux list older) ≡ standing_from limit (standing limit older) list
unfolding standing
from_back limit [] older = refl
from_back limit (p ∷ list) older = from_back limit list (p ∷ older)

pub stands_from_front : StandsFromFront
unfolding standing
stands_from_front limit list = from_back limit list []
