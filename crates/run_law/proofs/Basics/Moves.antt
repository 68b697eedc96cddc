-- Moves of a desk, one after another.
use Rattle.std.proofs.Common.{◌≡◌, ℕ, List, [], ◌∷◌, ◌++◌, refl, append-nil}
use Rattle.std.proofs.lemmas.Grind.{flat_map-append}
use Rattle.object_model.specs.declared.mark.Mark.{Mark}
use Rattle.object_model.specs.Desk.{Request, Desk, Grows, Move, Moves}
use Rattle.script_text.specs.declared.told.Told.{Told}
use Rattle.run_model.specs.Marks.{marks_of}

-- a desk grows into itself, by nothing
pub stays : (d : Desk) → Grows d d
stays d = record { more = []; may = tt; becomes = rw append-nil refl }

-- a desk that grows moves without marks
pub growth_moves : (limit : ℕ) (d e : Desk) → Grows d e → Moves limit d [] e
unfolding Moves
growth_moves limit d e g = g

-- without marks a desk moves to itself
pub nothing_moves : (limit : ℕ) (d : Desk) → Moves limit d [] d
nothing_moves limit d = growth_moves limit d d (stays d)

-- the same desk, with its open requests written otherwise
pub same_moves : (limit : ℕ) (d : Desk) (rs : List Request) → d.open_ones ≡ rs → Moves limit d [] (record d { open_ones = rs })
same_moves limit d rs e = rw (← e) (nothing_moves limit d)

-- a move, and then moves, are moves by the mark of the first and then by the others
pub next_moves : (limit : ℕ) (d e f : Desk) (m : Mark) (ms : List Mark) → Move limit d m e → Moves limit e ms f → Moves limit d (m ∷ ms) f
unfolding Moves
next_moves limit d e f m ms h k = (d, e, stays d, h, k)

-- one move is moves by its mark alone
pub one_moves : (limit : ℕ) (d e : Desk) (m : Mark) → Move limit d m e → Moves limit d (m ∷ []) e
one_moves limit d e m h = next_moves limit d e e m [] h (nothing_moves limit e)

-- lines joined have the marks of the first, and then of the second
pub marks_of-append : (g : ℕ) (a b : List Told) → marks_of g (a ++ b) ≡ marks_of g a ++ marks_of g b
marks_of-append g a b = flat_map-append _ a b
