-- Two worked outputs as marks: eviction by the last touch, and responded values.
use Rattle.std.specs.Prelude.{ℕ, List, [], ◌∷◌, ◌++◌, codes, map}
use Rattle.host_ids.specs.declared.proposal.Proposal.{Proposal}
use Rattle.host_ids.specs.declared.proposal.Proposal.TheVariants.{Blank, Session, Register}
use Rattle.object_model.specs.declared.mark.What.TheVariants as whats
use Rattle.object_model.specs.declared.mark.Ending.TheVariants.{Done, Rejected, Responded, Registered}
use Rattle.object_model.specs.declared.mark.Placed.{Placed}
use Rattle.object_model.specs.declared.mark.Mark.{Mark}
use Rattle.object_model.specs.declared.mark.Mark.TheVariants as marks
use Rattle.object_model.specs.Desk.{shown}

-- a proposal that is asked under a context
abbrev pub placed : List ℕ → Proposal → Placed
placed context proposal = record { context = context; proposal = proposal }

abbrev pub asks : Placed → Mark
asks e = marks.Asks e.context (whats.Proposes e.proposal)

-- the first entry is a blank, and the others are what was asked
abbrev pub shows_all : List Placed → List Mark
shows_all asked = shown (placed (codes "-") Blank ∷ asked)

-- a limit of two sessions: the repeat at place 6 touches client 11, so the register at place 7 evicts client 22
abbrev pub evicting_asked : List Placed
evicting_asked =
    placed (codes "r1") (Register 11)
    ∷ placed (codes "r2") (Register 22)
    ∷ placed (codes "a") (Session 11 1 0 (codes "put x 1"))
    ∷ placed (codes "b") (Session 22 1 0 (codes "put x 2"))
    ∷ placed (codes "c") (Session 11 1 0 (codes "put x 1"))
    ∷ placed (codes "r3") (Register 33)
    ∷ placed (codes "d") (Session 22 1 0 (codes "put x 2"))
    ∷ placed (codes "e") (Session 11 1 0 (codes "put x 1"))
    ∷ []

abbrev pub evicting_ended : List Mark
evicting_ended =
    marks.Ends (codes "r1") 2 Registered
    ∷ marks.Ends (codes "r2") 3 Registered
    ∷ marks.Ends (codes "a") 4 (Done (codes "-"))
    ∷ marks.Ends (codes "b") 5 (Done (codes "1"))
    ∷ marks.Ends (codes "c") 6 (Done (codes "-"))
    ∷ marks.Ends (codes "r3") 7 Registered
    ∷ marks.Ends (codes "d") 8 Rejected
    ∷ marks.Ends (codes "e") 9 (Done (codes "-"))
    ∷ []

abbrev pub evicting : List Mark
evicting = map asks evicting_asked ++ evicting_ended ++ shows_all evicting_asked

-- responded values, and the greatest series of a command
abbrev pub responding_asked : List Placed
responding_asked =
    placed (codes "r") (Register 5)
    ∷ placed (codes "a") (Session 5 1 0 (codes "add n 1"))
    ∷ placed (codes "b") (Session 5 2 1 (codes "add n 1"))
    ∷ placed (codes "c") (Session 5 1 0 (codes "add n 1"))
    ∷ placed (codes "d") (Session 5 3 9 (codes "add n 1"))
    ∷ placed (codes "e") (Session 5 9 0 (codes "add n 1"))
    ∷ placed (codes "f") (Session 5 18446744073709551613 0 (codes "add n 1"))
    ∷ []

abbrev pub responding_ended : List Mark
responding_ended =
    marks.Ends (codes "r") 2 Registered
    ∷ marks.Ends (codes "a") 3 (Done (codes "1"))
    ∷ marks.Ends (codes "b") 4 (Done (codes "2"))
    ∷ marks.Ends (codes "c") 5 Responded
    ∷ marks.Ends (codes "d") 6 Responded
    ∷ marks.Ends (codes "e") 7 Responded
    ∷ marks.Ends (codes "f") 8 (Done (codes "3"))
    ∷ []

abbrev pub responding : List Mark
responding = map asks responding_asked ++ responding_ended ++ shows_all responding_asked
