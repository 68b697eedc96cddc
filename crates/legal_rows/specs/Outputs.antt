-- A worked output as marks, and the same output spoiled in one thing each. Source: this project's own.
use Rattle.std.specs.Prelude.{ℕ, List, [], ◌∷◌, ◌++◌, codes}
use Rattle.host_ids.specs.declared.proposal.Proposal.{Proposal}
use Rattle.host_ids.specs.declared.proposal.Proposal.TheVariants.{Blank, Plain}
use Rattle.object_model.specs.declared.mark.What.TheVariants.{Proposes, Queries}
use Rattle.object_model.specs.declared.mark.Ending.TheVariants.{Done}
use Rattle.object_model.specs.declared.mark.Mark.{Mark}
use Rattle.object_model.specs.declared.mark.Mark.TheVariants.{Asks, Ends, Leaves, Reads, Shows}

-- the command that `a` asks for
abbrev pub put : Proposal
put = Plain (codes "put x 5")

-- `a` asks for its command
abbrev pub ask : Mark
ask = Asks (codes "a") (Proposes put)

-- the command of `a` is done at place 2, and its reply says that the key had no value
abbrev pub done : Mark
done = Ends (codes "a") 2 (Done (codes "-"))

-- `b` asks to read the key
abbrev pub ask_read : Mark
ask_read = Asks (codes "b") (Queries (codes "get x"))

-- the read of `b` is answered after the first 2 places
abbrev pub read : Mark
read = Reads (codes "b") 2 (codes "5")

-- the entries at the end, with these numbers: a blank, and the command of `a`
abbrev pub shown_as : ℕ → ℕ → List Mark
shown_as first second = Shows first (record { context = codes "-"; proposal = Blank }) ∷ Shows second (record { context = codes "a"; proposal = put }) ∷ []

-- the entries at the end, as they are numbered
abbrev pub shown : List Mark
shown = shown_as 1 2

-- a command and a read, one after the other
abbrev pub worked : List Mark
worked = ask ∷ done ∷ ask_read ∷ read ∷ shown

-- the request of `a`, which is done, ends again: it is dropped
abbrev pub second_ending : List Mark
second_ending = ask ∷ done ∷ Leaves (codes "a") ∷ ask_read ∷ read ∷ shown

-- the command of `a` is done before anything was asked under `a`
abbrev pub unasked_ending : List Mark
unasked_ending = done ∷ ask ∷ ask_read ∷ read ∷ shown

-- the reply of `a` is the value that its own command puts
abbrev pub other_reply : List Mark
other_reply = ask ∷ Ends (codes "a") 2 (Done (codes "5")) ∷ ask_read ∷ read ∷ shown

-- a third entry is shown, for which nobody asked
abbrev pub unasked_entry : List Mark
unasked_entry = ask ∷ done ∷ ask_read ∷ read ∷ shown ++ Shows 3 (record { context = codes "c"; proposal = Plain (codes "put x 6") }) ∷ []

-- the read of `b` has the answer after place 1, but place 2 was told before `b` asked
abbrev pub read_below_told : List Mark
read_below_told = ask ∷ done ∷ ask_read ∷ Reads (codes "b") 1 (codes "-") ∷ shown

-- the second entry is numbered 7
abbrev pub skipped_number : List Mark
skipped_number = ask ∷ done ∷ ask_read ∷ read ∷ shown_as 1 7

-- the numbers begin at 2
abbrev pub late_number : List Mark
late_number = ask ∷ done ∷ ask_read ∷ read ∷ shown_as 2 3

-- both entries are numbered 1
abbrev pub repeated_number : List Mark
repeated_number = ask ∷ done ∷ ask_read ∷ read ∷ shown_as 1 1
