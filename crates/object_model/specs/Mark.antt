-- What the marks of a group's output say. Source: this project's own.
use Rattle.std.specs.Prelude.{ℕ, List, [], ◌∷◌, Option, Some, None}
use Rattle.std.specs.List.{flat_map}
use Rattle.object_model.specs.declared.mark.Mark.{Mark}
use Rattle.object_model.specs.declared.mark.Mark.TheVariants as marks
use Rattle.object_model.specs.declared.mark.Placed.{Placed}

-- the context that a mark asks under
abbrev pub asked_context : Mark → Option (List ℕ)
asked_context (marks.Asks context what) = Some context
asked_context (marks.Ends context place ending) = None
asked_context (marks.Leaves context) = None
asked_context (marks.Reads context front answer) = None
asked_context (marks.Stales front query answer) = None
asked_context (marks.Tells number) = None
asked_context (marks.Shows place placed) = None

-- the context whose request a mark ends
abbrev pub ended_context : Mark → Option (List ℕ)
ended_context (marks.Asks context what) = None
ended_context (marks.Ends context place ending) = Some context
ended_context (marks.Leaves context) = Some context
ended_context (marks.Reads context front answer) = Some context
ended_context (marks.Stales front query answer) = None
ended_context (marks.Tells number) = None
ended_context (marks.Shows place placed) = None

-- the place that an ending names
abbrev pub named_place : Mark → Option ℕ
named_place (marks.Asks context what) = None
named_place (marks.Ends context place ending) = Some place
named_place (marks.Leaves context) = None
named_place (marks.Reads context front answer) = None
named_place (marks.Stales front query answer) = None
named_place (marks.Tells number) = None
named_place (marks.Shows place placed) = None

-- the number that a mark tells: a place, a front or an index
abbrev pub told_number : Mark → Option ℕ
told_number (marks.Asks context what) = None
told_number (marks.Ends context place ending) = Some place
told_number (marks.Leaves context) = None
told_number (marks.Reads context front answer) = Some front
told_number (marks.Stales front query answer) = Some front
told_number (marks.Tells number) = Some number
told_number (marks.Shows place placed) = None

-- the entry that a mark shows
abbrev pub shown_entry : Mark → List Placed
shown_entry (marks.Asks context what) = []
shown_entry (marks.Ends context place ending) = []
shown_entry (marks.Leaves context) = []
shown_entry (marks.Reads context front answer) = []
shown_entry (marks.Stales front query answer) = []
shown_entry (marks.Tells number) = []
shown_entry (marks.Shows place placed) = placed ∷ []

-- the printed entries: the list of proposals that an output is judged by
abbrev pub entries : List Mark → List Placed
entries ms = flat_map shown_entry ms
