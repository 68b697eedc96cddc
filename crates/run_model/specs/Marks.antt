-- What the lines of an output say of a group, read off the lines alone. Source: this project's own.
use Rattle.std.specs.Prelude.{ℕ, ◌==◌, List, [], ◌∷◌, if◌then◌else◌}
use Rattle.std.specs.List.{flat_map}
use Rattle.object_model.specs.declared.mark.What.TheVariants as whats
use Rattle.object_model.specs.declared.mark.Mark.{Mark}
use Rattle.object_model.specs.declared.mark.Mark.TheVariants as marks
use Rattle.script_text.specs.declared.line.Line.{Line}
use Rattle.script_text.specs.declared.line.Line.TheVariants as lines
use Rattle.script_text.specs.declared.told.Told.{Told}

abbrev pub of_group : ℕ → ℕ → Mark → List Mark
of_group wanted group mark = if group == wanted then mark ∷ [] else []

abbrev pub line_marks : ℕ → List ℕ → Line → List Mark
line_marks g context (lines.Started host start) = []
line_marks g context (lines.Leader host group term) = []
line_marks g context lines.Idle = []
line_marks g context (lines.Refused number) = []
line_marks g context (lines.Ask key group proposal) = of_group g group (marks.Asks context (whats.Proposes proposal))
line_marks g context (lines.AskRead key group query) = of_group g group (marks.Asks context (whats.Queries query))
line_marks g context (lines.Ended key group place ending) = of_group g group (marks.Ends context place ending)
line_marks g context (lines.Read key group front answer) = of_group g group (marks.Reads context front answer)
line_marks g context (lines.Stale host group front query answer) = of_group g group (marks.Stales front query answer)
line_marks g context (lines.Dropped key group) = of_group g group (marks.Leaves context)
line_marks g context (lines.Wire group number from to kind term) = []
line_marks g context (lines.Entry group entry) = of_group g group (marks.Shows entry.index (record { context = context; proposal = entry.proposal }))
line_marks g context (lines.Reached limit) = []
line_marks g context lines.Usage = []
line_marks g context (lines.BadLine line) = []
line_marks g context lines.End = []

-- the marks of a group in an output
abbrev pub marks_of : ℕ → List Told → List Mark
marks_of g told = flat_map (λ t. line_marks g t.context t.line) told
