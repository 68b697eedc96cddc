use Rattle.std.proofs.Common.{◌≡◌, ◌++◌, take}
use Rattle.std.specs.List.{flat_map}
use Rattle.run_model.specs.Run.{note_told}
use Rattle.script_parts.proofs.notes.tell_notes.Given as goal

abbrev pub invariant-loop-note : goal.invariant-loop-note
invariant-loop-note l = l.out ≡ l.initial.out ++ flat_map note_told (take l.note-index l.notes)
