use Rattle.std.proofs.Common.{sym, ◌∙◌}
use Rattle.script_parts.proofs.Confirming.{note_taken}
use Rattle.script_parts.proofs.requests.Requests.take_notes.Goals as goal

pub loop-note-preserved : goal.loop-note-preserved
loop-note-preserved c =
    rw c.in_ok-take_note.ensures (sym (note_taken c.args.notes.now c.loop-note.note-index c.loop-note.self c.loop-note-test.true) ∙ c.loop-note.invariant)
