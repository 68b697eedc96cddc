use Rattle.std.proofs.Common.{◌≡◌, drop}
use Rattle.run_model.specs.Run.{confirmed}
use Rattle.script_parts.proofs.requests.Requests.take_notes.Given as goal

abbrev pub invariant-loop-note : goal.invariant-loop-note
invariant-loop-note l = confirmed (drop l.note-index l.notes) l.self ≡ confirmed l.notes l.initial.self
