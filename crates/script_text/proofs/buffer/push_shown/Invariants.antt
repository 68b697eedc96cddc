use Rattle.std.proofs.Common.{◌≡◌, ◌++◌, take}
use Rattle.script_text.specs.Print.{shown_text}
use Rattle.script_text.proofs.buffer.push_shown.Given as goal

abbrev pub invariant-loop-byte : goal.invariant-loop-byte
invariant-loop-byte l = l.held.items ≡ l.initial.held.items ++ shown_text (take l.byte-index l.bytes)
