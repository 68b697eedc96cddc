-- No command is read of an empty text.
use Rattle.std.proofs.Common.{◌≡◌, ◌≤◌, ℕ, List, [], ◌∷◌, true, length, arith}
use Rattle.std.specs.Prelude.{is_some}
use Rattle.std.proofs.lemmas.Bool.Decides.{nat_tests}
use Rattle.object_model.specs.Command.{command_of}
use Rattle.script_text.specs.Fit.{is_filled}

pub filled_command : (text : List ℕ) → is_some (command_of text) ≡ true → is_filled text ≡ true
unfolding command_of
filled_command [] h = absurd (cc h)
filled_command (b ∷ bs) h = let some : 1 ≤ length (b ∷ bs) = omega arith in grind (arith, nat_tests)
