-- What the sessions ask of their numbers.
use Rattle.std.specs.Prelude.{ℕ, List, Bool, true, ◌&&◌, Option, Some, None}
use Rattle.std.specs.List.{list_all}
use Rattle.wire_types.specs.Grammar.{is_command, are_fit_numbers}
use Rattle.run_model.specs.declared.client.ClientSession.{ClientSession}

abbrev pub is_fit_outstanding : Option (List ℕ) → Bool
is_fit_outstanding None = true
is_fit_outstanding (Some command) = is_command command

abbrev pub is_fit_client : ClientSession → Bool
is_fit_client s = are_fit_numbers s.client s.series s.responded && is_fit_outstanding s.outstanding

abbrev pub are_fit_clients : List (List ℕ × ClientSession) → Bool
are_fit_clients es = list_all (λ e. is_fit_client e.1) es
