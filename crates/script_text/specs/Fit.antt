-- What every line of a script keeps to, whatever it says.
use Rattle.std.specs.Prelude.{ℕ, List, Bool, true, ◌-◌, ◌^◌, ◌&&◌, Option, Some, None, nat_le, length}
use Rattle.std.specs.List.{list_all}
use Rattle.host_ids.specs.declared.proposal.TheConstants.{MOST_SERIES}
use Rattle.script_text.specs.declared.script.ScriptLine.{ScriptLine}
use Rattle.script_text.specs.declared.script.ScriptLine.TheVariants as script_lines
use Rattle.host_ids.specs.declared.proposal.TheConstants.{MOST_SESSIONS}
use Rattle.script_text.specs.Script.{is_host_number}

-- a client and a series of at least 1, and a series and a responded value that aren't too great
abbrev pub are_numbers : ℕ → ℕ → ℕ → Bool
are_numbers client series responded = nat_le 1 client && nat_le 1 series && nat_le series MOST_SERIES && nat_le responded MOST_SERIES

-- a command has a byte at least
abbrev pub is_filled : List ℕ → Bool
is_filled text = nat_le 1 (length text)

-- at most 7 hosts
abbrev pub is_fit_roster : List ℕ → Bool
is_fit_roster roster = nat_le (length roster) 7 && list_all is_host_number roster

abbrev pub is_fit_limit : Option ℕ → Bool
is_fit_limit None = true
is_fit_limit (Some limit) = nat_le 1 limit && nat_le limit MOST_SESSIONS

abbrev pub is_fit_line : ScriptLine → Bool
is_fit_line script_lines.Skipped = true
is_fit_line script_lines.End = true
is_fit_line (script_lines.Host host) = is_host_number host
is_fit_line (script_lines.Group group kind roster limit) = is_fit_roster roster && is_fit_limit limit
is_fit_line (script_lines.Event host event) = is_host_number host
is_fit_line (script_lines.Deliver group number) = true
is_fit_line (script_lines.Ask host group context command) = is_host_number host && is_filled command
is_fit_line (script_lines.Read host group context query) = is_host_number host
is_fit_line (script_lines.Stale host group query) = is_host_number host
is_fit_line (script_lines.Register host group context session client) = is_host_number host && nat_le 1 client
is_fit_line (script_lines.Call host context session command) = is_host_number host && is_filled command
is_fit_line (script_lines.Again host context session) = is_host_number host
is_fit_line (script_lines.Completed session) = true
is_fit_line (script_lines.Close host context session) = is_host_number host
is_fit_line (script_lines.Raw host group context client series responded command) = is_host_number host && are_numbers client series responded && is_filled command
is_fit_line (script_lines.Settle group) = true
is_fit_line (script_lines.Lose group) = true
is_fit_line (script_lines.Wire group number) = true
