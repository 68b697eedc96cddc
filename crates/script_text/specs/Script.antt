-- The lines of a script, and what each is as bytes. Source: this project's own.
use Rattle.std.specs.Prelude.{ℕ, ◌-◌, ◌^◌, ◌∷◌, [], List, ◌==◌, ◌&&◌, ◌||◌, Bool, true, false, Option, Some, None, codes, bytes_eq, nat_lt, nat_le, length, if◌then◌else◌}
use Rattle.std.specs.List.{slice_split}
use Rattle.std.specs.Option.{is_some, option_map}
use Rattle.host_ids.specs.declared.kind.Kind.TheVariants as machines
use Rattle.host_ids.specs.declared.proposal.TheConstants.{MOST_SERIES}
use Rattle.script_text.specs.declared.script.ScriptLine.{ScriptLine}
use Rattle.script_text.specs.declared.script.ScriptLine.TheVariants as script_lines
use Rattle.script_text.specs.declared.script.HostEvent.{HostEvent}
use Rattle.script_text.specs.declared.script.HostEvent.TheVariants as host_events
use Rattle.script_text.specs.declared.limit.TheConstants.{MOST_APPLIED, MOST_LINE}
use Rattle.host_ids.specs.declared.proposal.TheConstants.{MOST_SESSIONS}
use Rattle.object_model.specs.Words.{words_of, word, begins, is_name, number_of}
use Rattle.object_model.specs.Command.{command_of, query_of, most_number}

-- a host has a number from 1 to 9
abbrev pub is_host_number : ℕ → Bool
is_host_number host = nat_le 1 host && nat_le host 9

-- the word at a place is this
abbrev pub says : List (List ℕ) → ℕ → List ℕ → Bool
says words place text = bytes_eq (word words place) text

-- the one group is named at a place
abbrev pub is_group : List (List ℕ) → ℕ → Bool
is_group words place = says words place (codes "1")

-- what stands after the first space
abbrev pub after_space : List ℕ → List ℕ
after_space [] = []
after_space (c ∷ cs) = if c == 32 then cs else after_space cs

-- what stands after a line's first three words
abbrev pub after_three : List ℕ → List ℕ
after_three line = after_space (after_space (after_space line))

-- what stands after a line's first four words
abbrev pub after_four : List ℕ → List ℕ
after_four line = after_space (after_three line)

-- what stands after a line's first seven words
abbrev pub after_seven : List ℕ → List ℕ
after_seven line = after_space (after_space (after_space (after_four line)))

abbrev pub if_so : Bool → ScriptLine → Option ScriptLine
if_so b line = if b then Some line else None

-- a number of at least 1
abbrev pub positive : Option ℕ → Option ℕ
positive None = None
positive (Some n) = if n == 0 then None else Some n

-- what a number says, where there is one
abbrev pub by_number : Option ℕ → (ℕ → Option ScriptLine) → Option ScriptLine
by_number None said = None
by_number (Some n) said = said n

-- a host, 1 to 9, at a place of the words
abbrev pub host_at : List (List ℕ) → ℕ → Option ℕ
host_at words place = positive (number_of 9 (word words place))

-- ---- hosts and groups

-- `host H`
abbrev pub host_line : List (List ℕ) → Option ScriptLine
host_line words = by_number (host_at words 1) (λ host. Some (script_lines.Host host))

-- a number that is greater than the last one
abbrev pub above : ℕ → Option ℕ → Option ℕ
above low None = None
above low (Some n) = if nat_lt low n then Some n else None

-- the host after the last one, 1 to 9, that a text is
abbrev pub next_host : ℕ → List ℕ → Option ℕ
next_host low text = above low (number_of 9 text)

-- a host, and those after it
abbrev pub host_before : Option ℕ → (ℕ → Option (List ℕ)) → Option (List ℕ)
host_before None more = None
host_before (Some host) more = option_map (λ hosts. host ∷ hosts) (more host)

-- texts that are hosts, each greater than the last one
abbrev pub ascending : ℕ → List (List ℕ) → Option (List ℕ)
ascending low [] = Some []
ascending low (text ∷ texts) = host_before (next_host low text) (λ host. ascending host texts)

-- the voters of a group, 1 to 7
abbrev pub few_of : Option (List ℕ) → Option (List ℕ)
few_of None = None
few_of (Some hosts) = if nat_le (length hosts) 7 then Some hosts else None

-- hosts between commas, ascending
abbrev pub roster_of : List ℕ → Option (List ℕ)
roster_of text = few_of (ascending 0 (slice_split (λ b. b == 44) text))

abbrev pub group_by : Option (List ℕ) → Option ℕ → Option ScriptLine
group_by None limit = None
group_by (Some roster) limit = Some (script_lines.Group 1 machines.Regular roster limit)

-- `group 1 regular R`, or `group 1 regular R LIMIT`
abbrev pub group_line : List (List ℕ) → Option ScriptLine
group_line words =
    if is_group words 1 && says words 2 (codes "regular") then
    (if length words == 4 then group_by (roster_of (word words 3)) None
    else (if length words == 5 then by_number (positive (number_of MOST_SESSIONS (word words 4))) (λ limit. group_by (roster_of (word words 3)) (Some limit))
    else None))
    else None

-- ---- requests

-- `ask H 1 CTX COMMAND`
abbrev pub ask_line : ℕ → List (List ℕ) → List ℕ → Option ScriptLine
ask_line host words text = if_so (is_name (word words 3) 16 && is_some (command_of text)) (script_lines.Ask host 1 (word words 3) text)

-- `read H 1 CTX QUERY`
abbrev pub read_request : ℕ → List (List ℕ) → List ℕ → Option ScriptLine
read_request host words text = if_so (is_name (word words 3) 16 && is_some (query_of text)) (script_lines.Read host 1 (word words 3) text)

-- `stale H 1 QUERY`
abbrev pub stale_line : ℕ → List ℕ → Option ScriptLine
stale_line host text = if_so (is_some (query_of text)) (script_lines.Stale host 1 text)

-- a name of a context or of a session
abbrev pub is_named : List (List ℕ) → ℕ → Bool
is_named words place = is_name (word words place) 16

-- `register H 1 CTX S C`
abbrev pub register_line : ℕ → List (List ℕ) → Option ScriptLine
register_line host words =
    if is_named words 3 && is_named words 4
    then by_number (positive (number_of most_number (word words 5))) (λ client. Some (script_lines.Register host 1 (word words 3) (word words 4) client))
    else None

-- the numbers of a `raw` line: a client and a series of at least 1, and a responded value
abbrev pub raw_by : ℕ → List (List ℕ) → List ℕ → Option ℕ → Option ℕ → Option ℕ → Option ScriptLine
raw_by host words text None series responded = None
raw_by host words text (Some client) None responded = None
raw_by host words text (Some client) (Some series) None = None
raw_by host words text (Some client) (Some series) (Some responded) = if (client == 0) || (series == 0) then None else Some (script_lines.Raw host 1 (word words 3) client series responded text)

-- `raw H 1 CTX C SERIES RESPONDED COMMAND`
abbrev pub raw_line : ℕ → List (List ℕ) → List ℕ → Option ScriptLine
raw_line host words text =
    if is_named words 3 && is_some (command_of text)
    then raw_by host words text (number_of most_number (word words 4)) (number_of MOST_SERIES (word words 5)) (number_of MOST_SERIES (word words 6))
    else None

-- `call H CTX S COMMAND`
abbrev pub call_line : ℕ → List (List ℕ) → List ℕ → Option ScriptLine
call_line host words text = if_so (is_named words 2 && is_named words 3 && is_some (command_of text)) (script_lines.Call host (word words 2) (word words 3) text)

-- `again H CTX S`
abbrev pub again_line : ℕ → List (List ℕ) → Option ScriptLine
again_line host words = if_so (is_named words 2 && is_named words 3) (script_lines.Again host (word words 2) (word words 3))

-- `close H CTX S`
abbrev pub close_line : ℕ → List (List ℕ) → Option ScriptLine
close_line host words = if_so (is_named words 2 && is_named words 3) (script_lines.Close host (word words 2) (word words 3))

-- `completed S`
abbrev pub completed_line : List (List ℕ) → Option ScriptLine
completed_line words = if_so (is_named words 1) (script_lines.Completed (word words 1))

-- ---- events

-- the event that a line of three words names
abbrev pub event_of : List (List ℕ) → Option HostEvent
event_of words =
    if says words 0 (codes "timeout") then Some (host_events.Timeout 1)
    else (if says words 0 (codes "beat") then Some (host_events.Beat 1)
    else (if says words 0 (codes "ready") then Some (host_events.Ready 1)
    else (if says words 0 (codes "save") then Some (host_events.Save 1)
    else None)))

abbrev pub event_by : ℕ → Option HostEvent → Option ScriptLine
event_by host None = None
event_by host (Some event) = Some (script_lines.Event host event)

-- `apply H 1 N`
abbrev pub apply_line : ℕ → List (List ℕ) → Option ScriptLine
apply_line host words = by_number (positive (number_of MOST_APPLIED (word words 3))) (λ most. Some (script_lines.Event host (host_events.Apply 1 most)))

-- `timeout H 1`, `beat H 1`, `ready H 1`, `save H 1`, `apply H 1 N`
abbrev pub event_line : ℕ → List (List ℕ) → Option ScriptLine
event_line host words =
    if length words == 3 then event_by host (event_of words)
    else (if begins words 4 (codes "apply") then apply_line host words
    else None)

-- `deliver 1 K`
abbrev pub deliver_line : List (List ℕ) → Option ScriptLine
deliver_line words = by_number (number_of most_number (word words 2)) (λ number. Some (script_lines.Deliver 1 number))

-- `wire 1 K`
abbrev pub wire_line : List (List ℕ) → Option ScriptLine
wire_line words = by_number (number_of most_number (word words 2)) (λ number. Some (script_lines.Wire 1 number))

-- ---- lines by their verbs

-- lines that name a host and the group
abbrev pub replica_line : ℕ → List (List ℕ) → List ℕ → Option ScriptLine
replica_line host words line =
    if says words 0 (codes "ask") then ask_line host words (after_four line)
    else (if says words 0 (codes "read") then read_request host words (after_four line)
    else (if says words 0 (codes "stale") then stale_line host (after_three line)
    else (if begins words 6 (codes "register") then register_line host words
    else (if says words 0 (codes "raw") then raw_line host words (after_seven line)
    else event_line host words))))

-- `call`, `again` and `close`, which name a host and a session
abbrev pub session_line : ℕ → List (List ℕ) → List ℕ → Option ScriptLine
session_line host words line =
    if says words 0 (codes "call") then call_line host words (after_four line)
    else (if begins words 4 (codes "again") then again_line host words
    else (if begins words 4 (codes "close") then close_line host words
    else None))

-- the verbs that name a session come first, since what stands after them may look like a group
abbrev pub is_session_verb : List (List ℕ) → Bool
is_session_verb words = says words 0 (codes "call") || says words 0 (codes "again") || says words 0 (codes "close")

-- lines that name a host first
abbrev pub line_at : ℕ → List (List ℕ) → List ℕ → Option ScriptLine
line_at host words line =
    if is_session_verb words then session_line host words line
    else (if is_group words 2 then replica_line host words line
    else None)

-- lines that name the group alone
abbrev pub wire_lines : List (List ℕ) → Option ScriptLine
wire_lines words =
    if begins words 2 (codes "settle") then Some (script_lines.Settle 1)
    else (if begins words 2 (codes "lose") then Some (script_lines.Lose 1)
    else (if begins words 3 (codes "deliver") then deliver_line words
    else (if begins words 3 (codes "wire") then wire_line words
    else None)))

-- verbs after which no host and group stand
abbrev pub is_wire_verb : List (List ℕ) → Bool
is_wire_verb words = says words 0 (codes "settle") || says words 0 (codes "lose") || says words 0 (codes "deliver") || says words 0 (codes "wire")

-- a line by its words
abbrev pub said_in : List (List ℕ) → List ℕ → Option ScriptLine
said_in words line =
    if begins words 2 (codes "host") then host_line words
    else (if says words 0 (codes "group") then group_line words
    else (if begins words 2 (codes "completed") then completed_line words
    else (if is_wire_verb words then (if is_group words 1 then wire_lines words else None)
    else by_number (host_at words 1) (λ host. line_at host words line))))

abbrev pub line_in : List (List ℕ) → List ℕ → Option ScriptLine
line_in words line = if begins words 1 (codes "end") then Some script_lines.End else said_in words line

-- an empty line, or one that begins with `#`
abbrev pub is_skipped : List ℕ → Bool
is_skipped [] = true
is_skipped (c ∷ cs) = c == 35

-- what a line says, if it is one: a line has at most 4,096 bytes
unfoldable pub read_line : List ℕ → Option ScriptLine
read_line line =
    if nat_lt MOST_LINE (length line) then None
    else (if is_skipped line then Some script_lines.Skipped else line_in (words_of line) line)

abbrev pub is_end : ScriptLine → Bool
is_end script_lines.Skipped = false
is_end script_lines.End = true
is_end (script_lines.Host host) = false
is_end (script_lines.Group group kind roster limit) = false
is_end (script_lines.Event host event) = false
is_end (script_lines.Deliver group number) = false
is_end (script_lines.Ask host group context command) = false
is_end (script_lines.Read host group context query) = false
is_end (script_lines.Stale host group query) = false
is_end (script_lines.Register host group context session client) = false
is_end (script_lines.Call host context session command) = false
is_end (script_lines.Again host context session) = false
is_end (script_lines.Completed session) = false
is_end (script_lines.Close host context session) = false
is_end (script_lines.Raw host group context client series responded command) = false
is_end (script_lines.Settle group) = false
is_end (script_lines.Lose group) = false
is_end (script_lines.Wire group number) = false

-- ---- scripts

-- the parts between line feeds, of which the last is no whole line
abbrev pub parts_of : List ℕ → List (List ℕ)
parts_of text = slice_split (λ b. b == 10) text

abbrev pub said_well : Option ScriptLine → (ScriptLine → Bool) → Bool
said_well None more = false
said_well (Some said) more = is_end said || more said

-- the whole lines up to `end` are lines of the grammar
abbrev pub are_lines : List (List ℕ) → Bool
are_lines [] = false
are_lines (line ∷ []) = false
are_lines (line ∷ next ∷ more) = said_well (read_line line) (λ said. are_lines (next ∷ more))

-- a script of the grammar, which comes to its `end`
abbrev pub is_script : List ℕ → Bool
is_script text = are_lines (parts_of text)
