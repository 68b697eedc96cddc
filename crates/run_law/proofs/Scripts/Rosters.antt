-- What is known of a line that declares a group: each voter is a host, and a limit is positive.
use Rattle.std.proofs.Common.{◌≤◌, ◌<◌, ◌+◌, ◌-◌, ◌*◌, ℕ, ◌==◌, List, [], ◌∷◌, Bool, Option, Some, None, cond, length, arith, leb-true}
use Rattle.std.specs.Prelude.{codes, is_some, nat_lt, nat_le, ◌&&◌, ◌||◌}
use Rattle.std.specs.List.{slice_split}
use Rattle.std.specs.Option.{option_map}
use Rattle.std.proofs.lemmas.Bool.{cond_both, eqb-false, and_parts, ltb-true}
use Rattle.object_model.specs.Words.{words_of, word, begins, number_of, number_on, with_digit}
use Rattle.object_model.specs.Command.{command_of, most_number}
use Rattle.script_text.specs.declared.script.ScriptLine.{ScriptLine}
use Rattle.script_text.specs.declared.script.ScriptLine.TheVariants as script_lines
use Rattle.script_text.specs.declared.script.HostEvent.{HostEvent}
use Rattle.script_text.specs.Script
use Rattle.script_text.specs.Script.{read_line, says, after_three, after_four, after_seven}
use Rattle.run_law.proofs.Group.Law.{AreHosts}
use Rattle.script_text.specs.declared.limit.TheConstants.{MOST_APPLIED, MOST_LINE}
use Rattle.host_ids.specs.declared.proposal.TheConstants.{MOST_SESSIONS}
use Rattle.host_ids.specs.declared.proposal.TheConstants.{MOST_SERIES}

-- a limit of a group's own is positive
abbrev pub IsPositive : Option ℕ → Type 0
IsPositive None = Unit {0}
IsPositive (Some limit) = 1 ≤ limit

-- a line is good: a group's voters are hosts, and its own limit is positive
abbrev pub IsGood : ScriptLine → Type 0
IsGood script_lines.Skipped = Unit {0}
IsGood script_lines.End = Unit {0}
IsGood (script_lines.Host host) = Unit {0}
IsGood (script_lines.Group group kind roster limit) = AreHosts roster × IsPositive limit
IsGood (script_lines.Event host event) = Unit {0}
IsGood (script_lines.Deliver group number) = Unit {0}
IsGood (script_lines.Ask host group context command) = Unit {0}
IsGood (script_lines.Read host group context query) = Unit {0}
IsGood (script_lines.Stale host group query) = Unit {0}
IsGood (script_lines.Register host group context session client) = Unit {0}
IsGood (script_lines.Call host context session command) = Unit {0}
IsGood (script_lines.Again host context session) = Unit {0}
IsGood (script_lines.Completed session) = Unit {0}
IsGood (script_lines.Close host context session) = Unit {0}
IsGood (script_lines.Raw host group context client series responded command) = Unit {0}
IsGood (script_lines.Settle group) = Unit {0}
IsGood (script_lines.Lose group) = Unit {0}
IsGood (script_lines.Wire group number) = Unit {0}

-- a number that was read is at most the greatest that was asked for
abbrev IsWithin : ℕ → Option ℕ → Type 0
IsWithin most None = Unit {0}
IsWithin most (Some n) = n ≤ most

digit_within : (most n c : ℕ) → IsWithin most (with_digit most n c)
digit_within most n c =
    let next = 10 * n + (c - 48) in
    cond_both ((nat_le 48 c && nat_le c 57) && nat_le next most) (Some next) None (IsWithin most)
    (λ e. leb-true next most (and_parts (nat_le 48 c && nat_le c 57) (nat_le next most) e).1)
    (λ _. tt)

number_on_within : (most : ℕ) (o : Option ℕ) (text : List ℕ) → IsWithin most o → IsWithin most (number_on most o text)
unfolding number_on
number_on_within most None text h = tt
number_on_within most (Some n) [] h = h
number_on_within most (Some n) (c ∷ cs) h = number_on_within most (with_digit most n c) cs (digit_within most n c)

number_within : (most : ℕ) (text : List ℕ) → IsWithin most (number_of most text)
number_within most [] = tt
number_within most (c ∷ []) = number_on_within most (Some 0) (c ∷ []) (omega arith)
number_within most (c ∷ d ∷ ds) = cond_both (c == 48) None (number_on most (Some 0) (c ∷ d ∷ ds)) (IsWithin most) (λ _. tt) (λ _. number_on_within most (Some 0) (c ∷ d ∷ ds) (omega arith))

-- a line that is one is good
abbrev pub Said : Option ScriptLine → Type 0
Said None = Unit {0}
Said (Some line) = IsGood line

-- of two readings that are good, the one that a test chooses is good
by_cond : (b : Bool) (x y : Option ScriptLine) → Said x → Said y → Said (cond b x y)
by_cond b x y p q = cond_both b x y Said (λ _. p) (λ _. q)

-- a good line that stands only where a test passes is good
so : (b : Bool) (line : ScriptLine) → IsGood line → Said (Script.if_so b line)
so b line p = by_cond b (Some line) None p tt

-- what is said by a number is good, if it is so by each number
by_number : (o : Option ℕ) (said : ℕ → Option ScriptLine) → ((n : ℕ) → Said (said n)) → Said (Script.by_number o said)
by_number None said p = tt
by_number (Some n) said p = p n

-- ---- the group

-- a number that is positive, where there is one
positive_by : (o : Option ℕ) (said : ℕ → Option ScriptLine) → ((n : ℕ) → 1 ≤ n → Said (said n)) → Said (Script.by_number (Script.positive o) said)
positive_by None said p = tt
positive_by (Some n) said p = cond_both (n == 0) None (Some n) (λ (o : Option ℕ). Said (Script.by_number o said)) (λ _. tt) (λ e. p n (omega (arith, eqb-false n 0 e)))

-- hosts that were read, where they were
abbrev Read : Option (List ℕ) → Type 0
Read None = Unit {0}
Read (Some hosts) = AreHosts hosts

-- one host before others
one_more : (host : ℕ) (o : Option (List ℕ)) → (0 < host) × (host < 10) → Read o → Read (option_map (λ hosts. host ∷ hosts) o)
one_more host None p q = tt
one_more host (Some hosts) p q = (p, q)

before_read : (low : ℕ) (o : Option ℕ) (more : ℕ → Option (List ℕ)) → IsWithin 9 o → ((host : ℕ) → Read (more host)) → Read (Script.host_before (Script.above low o) more)
before_read low None more h p = tt
before_read low (Some n) more h p =
    cond_both (nat_lt low n) (Some n) None (λ (o : Option ℕ). Read (Script.host_before o more))
    (λ e. let m : low < n = ltb-true low n e in one_more n (more n) (omega (arith, m), omega (arith, h)) (p n))
    (λ _. tt)

-- voters that were read are hosts
roster_read : (low : ℕ) (texts : List (List ℕ)) → Read (Script.ascending low texts)
roster_read low [] = tt
roster_read low (text ∷ texts) = before_read low (number_of 9 text) (λ host. Script.ascending host texts) (number_within 9 text) (λ host. roster_read host texts)

-- voters that were read are hosts, also where they may be no more than seven
few_read : (o : Option (List ℕ)) → Read o → Read (Script.few_of o)
few_read None p = tt
few_read (Some hosts) p = cond_both (nat_le (length hosts) 7) (Some hosts) None Read (λ _. p) (λ _. tt)

-- the line of a group is good, if its voters are hosts and its own limit is positive
group_by_said : (o : Option (List ℕ)) (limit : Option ℕ) → Read o → IsPositive limit → Said (Script.group_by o limit)
group_by_said None limit p q = tt
group_by_said (Some roster) limit p q = (p, q)

-- a line that declares a group is good
group_said : (words : List (List ℕ)) → Said (Script.group_line words)
group_said words =
    let o = Script.roster_of (word words 3) in
    let r = few_read (Script.ascending 0 (slice_split (λ b. b == 44) (word words 3))) (roster_read 0 (slice_split (λ b. b == 44) (word words 3))) in
    by_cond (Script.is_group words 1 && says words 2 (codes "regular")) _ _
    (by_cond (length words == 4) _ _ (group_by_said o None r tt)
    (by_cond (length words == 5) _ _ (positive_by (number_of MOST_SESSIONS (word words 4)) _ (λ limit l. group_by_said o (Some limit) r l)) tt))
    tt

-- ---- the other lines

-- the line of an event is good
event_by_said : (host : ℕ) (o : Option HostEvent) → Said (Script.event_by host o)
event_by_said host None = tt
event_by_said host (Some event) = tt

-- a line that names an event, a host and the group is good
event_said : (host : ℕ) (words : List (List ℕ)) → Said (Script.event_line host words)
event_said host words =
    by_cond (length words == 3) _ _ (event_by_said host (Script.event_of words))
    (by_cond (begins words 4 (codes "apply")) _ _ (positive_by (number_of MOST_APPLIED (word words 3)) _ (λ most l. tt)) tt)

-- a `raw` line with these numbers is good
raw_by_said : (host : ℕ) (words : List (List ℕ)) (text : List ℕ) (client series responded : Option ℕ) → Said (Script.raw_by host words text client series responded)
raw_by_said host words text None series responded = tt
raw_by_said host words text (Some client) None responded = tt
raw_by_said host words text (Some client) (Some series) None = tt
raw_by_said host words text (Some client) (Some series) (Some responded) = by_cond ((client == 0) || (series == 0)) _ _ tt tt

-- a `raw` line is good
raw_said : (host : ℕ) (words : List (List ℕ)) (text : List ℕ) → Said (Script.raw_line host words text)
raw_said host words text =
    by_cond (Script.is_named words 3 && is_some (command_of text)) _ _
    (raw_by_said host words text (number_of most_number (word words 4)) (number_of MOST_SERIES (word words 5)) (number_of MOST_SERIES (word words 6))) tt

-- a `register` line is good
register_said : (host : ℕ) (words : List (List ℕ)) → Said (Script.register_line host words)
register_said host words = by_cond (Script.is_named words 3 && Script.is_named words 4) _ _ (positive_by (number_of most_number (word words 5)) _ (λ client l. tt)) tt

-- a line that names a host and the group is good
replica_said : (host : ℕ) (words : List (List ℕ)) (line : List ℕ) → Said (Script.replica_line host words line)
replica_said host words line =
    by_cond (says words 0 (codes "ask")) _ _ (so _ (script_lines.Ask host 1 (word words 3) (after_four line)) tt)
    (by_cond (says words 0 (codes "read")) _ _ (so _ (script_lines.Read host 1 (word words 3) (after_four line)) tt)
    (by_cond (says words 0 (codes "stale")) _ _ (so _ (script_lines.Stale host 1 (after_three line)) tt)
    (by_cond (begins words 6 (codes "register")) _ _ (register_said host words)
    (by_cond (says words 0 (codes "raw")) _ _ (raw_said host words (after_seven line)) (event_said host words)))))

-- a line that names a host and a session is good
session_said : (host : ℕ) (words : List (List ℕ)) (line : List ℕ) → Said (Script.session_line host words line)
session_said host words line =
    by_cond (says words 0 (codes "call")) _ _ (so _ (script_lines.Call host (word words 2) (word words 3) (after_four line)) tt)
    (by_cond (begins words 4 (codes "again")) _ _ (so _ (script_lines.Again host (word words 2) (word words 3)) tt)
    (by_cond (begins words 4 (codes "close")) _ _ (so _ (script_lines.Close host (word words 2) (word words 3)) tt) tt))

-- a line that names a host first is good
at_said : (host : ℕ) (words : List (List ℕ)) (line : List ℕ) → Said (Script.line_at host words line)
at_said host words line =
    by_cond (Script.is_session_verb words) _ _ (session_said host words line)
    (by_cond (Script.is_group words 2) _ _ (replica_said host words line) tt)

-- a line that names the group alone is good
wire_said : (words : List (List ℕ)) → Said (Script.wire_lines words)
wire_said words =
    by_cond (begins words 2 (codes "settle")) _ _ tt
    (by_cond (begins words 2 (codes "lose")) _ _ tt
    (by_cond (begins words 3 (codes "deliver")) _ _ (by_number (number_of most_number (word words 2)) _ (λ number. tt))
    (by_cond (begins words 3 (codes "wire")) _ _ (by_number (number_of most_number (word words 2)) _ (λ number. tt)) tt)))

-- a line that is read by its words is good
words_said : (words : List (List ℕ)) (line : List ℕ) → Said (Script.said_in words line)
words_said words line =
    by_cond (begins words 2 (codes "host")) _ _ (by_number (Script.host_at words 1) _ (λ host. tt))
    (by_cond (says words 0 (codes "group")) _ _ (group_said words)
    (by_cond (begins words 2 (codes "completed")) _ _ (so _ (script_lines.Completed (word words 1)) tt)
    (by_cond (Script.is_wire_verb words) _ _ (by_cond (Script.is_group words 1) _ _ (wire_said words) tt)
    (by_number (Script.host_at words 1) _ (λ host. at_said host words line)))))

-- what a line is is good
pub read_said : (line : List ℕ) → Said (read_line line)
unfolding read_line
read_said line =
    by_cond (nat_lt MOST_LINE (length line)) _ _ tt
    (by_cond (Script.is_skipped line) _ _ tt
    (by_cond (begins (words_of line) 1 (codes "end")) _ _ tt (words_said (words_of line) line)))
