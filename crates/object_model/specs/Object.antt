-- The sequential object: a map from keys to values, what a command makes of it and replies, and what a query answers. Source: this project's own.
use Rattle.std.specs.Prelude.{ℕ, ◌+◌, List, ◌||◌, Option, Some, None, nat_lt, nat_le, length, unwrap_or, is_some, codes, decimal, if◌then◌else◌}
use Rattle.std.specs.declared.cmp.Ordering.{Ordering}
use Rattle.std.specs.Ordering.{nat_cmp}
use Rattle.std.specs.Cmp.Lexicographic.{slice_cmp}
use Rattle.std.specs.BTreeMap.{insert_entry, is_at}
use Rattle.std.specs.Map.{lookup, remove_entry}
use Rattle.host_ids.specs.declared.proposal.TheConstants.{MOST_COMMAND}
use Rattle.object_model.specs.declared.command.Command.{Command}
use Rattle.object_model.specs.declared.command.Command.TheVariants as commands
use Rattle.object_model.specs.declared.command.Change.{Change}
use Rattle.object_model.specs.declared.command.Change.TheVariants as changes
use Rattle.object_model.specs.declared.command.Query.{Query}
use Rattle.object_model.specs.declared.command.Query.TheVariants as queries
use Rattle.object_model.specs.Words.{number_of}
use Rattle.object_model.specs.Command.{command_of, query_of, most_number}
use Rattle.object_model.specs.declared.command.TheConstants.{MOST_KEYS}

-- the pairs of keys and values, by their keys in ascending order of bytes
abbrev pub Pairs : Type 0
Pairs = List (List ℕ × List ℕ)

abbrev pub key_order : List ℕ → List ℕ → Ordering
key_order = slice_cmp nat_cmp

abbrev pub value_at : Pairs → List ℕ → Option (List ℕ)
value_at pairs key = lookup (is_at (key_order key)) pairs

-- a value as it is shown, or `-` where there is none
abbrev pub shown : Option (List ℕ) → List ℕ
shown found = unwrap_or found (codes "-")

-- what a command leaves and replies
pub record Updated : Type 0 where
  pub pairs : Pairs
  pub reply : List ℕ

-- a number of 64 bits
abbrev pub fitting : ℕ → Option ℕ
fitting n = if nat_le n most_number then Some n else None

abbrev pub sum_by : Option ℕ → ℕ → Option ℕ
sum_by None number = None
sum_by (Some n) number = fitting (n + number)

-- a value as a number, 0 where there is none, and so much more, where all are numbers of 64 bits
abbrev pub sum_of : Option (List ℕ) → ℕ → Option ℕ
sum_of None number = fitting number
sum_of (Some value) number = sum_by (number_of most_number value) number

-- nothing changes, and the reply is `!`
abbrev pub refuses : Change
refuses = changes.Keeps (codes "!")

-- a value is stored where the key has one already, or where there is room for one key more
abbrev pub stores : Option (List ℕ) → ℕ → List ℕ → List ℕ → Change
stores found count value reply = if is_some found || nat_lt count MOST_KEYS then changes.Stores value reply else refuses

abbrev pub adds : Option (List ℕ) → ℕ → Option ℕ → Change
adds found count None = refuses
adds found count (Some sum) = stores found count (decimal sum) (decimal sum)

abbrev pub key_of : Command → List ℕ
key_of (commands.Put key value) = key
key_of (commands.Del key) = key
key_of (commands.Add key number) = key

-- what a command does at its key, where that has this value or none and `count` keys stand
abbrev pub change_of : Command → Option (List ℕ) → ℕ → Change
change_of (commands.Put key value) found count = stores found count value (shown found)
change_of (commands.Del key) found count = changes.Removes (shown found)
change_of (commands.Add key number) found count = adds found count (sum_of found number)

abbrev pub changed : Pairs → List ℕ → Change → Updated
changed pairs key (changes.Keeps reply) = record { pairs = pairs; reply = reply }
changed pairs key (changes.Stores value reply) = record { pairs = insert_entry key_order pairs key value; reply = reply }
changed pairs key (changes.Removes reply) = record { pairs = remove_entry (is_at (key_order key)) pairs; reply = reply }

abbrev pub after_command : Pairs → Command → Updated
after_command pairs command = changed pairs (key_of command) (change_of command (value_at pairs (key_of command)) (length pairs))

abbrev pub after_any : Pairs → Option Command → Updated
after_any pairs None = record { pairs = pairs; reply = codes "!" }
after_any pairs (Some command) = after_command pairs command

-- a text on the object: one of more than 512 bytes is no command
unfoldable pub after : Pairs → List ℕ → Updated
after pairs text = after_any pairs (if nat_lt MOST_COMMAND (length text) then None else command_of text)

abbrev pub answer_query : Pairs → Query → List ℕ
answer_query pairs (queries.Get key) = shown (value_at pairs key)
answer_query pairs queries.Count = decimal (length pairs)

abbrev pub answer_any : Pairs → Option Query → List ℕ
answer_any pairs None = codes "!"
answer_any pairs (Some query) = answer_query pairs query

-- what a text asks of the object
unfoldable pub answer : Pairs → List ℕ → List ℕ
answer pairs text = answer_any pairs (query_of text)
