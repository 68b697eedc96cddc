-- The texts that are commands and queries of the key-value object. Source: this project's own.
use Rattle.std.specs.Prelude.{ℕ, ◌-◌, ◌^◌, List, ◌&&◌, Option, Some, None, codes, if◌then◌else◌}
use Rattle.object_model.specs.declared.command.Command.{Command}
use Rattle.object_model.specs.declared.command.Command.TheVariants as commands
use Rattle.object_model.specs.declared.command.Query.{Query}
use Rattle.object_model.specs.declared.command.Query.TheVariants as queries
use Rattle.object_model.specs.Words.{words_of, word, begins, is_key, is_value, number_of}

-- the greatest number of 64 bits
abbrev pub most_number : ℕ
most_number = 2 ^ 64 - 1

abbrev pub put_of : List (List ℕ) → Option Command
put_of words = if is_key (word words 1) && is_value (word words 2) then Some (commands.Put (word words 1) (word words 2)) else None

abbrev pub del_of : List (List ℕ) → Option Command
del_of words = if is_key (word words 1) then Some (commands.Del (word words 1)) else None

abbrev pub add_by : List ℕ → Option ℕ → Option Command
add_by key None = None
add_by key (Some number) = Some (commands.Add key number)

abbrev pub add_of : List (List ℕ) → Option Command
add_of words = if is_key (word words 1) then add_by (word words 1) (number_of most_number (word words 2)) else None

-- `put K V`, `del K` or `add K N`
abbrev pub command_in : List (List ℕ) → Option Command
command_in words =
    if begins words 3 (codes "put") then put_of words
    else (if begins words 2 (codes "del") then del_of words
    else (if begins words 3 (codes "add") then add_of words
    else None))

-- the command that a text is, if it is one
unfoldable pub command_of : List ℕ → Option Command
command_of text = command_in (words_of text)

-- `get K` or `count`
abbrev pub query_in : List (List ℕ) → Option Query
query_in words =
    if begins words 2 (codes "get") then (if is_key (word words 1) then Some (queries.Get (word words 1)) else None)
    else (if begins words 1 (codes "count") then Some queries.Count else None)

-- the query that a text is, if it is one
unfoldable pub query_of : List ℕ → Option Query
query_of text = query_in (words_of text)
