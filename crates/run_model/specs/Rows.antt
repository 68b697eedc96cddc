-- Worked scripts and what they print.
use Rattle.std.specs.Prelude.{ℕ, List, [], ◌∷◌, ◌++◌, codes}
use Rattle.std.specs.List.{flat_map}

abbrev pub lines_of : List (List ℕ) → List ℕ
lines_of ls = flat_map (λ l. l ++ 10 ∷ []) ls

-- a put and a get, at one voter
abbrev pub script : List ℕ
script = lines_of (codes "host 1" ∷ codes "group 1 regular 1" ∷ codes "timeout 1 1" ∷ codes "save 1 1" ∷ codes "save 1 1" ∷ codes "ask 1 1 a put x 5" ∷ codes "save 1 1" ∷ codes "apply 1 1 9" ∷ codes "read 1 1 b get x" ∷ codes "end" ∷ [])

abbrev pub printed : List ℕ
printed = lines_of (codes "started 1 1" ∷ codes "leader 1 1 1" ∷ codes "ask a 1 put x 5" ∷ codes "done a 2 -" ∷ codes "ask b 1 read get x" ∷ codes "read b 2 5" ∷ codes "entry 1 1 - blank" ∷ codes "entry 1 2 a put x 5" ∷ codes "end" ∷ [])

-- lines that are skipped, rounds until nothing is left to do, and numbers at their bound
abbrev pub settling : List ℕ
settling = lines_of (codes "# numbers" ∷ codes "host 1" ∷ [] ∷ codes "group 1 regular 1" ∷ codes "timeout 1 1" ∷ codes "settle 1" ∷ codes "ask 1 1 a put n 18446744073709551615" ∷ codes "ask 1 1 b add n 1" ∷ codes "ask 1 1 c put n 07" ∷ codes "ask 1 1 d add n 1" ∷ codes "settle 1" ∷ codes "end" ∷ [])

abbrev pub settled : List ℕ
settled = lines_of (codes "started 1 1" ∷ codes "leader 1 1 1" ∷ codes "ask a 1 put n 18446744073709551615" ∷ codes "ask b 1 add n 1" ∷ codes "ask c 1 put n 07" ∷ codes "ask d 1 add n 1" ∷ codes "done a 2 -" ∷ codes "done b 3 !" ∷ codes "done c 4 18446744073709551615" ∷ codes "done d 5 !" ∷ codes "entry 1 1 - blank" ∷ codes "entry 1 2 a put n 18446744073709551615" ∷ codes "entry 1 3 b add n 1" ∷ codes "entry 1 4 c put n 07" ∷ codes "entry 1 5 d add n 1" ∷ codes "end" ∷ [])

-- ---- three voters: host 1 is elected

abbrev pub election : List ℕ
election = lines_of (codes "host 1" ∷ codes "host 2" ∷ codes "host 3" ∷ codes "group 1 regular 1,2,3" ∷ codes "timeout 1 1" ∷ codes "settle 1" ∷ [])

abbrev pub elected : List ℕ
elected = lines_of (codes "started 1 1" ∷ codes "started 2 1" ∷ codes "started 3 1" ∷ codes "leader 1 1 1" ∷ [])

-- one save of three is no majority
abbrev pub alone : List ℕ
alone = election ++ lines_of (codes "ask 1 1 a put x 1" ∷ codes "save 1 1" ∷ codes "apply 1 1 9" ∷ codes "end" ∷ [])

abbrev pub alone_printed : List ℕ
alone_printed = elected ++ lines_of (codes "ask a 1 put x 1" ∷ codes "idle" ∷ codes "entry 1 1 - blank" ∷ codes "end" ∷ [])

-- an envelope is shown, and one that isn't there
abbrev pub showing : List ℕ
showing = election ++ lines_of (codes "wire 1 5" ∷ codes "wire 1 99" ∷ codes "end" ∷ [])

abbrev pub showing_printed : List ℕ
showing_printed = elected ++ lines_of (codes "wire 1 5 1 2 append 1" ∷ codes "refused 9" ∷ codes "entry 1 1 - blank" ∷ codes "end" ∷ [])

-- a command that is asked at a follower is handed on to the leader, decided by a majority, and done where it was asked
abbrev pub handing_on : List ℕ
handing_on = election ++ lines_of (codes "ask 2 1 a add n 7" ∷ codes "settle 1" ∷ codes "beat 1 1" ∷ codes "settle 1" ∷ codes "end" ∷ [])

abbrev pub handing_on_printed : List ℕ
handing_on_printed = elected ++ lines_of (codes "ask a 1 add n 7" ∷ codes "done a 2 7" ∷ codes "entry 1 1 - blank" ∷ codes "entry 1 2 a add n 7" ∷ codes "end" ∷ [])

-- a plain command that is handed on twice acts twice, and its request ends once
abbrev pub twice : List ℕ
twice = election ++ lines_of (codes "ask 2 1 a add n 7" ∷ codes "deliver 1 9" ∷ codes "settle 1" ∷ codes "beat 1 1" ∷ codes "settle 1" ∷ codes "end" ∷ [])

abbrev pub twice_printed : List ℕ
twice_printed = elected ++ lines_of (codes "ask a 1 add n 7" ∷ codes "done a 2 7" ∷ codes "entry 1 1 - blank" ∷ codes "entry 1 2 a add n 7" ∷ codes "entry 1 3 a add n 7" ∷ codes "end" ∷ [])

-- a read while an entry of the log isn't saved: its front is what was applied
abbrev pub ahead : List ℕ
ahead = lines_of (codes "host 1" ∷ codes "group 1 regular 1" ∷ codes "timeout 1 1" ∷ codes "settle 1" ∷ codes "ask 1 1 a put x 5" ∷ codes "settle 1" ∷ codes "ask 1 1 b put x 6" ∷ codes "read 1 1 c get x" ∷ codes "end" ∷ [])

abbrev pub ahead_printed : List ℕ
ahead_printed = lines_of (codes "started 1 1" ∷ codes "leader 1 1 1" ∷ codes "ask a 1 put x 5" ∷ codes "done a 2 -" ∷ codes "ask b 1 put x 6" ∷ codes "ask c 1 read get x" ∷ codes "read c 2 5" ∷ codes "entry 1 1 - blank" ∷ codes "entry 1 2 a put x 5" ∷ codes "end" ∷ [])
