-- What a write and a cut make of the bytes of a file.
use Rattle.std.specs.Prelude.{ℕ, ◌+◌, ◌-◌, List, ◌++◌, length, take, drop, replicate}

-- at least n bytes: zeros fill what is missing
abbrev pub padded : ℕ → List ℕ → List ℕ
padded n bytes = bytes ++ replicate (n - length bytes) 0

-- these bytes at a place of the old ones, a gap before them filled with zeros
abbrev pub written : ℕ → List ℕ → List ℕ → List ℕ
written at bytes old = take at (padded at old) ++ bytes ++ drop (at + length bytes) old

-- exactly n bytes: the rest goes, or zeros fill what is missing
abbrev pub cut_to : ℕ → List ℕ → List ℕ
cut_to n old = take n old ++ replicate (n - length old) 0
