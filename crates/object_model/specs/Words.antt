-- Words between spaces, and the forms of keys, values and numbers. Source: this project's own.
use Rattle.std.specs.Prelude.{ℕ, ◌+◌, ◌-◌, ◌*◌, List, [], ◌∷◌, ◌==◌, ◌&&◌, ◌||◌, Bool, Option, Some, None, bytes_eq, nat_lt, nat_le, length, slice_index_or, if◌then◌else◌}
use Rattle.std.specs.List.{list_all, slice_split}

-- the parts between spaces
abbrev pub words_of : List ℕ → List (List ℕ)
words_of text = slice_split (λ b. b == 32) text

-- the word at a place, from 0, or an empty one past the end
abbrev pub word : List (List ℕ) → ℕ → List ℕ
word words place = slice_index_or words place []

-- there are `count` words, and the first is `verb`
abbrev pub begins : List (List ℕ) → ℕ → List ℕ → Bool
begins words count verb = (length words == count) && bytes_eq (word words 0) verb

-- a to z, 0 to 9
abbrev pub is_name_byte : ℕ → Bool
is_name_byte b = (nat_le 97 b && nat_le b 122) || (nat_le 48 b && nat_le b 57)

-- a to z, 0 to 9, a dot and a low line
abbrev pub is_value_byte : ℕ → Bool
is_value_byte b = is_name_byte b || (b == 46) || (b == 95)

-- one byte or more of a name, and at most `most`
abbrev pub is_name : List ℕ → ℕ → Bool
is_name text most = list_all is_name_byte text && nat_lt 0 (length text) && nat_le (length text) most

-- a key has 1 to 64 bytes of a name
abbrev pub is_key : List ℕ → Bool
is_key text = is_name text 64

-- a value has one or more bytes of a to z, 0 to 9, dots and low lines
abbrev pub is_value : List ℕ → Bool
is_value text = list_all is_value_byte text && nat_lt 0 (length text)

-- a number with one more digit after it, where that is a digit and the number is at most so much
abbrev pub with_digit : ℕ → ℕ → ℕ → Option ℕ
with_digit most n c = if nat_le 48 c && nat_le c 57 && nat_le (10 * n + (c - 48)) most then Some (10 * n + (c - 48)) else None

-- the number that digits make after others
unfoldable pub number_on : ℕ → Option ℕ → List ℕ → Option ℕ
number_on most None text = None
number_on most (Some n) [] = Some n
number_on most (Some n) (c ∷ cs) = number_on most (with_digit most n c) cs

-- a decimal number without leading zeros, at most so much
abbrev pub number_of : ℕ → List ℕ → Option ℕ
number_of most [] = None
number_of most (c ∷ []) = number_on most (Some 0) (c ∷ [])
number_of most (c ∷ d ∷ ds) = if c == 48 then None else number_on most (Some 0) (c ∷ d ∷ ds)
