-- The image of the object: its one spelling as bytes, with numbers in big-endian order. Source: this project's own.
use Rattle.std.specs.Prelude.{◌≡◌, ◌≤◌, ℕ, zero, suc, ◌+◌, List, [], ◌∷◌, ◌++◌, Bool, true, ◌&&◌, Option, Some, None, Result, Ok, Err, nat_le, nat_lt, length, take, drop, if◌then◌else◌}
use Rattle.std.specs.List.{list_all, flat_map}
use Rattle.std.specs.Int.{to_be_bytes, from_be_bytes, w16, w32}
use Rattle.std.specs.Ordering.{is_lt}
use Rattle.host_ids.specs.declared.proposal.TheConstants.{MOST_COMMAND}
use Rattle.object_model.specs.Words.{is_key, is_value}
use Rattle.object_model.specs.Object.{Pairs, after, key_order}
use Rattle.object_model.specs.declared.command.TheConstants.{MOST_KEYS}

-- a length of two bytes, and the bytes
abbrev pub spelt : List ℕ → List ℕ
spelt text = to_be_bytes w16 (length text) ++ text

-- the number of pairs in four bytes, and for each pair, in order, its key and its value
abbrev pub image : Pairs → List ℕ
image pairs = to_be_bytes w32 (length pairs) ++ flat_map (λ e. spelt e.0 ++ spelt e.1) pairs

-- each key is below the next one
abbrev pub is_ascending : Pairs → Bool
is_ascending [] = true
is_ascending (e ∷ []) = true
is_ascending (e ∷ f ∷ rest) = is_lt (key_order e.0 f.0) && is_ascending (f ∷ rest)

abbrev pub is_pair : List ℕ × List ℕ → Bool
is_pair e = is_key e.0 && is_value e.1 && nat_le (length e.1) MOST_COMMAND

-- pairs that an object may have
abbrev pub is_object : Pairs → Bool
is_object pairs = is_ascending pairs && list_all is_pair pairs && nat_le (length pairs) MOST_KEYS

-- bytes that are the image of an object
pub record IsImage (bytes : List ℕ) : Type 0 where
  pub pairs : Pairs
  pub object : is_object pairs ≡ true
  pub spelling : bytes ≡ image pairs

-- ---- reading: the pairs, or the place of the first length or count that is refused

-- the first n bytes, and what stands after them
abbrev pub part_of : ℕ → List ℕ → Option (List ℕ × List ℕ)
part_of n bytes = if nat_le n (length bytes) then Some (take n bytes, drop n bytes) else None

abbrev pub text_beyond : Option (List ℕ × List ℕ) → Option (List ℕ × List ℕ)
text_beyond None = None
text_beyond (Some p) = part_of (from_be_bytes w16 p.0) p.1

-- a text after its length, and what stands after it; none where the length or the text is cut short
abbrev pub text_in : List ℕ → Option (List ℕ × List ℕ)
text_in bytes = text_beyond (part_of 2 bytes)

-- a key may come next
abbrev pub is_next : Option (List ℕ) → List ℕ → Bool
is_next None key = is_key key
is_next (Some before) key = is_key key && is_lt (key_order before key)

-- a value has at most 512 bytes
abbrev pub is_stored : List ℕ → Bool
is_stored value = is_value value && nat_le (length value) MOST_COMMAND

-- a text that is there and passes is followed by what comes next; else its length is the place
abbrev pub with_text : ℕ → Option (List ℕ × List ℕ) → (List ℕ → Bool) → (List ℕ → List ℕ → Result Pairs ℕ) → Result Pairs ℕ
with_text at None test next = Err at
with_text at (Some p) test next = if test p.0 then next p.0 p.1 else Err at

abbrev pub with_first : List ℕ × List ℕ → Result Pairs ℕ → Result Pairs ℕ
with_first e (Ok es) = Ok (e ∷ es)
with_first e (Err at) = Err at

-- n pairs after a key, and nothing after them
unfoldable pub read_pairs : ℕ → Option (List ℕ) → ℕ → List ℕ → Result Pairs ℕ
read_pairs zero before at [] = Ok []
read_pairs zero before at (b ∷ bytes) = Err at
read_pairs (suc n) before at bytes =
    with_text at (text_in bytes) (is_next before)
    (λ key more. with_text (at + 2 + length key) (text_in more) is_stored
    (λ value rest. with_first (key, value) (read_pairs n (Some key) (at + 4 + length key + length value) rest)))

abbrev pub counted : Option (List ℕ × List ℕ) → Result Pairs ℕ
counted None = Err 0
counted (Some p) = if nat_le (from_be_bytes w32 p.0) MOST_KEYS then read_pairs (from_be_bytes w32 p.0) None 4 p.1 else Err 0

-- the object that bytes are the image of, or the place of the first length or count that is refused: a key or a value that is refused or cut short counts at its length, bytes after the last pair at their first
unfoldable pub read_image : List ℕ → Result Pairs ℕ
read_image bytes = counted (part_of 4 bytes)

-- ---- laws

abbrev pub AreBytes : List ℕ → Type 0
AreBytes bytes = list_all (λ b. nat_lt b 256) bytes ≡ true

-- the image of an object reads as that object
abbrev pub ReadsBack : Type 0
ReadsBack = (pairs : Pairs) → is_object pairs ≡ true → read_image (image pairs) ≡ Ok pairs

-- bytes that read as an object are its image
abbrev pub SpellsOne : Type 0
SpellsOne = (bytes : List ℕ) (pairs : Pairs) → AreBytes bytes → read_image bytes ≡ Ok pairs → (is_object pairs ≡ true) × (bytes ≡ image pairs)

-- two objects of one image are one
abbrev pub HasOneSpelling : Type 0
HasOneSpelling = (a b : Pairs) → is_object a ≡ true → is_object b ≡ true → image a ≡ image b → a ≡ b

-- whatever text an object is given, it stays one, and its reply has at most 512 bytes
abbrev pub StaysObject : Type 0
StaysObject = (pairs : Pairs) (text : List ℕ) → is_object pairs ≡ true → (is_object (after pairs text).pairs ≡ true) × (length (after pairs text).reply ≤ MOST_COMMAND)

-- the first object has no pairs
abbrev pub FirstIsObject : Type 0
FirstIsObject = is_object [] ≡ true
