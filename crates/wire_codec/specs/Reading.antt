-- How a value is read at a place of bytes, how readings are joined, and what it means that a reading is exact. Numbers are big-endian. Source: this project's own.
use Rattle.std.specs.Prelude.{◌≡◌, ◌+◌, ◌-◌, ◌*◌, ◌/◌, ◌^◌, ◌≤◌, ◌==◌, ℕ, zero, suc, List, [], ◌∷◌, ◌++◌, Bool, true, ◌&&◌, Result, Ok, Err, nat_le, nat_lt, length, take, drop, if◌then◌else◌}
use Rattle.std.specs.List.{list_all}
use Rattle.std.specs.Int.{bytes_high_first}

-- of bytes and a place in them: the value that stands there with the place after it, or the place at which no value's bytes go on
abbrev pub Reader : Type 0 → Type 0
Reader A = List ℕ → ℕ → Result (A × ℕ) ℕ

-- the place after what stands there, or the refusal's
abbrev pub place_of : {A : Type 0} → Result (A × ℕ) ℕ → ℕ
place_of (Ok r) = r.1
place_of (Err at) = at

-- ---- numbers

-- after k more bytes, a number that begins with the bytes of p may be one from lo to hi: p is neither below what lo begins with, nor above what hi begins with
abbrev pub passes : ℕ → ℕ → ℕ → ℕ → Bool
passes k lo hi p = nat_le (lo / 256 ^ k) p && nat_le p (hi / 256 ^ k)

-- the next k bytes of a number from lo to hi whose first bytes made p
unfoldable pub digits : ℕ → ℕ → ℕ → ℕ → Reader ℕ
digits zero lo hi p bytes at = Ok (p, at)
digits (suc k) lo hi p [] at = Err at
digits (suc k) lo hi p (b ∷ bytes) at = if passes k lo hi (p * 256 + b) then digits k lo hi (p * 256 + b) bytes (at + 1) else Err at

-- a number from lo to hi in k bytes
abbrev pub number : ℕ → ℕ → ℕ → Reader ℕ
number k lo hi bytes at = digits k lo hi 0 (drop at bytes) at

abbrev pub number_bytes : ℕ → ℕ → List ℕ
number_bytes k n = bytes_high_first k n

-- ---- texts

-- any n bytes
abbrev pub text : ℕ → Reader (List ℕ)
text n bytes at = if nat_le n (length bytes - at) then Ok (take n (drop at bytes), at + n) else Err (length bytes)

-- ---- one after the other

abbrev pub go_on : {A B : Type 0} → Result (A × ℕ) ℕ → (A → ℕ → Result B ℕ) → Result B ℕ
go_on (Ok r) next = next r.0 r.1
go_on (Err at) next = Err at

-- one value, and after it one whose reading the first decides
abbrev pub both : {A B : Type 0} → Reader A → (A → Reader B) → Reader (A × B)
both first second bytes at = go_on (first bytes at) (λ a next. go_on (second a bytes next) (λ b last. Ok ((a, b), last)))

-- the value that another one stands for
abbrev pub made : {A B : Type 0} → (A → B) → Reader A → Reader B
made f read bytes at = go_on (read bytes at) (λ a next. Ok (f a, next))

-- nothing, which stands for a value
abbrev pub nothing : {A : Type 0} → A → Reader A
nothing a bytes at = Ok (a, at)

abbrev pub first_of_list : {A : Type 0} → A × List A → List A
first_of_list p = p.0 ∷ p.1

-- n values, the first read as number i
unfoldable pub many : {A : Type 0} → (ℕ → Reader A) → ℕ → ℕ → Reader (List A)
many read i zero = nothing []
many read i (suc n) = made first_of_list (both (read i) (λ a. many read (i + 1) n))

-- a value that is all of the bytes: where bytes are left after it, the refusal is there
abbrev pub to_end : {A : Type 0} → List ℕ → Result (A × ℕ) ℕ → Result A ℕ
to_end bytes (Ok r) = if r.1 == length bytes then Ok r.0 else Err r.1
to_end bytes (Err at) = Err at

abbrev pub whole : {A : Type 0} → Reader A → List ℕ → Result A ℕ
whole read bytes = to_end bytes (read bytes 0)

-- n good values, the first as number i
abbrev pub AreGood : {A : Type 0} → (ℕ → A → Type 0) → ℕ → ℕ → List A → Type 0
AreGood Good i zero [] = Unit {0}
AreGood Good i zero (a ∷ l) = ⊥
AreGood Good i (suc n) [] = ⊥
AreGood Good i (suc n) (a ∷ l) = Good i a × AreGood Good (i + 1) n l

-- ---- exact readings

abbrev pub AreBytes : List ℕ → Type 0
AreBytes bytes = list_all (λ b. nat_lt b 256) bytes ≡ true

-- these bytes have a front of n bytes that begins some good value's bytes
pub record Front {A : Type 0} (Good : A → Type 0) (spell : A → List ℕ) (bytes : List ℕ) (n : ℕ) : Type 0 where
  pub value : A
  pub good : Good value
  pub front : List ℕ
  pub missing : List ℕ
  pub rest : List ℕ
  pub begins : spell value ≡ front ++ missing
  pub stands : bytes ≡ front ++ rest
  pub counted : length front ≡ n

-- the longest such front has n bytes
abbrev pub IsLongestFront : {A : Type 0} → (A → Type 0) → (A → List ℕ) → List ℕ → ℕ → Type 0
IsLongestFront Good spell bytes n = Front Good spell bytes n × ((m : ℕ) → Front Good spell bytes m → m ≤ n)

-- no good value's bytes begin these
abbrev pub NoneStands : {A : Type 0} → (A → Type 0) → (A → List ℕ) → List ℕ → Type 0
NoneStands {A} Good spell bytes = (a : A) (rest : List ℕ) → Good a → bytes ≡ spell a ++ rest → ⊥

-- a good value's bytes stand at a place, and the next place is after them
pub record Stands {A : Type 0} (Good : A → Type 0) (spell : A → List ℕ) (bytes : List ℕ) (at : ℕ) (value : A) (next : ℕ) : Type 0 where
  pub good : Good value
  pub spelt : drop at bytes ≡ spell value ++ drop next bytes
  pub after : next ≡ at + length (spell value)
  pub within : next ≤ length bytes

-- a reading gives exactly the good values that stand at its place, and refuses at the end of the longest front that begins one
pub record Exact {A : Type 0} (read : Reader A) (Good : A → Type 0) (spell : A → List ℕ) : Type 0 where
  pub back : (a : A) (bytes rest : List ℕ) (at : ℕ) → Good a → at ≤ length bytes → drop at bytes ≡ spell a ++ rest → read bytes at ≡ Ok (a, at + length (spell a))
  pub spells : (a : A) (bytes : List ℕ) (at next : ℕ) → AreBytes bytes → at ≤ length bytes → read bytes at ≡ Ok (a, next) → Stands Good spell bytes at a next
  pub begins : (bytes : List ℕ) (at place : ℕ) → AreBytes bytes → at ≤ length bytes → read bytes at ≡ Err place → at ≤ place × Front Good spell (drop at bytes) (place - at)
  pub most : (bytes : List ℕ) (at place n : ℕ) → AreBytes bytes → at ≤ length bytes → read bytes at ≡ Err place → Front Good spell (drop at bytes) n → at + n ≤ place
