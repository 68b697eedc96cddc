-- One step of reading: what comes after each field.
use Rattle.std.proofs.Common.{◌≡◌, ℕ, suc, ◌+◌, List, [], ◌∷◌, Result, length, refl}
use Rattle.std.specs.Prelude.{nat_le}
use Rattle.std.specs.Int.{from_be_bytes, w16, w32, w64}
use Rattle.session_lru.specs.declared.session.Session.{Session}
use Rattle.session_lru.specs.Table.{Table}
use Rattle.session_lru.specs.Section.{part_of, field, anything, Rest, with_first, with_limit, is_series, is_client, is_responded, is_limit, read_replies, read_sessions, read_section, then_replies}

-- ---- a reply

abbrev pub beyond_text : ℕ → ℕ → List ℕ → List ℕ → List ℕ → Result (Rest (List (ℕ × List ℕ))) ℕ
beyond_text n at series text rest = with_first (from_be_bytes w64 series, text) (read_replies n (from_be_bytes w64 series) (at + 10 + length text) rest)

abbrev pub beyond_size : ℕ → ℕ → List ℕ → List ℕ → List ℕ → Result (Rest (List (ℕ × List ℕ))) ℕ
beyond_size n at series size beyond = field (at + 10) (part_of (from_be_bytes w16 size) beyond) anything (λ text rest. beyond_text n at series text rest)

abbrev pub beyond_series : ℕ → ℕ → List ℕ → List ℕ → Result (Rest (List (ℕ × List ℕ))) ℕ
beyond_series n at series more = field (at + 8) (part_of 2 more) anything (λ size beyond. beyond_size n at series size beyond)

pub one_reply : (n before at : ℕ) (bytes : List ℕ) → read_replies (suc n) before at bytes ≡ field at (part_of 8 bytes) (is_series before) (λ series more. beyond_series n at series more)
unfolding read_replies
one_reply n before at bytes = refl

-- ---- a session

abbrev pub session_read : List ℕ → List ℕ → List (ℕ × List ℕ) → ℕ × Session
session_read client responded replies = (from_be_bytes w64 client, record { responded = from_be_bytes w64 responded; replies = replies })

abbrev pub beyond_replies : ℕ → List (ℕ × Session) → List ℕ → List ℕ → List (ℕ × List ℕ) → ℕ → List ℕ → Result (List (ℕ × Session)) ℕ
beyond_replies n before client responded replies next left = read_sessions n (session_read client responded replies ∷ before) next left

abbrev pub beyond_count : ℕ → List (ℕ × Session) → ℕ → List ℕ → List ℕ → List ℕ → List ℕ → Result (List (ℕ × Session)) ℕ
beyond_count n before at client responded count rest =
    then_replies (read_replies (from_be_bytes w32 count) (from_be_bytes w64 responded) (at + 20) rest) (λ replies next left. beyond_replies n before client responded replies next left)

abbrev pub beyond_responded : ℕ → List (ℕ × Session) → ℕ → List ℕ → List ℕ → List ℕ → Result (List (ℕ × Session)) ℕ
beyond_responded n before at client responded beyond = field (at + 16) (part_of 4 beyond) anything (λ count rest. beyond_count n before at client responded count rest)

abbrev pub beyond_client : ℕ → List (ℕ × Session) → ℕ → List ℕ → List ℕ → Result (List (ℕ × Session)) ℕ
beyond_client n before at client more = field (at + 8) (part_of 8 more) is_responded (λ responded beyond. beyond_responded n before at client responded beyond)

pub one_session : (n : ℕ) (before : List (ℕ × Session)) (at : ℕ) (bytes : List ℕ) → read_sessions (suc n) before at bytes ≡ field at (part_of 8 bytes) (is_client before) (λ client more. beyond_client n before at client more)
unfolding read_sessions
one_session n before at bytes = refl

-- ---- the limit and the number of sessions

abbrev pub beyond_number : List ℕ → List ℕ → List ℕ → Result Table ℕ
beyond_number limit count rest = with_limit (from_be_bytes w32 limit) (read_sessions (from_be_bytes w32 count) [] 8 rest)

abbrev pub beyond_limit : List ℕ → List ℕ → Result Table ℕ
beyond_limit limit more = field 4 (part_of 4 more) (λ count. nat_le (from_be_bytes w32 count) (from_be_bytes w32 limit)) (λ count rest. beyond_number limit count rest)

pub whole_section : (bytes : List ℕ) → read_section bytes ≡ field 0 (part_of 4 bytes) is_limit (λ limit more. beyond_limit limit more)
unfolding read_section
whole_section bytes = refl
