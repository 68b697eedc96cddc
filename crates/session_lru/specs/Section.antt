-- The table as bytes, in one spelling, and what bytes read as. Numbers are big-endian. Source: this project's own.
use Rattle.std.specs.Prelude.{◌≡◌, ℕ, zero, suc, ◌+◌, ◌-◌, ◌^◌, List, [], ◌∷◌, ◌++◌, Bool, true, ◌==◌, ◌&&◌, not, Option, Some, None, Result, Ok, Err, nat_le, nat_lt, length, take, drop, reverse, if◌then◌else◌}
use Rattle.std.specs.List.{list_all, list_any, flat_map}
use Rattle.std.specs.Int.{to_be_bytes, from_be_bytes, w16, w32, w64}
use Rattle.host_ids.specs.declared.proposal.TheConstants.{MOST_SERIES, MOST_SESSIONS}
use Rattle.session_lru.specs.declared.session.Session.{Session}
use Rattle.session_lru.specs.Table.{Table}

-- ---- the spelling

-- a series in eight bytes, the length of its reply in two, and the reply
abbrev pub reply_bytes : ℕ × List ℕ → List ℕ
reply_bytes e = to_be_bytes w64 e.0 ++ to_be_bytes w16 (length e.1) ++ e.1

-- a client and its responded value in eight bytes each, the number of its replies in four, and the replies by ascending series
abbrev pub session_bytes : ℕ × Session → List ℕ
session_bytes e = to_be_bytes w64 e.0 ++ to_be_bytes w64 (e.1).responded ++ to_be_bytes w32 (length (e.1).replies) ++ flat_map reply_bytes (e.1).replies

-- the limit and the number of sessions in four bytes each, and the sessions, the one touched longest ago first
abbrev pub section : Table → List ℕ
section t = to_be_bytes w32 t.limit ++ to_be_bytes w32 (length t.sessions) ++ flat_map session_bytes (reverse t.sessions)

-- ---- what is a table

-- each series is above the one before and at most the greatest, and each reply has fewer than 2^16 bytes
abbrev pub are_replies : ℕ → List (ℕ × List ℕ) → Bool
are_replies before [] = true
are_replies before (e ∷ es) = nat_lt before e.0 && nat_le e.0 MOST_SERIES && nat_lt (length e.1) (2 ^ 16) && are_replies e.0 es

-- a reply of fewer than 2^16 bytes
abbrev pub is_short : ℕ × List ℕ → Bool
is_short e = nat_lt (length e.1) (2 ^ 16)

-- the client is 1 to 2^64-1, its responded value at most the greatest series, and its replies are above that
abbrev pub is_session : ℕ × Session → Bool
is_session e = nat_le 1 e.0 && nat_lt e.0 (2 ^ 64) && nat_le (e.1).responded MOST_SERIES && are_replies (e.1).responded (e.1).replies && nat_lt (length (e.1).replies) (2 ^ 32)

abbrev pub has_client : ℕ → List (ℕ × Session) → Bool
has_client client sessions = list_any (λ e. e.0 == client) sessions

-- no client has two sessions
abbrev pub all_differ : List (ℕ × Session) → Bool
all_differ [] = true
all_differ (e ∷ es) = not (has_client e.0 es) && all_differ es

-- a limit of 1 to 4,096, and at most that number of sessions
abbrev pub is_table : Table → Bool
is_table t = nat_le 1 t.limit && nat_le t.limit MOST_SESSIONS && nat_le (length t.sessions) t.limit && list_all is_session t.sessions && all_differ t.sessions

-- ---- reading: a value, or the place of the first field that is refused or cut short

-- the first n bytes, and what stands after them
abbrev pub part_of : ℕ → List ℕ → Option (List ℕ × List ℕ)
part_of n bytes = if nat_le n (length bytes) then Some (take n bytes, drop n bytes) else None

-- a field of a number of bytes is there and passes, and what comes after it goes on
abbrev pub field : {A : Type 0} → ℕ → Option (List ℕ × List ℕ) → (List ℕ → Bool) → (List ℕ → List ℕ → Result A ℕ) → Result A ℕ
field at None test next = Err at
field at (Some p) test next = if test p.0 then next p.0 p.1 else Err at

abbrev pub anything : List ℕ → Bool
anything bytes = true

-- a number of replies above a series, and what stands after them with its place
pub record Rest (A : Type 0) : Type 0 where
  pub value : A
  pub at : ℕ
  pub bytes : List ℕ

abbrev pub with_first : {A : Type 0} → A → Result (Rest (List A)) ℕ → Result (Rest (List A)) ℕ
with_first x (Ok r) = Ok (record { value = x ∷ r.value; at = r.at; bytes = r.bytes })
with_first x (Err at) = Err at

abbrev pub is_series : ℕ → List ℕ → Bool
is_series before bytes = nat_lt before (from_be_bytes w64 bytes) && nat_le (from_be_bytes w64 bytes) MOST_SERIES

unfoldable pub read_replies : ℕ → ℕ → ℕ → List ℕ → Result (Rest (List (ℕ × List ℕ))) ℕ
read_replies zero before at bytes = Ok (record { value = []; at = at; bytes = bytes })
read_replies (suc n) before at bytes =
    field at (part_of 8 bytes) (is_series before)
    (λ series more. field (at + 8) (part_of 2 more) anything
    (λ size beyond. field (at + 10) (part_of (from_be_bytes w16 size) beyond) anything
    (λ text rest. with_first (from_be_bytes w64 series, text) (read_replies n (from_be_bytes w64 series) (at + 10 + length text) rest))))

-- the next n sessions, of which the first was touched longest ago, after those that were read, the last one first
abbrev pub is_client : List (ℕ × Session) → List ℕ → Bool
is_client before bytes = nat_le 1 (from_be_bytes w64 bytes) && not (has_client (from_be_bytes w64 bytes) before)

abbrev pub is_responded : List ℕ → Bool
is_responded bytes = nat_le (from_be_bytes w64 bytes) MOST_SERIES

abbrev pub then_replies : {A : Type 0} → Result (Rest (List (ℕ × List ℕ))) ℕ → (List (ℕ × List ℕ) → ℕ → List ℕ → Result A ℕ) → Result A ℕ
then_replies (Ok r) next = next r.value r.at r.bytes
then_replies (Err at) next = Err at

unfoldable pub read_sessions : ℕ → List (ℕ × Session) → ℕ → List ℕ → Result (List (ℕ × Session)) ℕ
read_sessions zero before at [] = Ok before
read_sessions zero before at (b ∷ bytes) = Err at
read_sessions (suc n) before at bytes =
    field at (part_of 8 bytes) (is_client before)
    (λ client more. field (at + 8) (part_of 8 more) is_responded
    (λ responded beyond. field (at + 16) (part_of 4 beyond) anything
    (λ count rest. then_replies (read_replies (from_be_bytes w32 count) (from_be_bytes w64 responded) (at + 20) rest)
    (λ replies next left. read_sessions n ((from_be_bytes w64 client, record { responded = from_be_bytes w64 responded; replies = replies }) ∷ before) next left))))

abbrev pub is_limit : List ℕ → Bool
is_limit bytes = nat_le 1 (from_be_bytes w32 bytes) && nat_le (from_be_bytes w32 bytes) MOST_SESSIONS

abbrev pub with_limit : ℕ → Result (List (ℕ × Session)) ℕ → Result Table ℕ
with_limit limit (Ok sessions) = Ok (record { limit = limit; sessions = sessions })
with_limit limit (Err at) = Err at

-- the table that bytes are, or the place of the first field that is refused or cut short, or of the first byte after the last field
unfoldable pub read_section : List ℕ → Result Table ℕ
read_section bytes =
    field 0 (part_of 4 bytes) is_limit
    (λ limit more. field 4 (part_of 4 more) (λ count. nat_le (from_be_bytes w32 count) (from_be_bytes w32 limit))
    (λ count rest. with_limit (from_be_bytes w32 limit) (read_sessions (from_be_bytes w32 count) [] 8 rest)))

-- ---- laws

abbrev pub AreBytes : List ℕ → Type 0
AreBytes bytes = list_all (λ b. nat_lt b 256) bytes ≡ true

-- what a table is spelt as reads as that table
abbrev pub ReadsBack : Type 0
ReadsBack = (t : Table) → is_table t ≡ true → read_section (section t) ≡ Ok t

-- bytes that read as a table are its spelling
abbrev pub SpellsOne : Type 0
SpellsOne = (bytes : List ℕ) (t : Table) → AreBytes bytes → read_section bytes ≡ Ok t → (is_table t ≡ true) × (bytes ≡ section t)
