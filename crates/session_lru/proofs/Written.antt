-- What a table is spelt as reads as that table.
use Rattle.std.proofs.Common.{◌≡◌, ℕ, suc, ◌+◌, ◌^◌, ◌<◌, ◌≤◌, List, [], ◌∷◌, ◌++◌, true, false, Result, Ok, length, reverse, refl, sym, ap, ◌∙◌, append_assoc, length-append, arith}
use mathlib.Core.List.{reverse_aux}
use Rattle.std.specs.Prelude.{not, nat_le}
use Rattle.std.specs.List.{list_all, flat_map}
use Rattle.std.specs.Int.{from_be_bytes, to_be_bytes, w16, w32, w64}
use Rattle.std.proofs.lemmas.Bool.{le-leb, lt-ltb, and_from}
use Rattle.std.proofs.lemmas.List.{reverse-reverse, length-reverse}
use Rattle.std.proofs.lemmas.Nat.{from_be_bytes-to_be_bytes_2, from_be_bytes-to_be_bytes_4, from_be_bytes-to_be_bytes_8}
use Rattle.host_ids.specs.declared.proposal.TheConstants.{MOST_SERIES, MOST_SESSIONS}
use Rattle.byteorder.specs.Numbers.{length-bytes_high_first}
use Rattle.session_lru.specs.declared.session.Session.{Session}
use Rattle.session_lru.specs.Section.{reply_bytes, session_bytes, section, are_replies, is_session, has_client, all_differ, field, part_of, anything, Rest, with_first, with_limit, then_replies, is_series, is_client, is_responded, is_limit, read_replies, read_sessions, ReadsBack}
use Rattle.session_lru.proofs.Fields.{field_front}
use Rattle.session_lru.proofs.Steps.{beyond_text, beyond_size, beyond_series, one_reply, beyond_replies, beyond_count, beyond_responded, beyond_client, one_session, beyond_number, beyond_limit, whole_section}
use Rattle.session_lru.proofs.Parts.{and_left, and_right, not_true, reply_parts, IsASession, session_parts, table_parts}

-- ---- replies

module _ (n before at : ℕ) (e : ℕ × List ℕ) (more : List ℕ) where
  abbrev series : List ℕ
  series = to_be_bytes w64 e.0

  abbrev size : List ℕ
  size = to_be_bytes w16 (length e.1)

  pub reply_shape : reply_bytes e ++ more ≡ series ++ (size ++ (e.1 ++ more))
  reply_shape = append_assoc series (size ++ e.1) more ∙ ap (λ (l : List ℕ). series ++ l) (append_assoc size e.1 more)

  -- a reply that stands first is read, and what stands after it comes next
  reply_front : before < e.0 → e.0 ≤ MOST_SERIES → length e.1 < 2 ^ 16 → read_replies (suc n) before at (reply_bytes e ++ more) ≡ with_first e (read_replies n e.0 (at + 10 + length e.1) more)
  reply_front above most short =
      let same : from_be_bytes w64 series ≡ e.0 = from_be_bytes-to_be_bytes_8 e.0 (omega (arith, most)) in
      let count : from_be_bytes w16 size ≡ length e.1 = from_be_bytes-to_be_bytes_2 (length e.1) short in
      let good : is_series before series ≡ true = rw same (and_from _ _ (lt-ltb before e.0 above) (le-leb e.0 MOST_SERIES most)) in
      one_reply n before at (reply_bytes e ++ more)
      ∙ ap (λ (l : List ℕ). field at (part_of 8 l) (is_series before) (λ s m. beyond_series n at s m)) reply_shape
      ∙ field_front at 8 (is_series before) (λ s m. beyond_series n at s m) series (size ++ (e.1 ++ more)) (length-bytes_high_first 8 e.0) good
      ∙ field_front (at + 8) 2 anything (λ z b. beyond_size n at series z b) size (e.1 ++ more) (length-bytes_high_first 2 (length e.1)) refl
      ∙ ap (λ (k : ℕ). field (at + 10) (part_of k (e.1 ++ more)) anything (λ t r. beyond_text n at series t r)) count
      ∙ field_front (at + 10) (length e.1) anything (λ t r. beyond_text n at series t r) e.1 more refl refl
      ∙ ap (λ (x : ℕ). with_first (x, e.1) (read_replies n x (at + 10 + length e.1) more)) same

reply_length : (e : ℕ × List ℕ) → length (reply_bytes e) ≡ 10 + length e.1
reply_length e =
    rw (length-append (to_be_bytes w64 e.0) (to_be_bytes w16 (length e.1) ++ e.1), length-append (to_be_bytes w16 (length e.1)) e.1, length-bytes_high_first 8 e.0, length-bytes_high_first 2 (length e.1))
    (omega arith)

pub replies_front : (es : List (ℕ × List ℕ)) (before at : ℕ) (rest : List ℕ) → are_replies before es ≡ true
    → read_replies (length es) before at (flat_map reply_bytes es ++ rest) ≡ Ok (record { value = es; at = at + length (flat_map reply_bytes es); bytes = rest })
unfolding read_replies
replies_front [] before at rest h = let same : at ≡ at + 0 = omega arith in ap (λ (k : ℕ). Ok (record { value = []; at = k; bytes = rest })) same
replies_front (e ∷ es) before at rest h =
    let p = reply_parts before e es h in
    let fits : at + 10 + length e.1 + length (flat_map reply_bytes es) ≡ at + length (flat_map reply_bytes (e ∷ es)) =
    (let a = length-append (reply_bytes e) (flat_map reply_bytes es) in let b = reply_length e in omega (arith, a, b)) in
    ap (λ (l : List ℕ). read_replies (suc (length es)) before at l) (append_assoc (reply_bytes e) (flat_map reply_bytes es) rest)
    ∙ reply_front (length es) before at e (flat_map reply_bytes es ++ rest) p.above p.most p.short
    ∙ ap (λ (r : Result (Rest (List (ℕ × List ℕ))) ℕ). with_first e r) (replies_front es e.0 (at + 10 + length e.1) rest p.rest)
    ∙ ap (λ (k : ℕ). Ok (record { value = e ∷ es; at = k; bytes = rest })) fits

-- ---- sessions

module _ (n : ℕ) (before : List (ℕ × Session)) (at : ℕ) (e : ℕ × Session) (more : List ℕ) where
  abbrev client : List ℕ
  client = to_be_bytes w64 e.0

  abbrev responded : List ℕ
  responded = to_be_bytes w64 (e.1).responded

  abbrev count : List ℕ
  count = to_be_bytes w32 (length (e.1).replies)

  abbrev texts : List ℕ
  texts = flat_map reply_bytes (e.1).replies

  pub session_shape : session_bytes e ++ more ≡ client ++ (responded ++ (count ++ (texts ++ more)))
  session_shape = append_assoc client (responded ++ (count ++ texts)) more
      ∙ ap (λ (l : List ℕ). client ++ l) (append_assoc responded (count ++ texts) more ∙ ap (λ (l : List ℕ). responded ++ l) (append_assoc count texts more))

  session_length : length (session_bytes e) ≡ 20 + length texts
  session_length =
      rw (
        length-append client (responded ++ (count ++ texts)),
        length-append responded (count ++ texts),
        length-append count texts,
        length-bytes_high_first 8 e.0,
        length-bytes_high_first 8 (e.1).responded,
        length-bytes_high_first 4 (length (e.1).replies),
      ) (omega arith)

  session_front : IsASession e → has_client e.0 before ≡ false → read_sessions (suc n) before at (session_bytes e ++ more) ≡ read_sessions n (e ∷ before) (at + length (session_bytes e)) more
  session_front s new =
      let c : from_be_bytes w64 client ≡ e.0 = from_be_bytes-to_be_bytes_8 e.0 s.fits in
      let r : from_be_bytes w64 responded ≡ (e.1).responded = from_be_bytes-to_be_bytes_8 (e.1).responded (omega (arith, s.most)) in
      let k : from_be_bytes w32 count ≡ length (e.1).replies = from_be_bytes-to_be_bytes_4 (length (e.1).replies) s.few in
      let good : is_client before client ≡ true = rw (c, new) (and_from _ _ (le-leb 1 e.0 s.one) refl) in
      let responds : is_responded responded ≡ true = rw r (le-leb (e.1).responded MOST_SERIES s.most) in
      let next : at + 20 + length texts ≡ at + length (session_bytes e) = (let l = session_length in omega (arith, l)) in
      one_session n before at (session_bytes e ++ more)
      ∙ ap (λ (l : List ℕ). field at (part_of 8 l) (is_client before) (λ x m. beyond_client n before at x m)) session_shape
      ∙ field_front at 8 (is_client before) (λ x m. beyond_client n before at x m) client (responded ++ (count ++ (texts ++ more))) (length-bytes_high_first 8 e.0) good
      ∙ field_front (at + 8) 8 is_responded (λ x m. beyond_responded n before at client x m) responded (count ++ (texts ++ more)) (length-bytes_high_first 8 (e.1).responded) responds
      ∙ field_front (at + 16) 4 anything (λ x m. beyond_count n before at client responded x m) count (texts ++ more) (length-bytes_high_first 4 (length (e.1).replies)) refl
      ∙ ap (λ (x : ℕ). then_replies (read_replies x (from_be_bytes w64 responded) (at + 20) (texts ++ more)) (λ replies next left. beyond_replies n before client responded replies next left)) k
      ∙ ap (λ (x : ℕ). then_replies (read_replies (length (e.1).replies) x (at + 20) (texts ++ more)) (λ replies next left. beyond_replies n before client responded replies next left)) r
      ∙ ap (λ (x : Result (Rest (List (ℕ × List ℕ))) ℕ). then_replies x (λ replies next left. beyond_replies n before client responded replies next left)) (replies_front (e.1).replies (e.1).responded (at + 20) more s.replies)
      ∙ ap (λ (x : ℕ). read_sessions n ((x, record { responded = from_be_bytes w64 responded; replies = (e.1).replies }) ∷ before) (at + 20 + length texts) more) c
      ∙ ap (λ (x : ℕ). read_sessions n ((e.0, record { responded = x; replies = (e.1).replies }) ∷ before) (at + 20 + length texts) more) r
      ∙ ap (λ (x : ℕ). read_sessions n (e ∷ before) x more) next

-- each is new to those before it
abbrev pub NewTo : List (ℕ × Session) → List (ℕ × Session) → Type 0
NewTo [] before = Unit {0}
NewTo (e ∷ es) before = (has_client e.0 before ≡ false) × NewTo es (e ∷ before)

sessions_front : (es before : List (ℕ × Session)) (at : ℕ) → list_all is_session es ≡ true → NewTo es before → read_sessions (length es) before at (flat_map session_bytes es) ≡ Ok (reverse_aux es before)
unfolding read_sessions
sessions_front [] before at h new = refl
sessions_front (e ∷ es) before at h new =
    session_front (length es) before at e (flat_map session_bytes es) (session_parts e (and_left (is_session e) (list_all is_session es) h)) new.0
    ∙ sessions_front es (e ∷ before) (at + length (session_bytes e)) (and_right (is_session e) (list_all is_session es) h) new.1

-- from the back, each is new to those before it
new_back : (es acc : List (ℕ × Session)) → all_differ es ≡ true → NewTo acc es → NewTo (reverse_aux es acc) []
new_back [] acc h new = new
new_back (e ∷ es) acc h new =
    new_back es (e ∷ acc) (and_right (not (has_client e.0 es)) (all_differ es) h) (not_true (has_client e.0 es) (and_left (not (has_client e.0 es)) (all_differ es) h), new)

pub all_back : (es acc : List (ℕ × Session)) → list_all is_session es ≡ true → list_all is_session acc ≡ true → list_all is_session (reverse_aux es acc) ≡ true
all_back [] acc h k = k
all_back (e ∷ es) acc h k = all_back es (e ∷ acc) (and_right (is_session e) (list_all is_session es) h) (and_from _ _ (and_left (is_session e) (list_all is_session es) h) k)

-- ---- the whole

pub reads_back : ReadsBack
reads_back t h =
    let p = table_parts t h in
    let limit : List ℕ = to_be_bytes w32 t.limit in
    let count : List ℕ = to_be_bytes w32 (length t.sessions) in
    let rest : List ℕ = flat_map session_bytes (reverse t.sessions) in
    let l : from_be_bytes w32 limit ≡ t.limit = from_be_bytes-to_be_bytes_4 t.limit (omega (arith, p.most)) in
    let c : from_be_bytes w32 count ≡ length t.sessions = from_be_bytes-to_be_bytes_4 (length t.sessions) (omega (arith, p.most, p.within)) in
    let good : is_limit limit ≡ true = rw l (and_from _ _ (le-leb 1 t.limit p.one) (le-leb t.limit MOST_SESSIONS p.most)) in
    let few : nat_le (from_be_bytes w32 count) (from_be_bytes w32 limit) ≡ true = rw (c, l) (le-leb (length t.sessions) t.limit p.within) in
    whole_section (section t)
    ∙ field_front 0 4 is_limit (λ x m. beyond_limit x m) limit (count ++ rest) (length-bytes_high_first 4 t.limit) good
    ∙ field_front 4 4 (λ x. nat_le (from_be_bytes w32 x) (from_be_bytes w32 limit)) (λ x m. beyond_number limit x m) count rest (length-bytes_high_first 4 (length t.sessions)) few
    ∙ ap (λ (x : ℕ). with_limit x (read_sessions (from_be_bytes w32 count) [] 8 rest)) l
    ∙ ap (λ (x : ℕ). with_limit t.limit (read_sessions x [] 8 rest)) (c ∙ sym (length-reverse t.sessions))
    ∙ ap (λ (x : Result (List (ℕ × Session)) ℕ). with_limit t.limit x) (sessions_front (reverse t.sessions) [] 8 (all_back t.sessions [] p.sessions refl) (new_back t.sessions [] p.differ tt))
    ∙ ap (λ (x : List (ℕ × Session)). Ok (record { limit = t.limit; sessions = x })) (reverse-reverse t.sessions)
