-- Bytes that read as a table are its spelling.
use Rattle.std.proofs.Common.{◌≡◌, ℕ, zero, suc, ◌+◌, ◌^◌, ◌<◌, ◌≤◌, List, [], ◌∷◌, ◌++◌, true, Result, Ok, Err, length, take, drop, get_or, reverse, refl, sym, ap, ◌∙◌, subst, append_assoc, arith}
use mathlib.Core.List.{reverse_aux}
use Rattle.std.specs.Prelude.{nat_le, nat_lt}
use Rattle.std.specs.List.{list_all, flat_map}
use Rattle.std.specs.Int.{from_be_bytes, to_be_bytes, w16, w32, w64}
use Rattle.std.proofs.lemmas.Bool.{leb-true, ltb-true, lt-ltb, and_from, not_from_false}
use Rattle.std.proofs.lemmas.List.{reverse-reverse, length-reverse, take-append-drop, length-take}
use Rattle.std.proofs.lemmas.Nat.{be_bytes_2, be_bytes_4, be_bytes_8}
use Rattle.host_ids.specs.declared.proposal.TheConstants.{MOST_SERIES, MOST_SESSIONS}
use Rattle.byteorder.specs.Endian.{big_number}
use Rattle.byteorder.specs.Numbers.{big_from-lt}
use Rattle.session_lru.specs.declared.session.Session.{Session}
use Rattle.session_lru.specs.Table.{Table}
use Rattle.session_lru.specs.Section.{reply_bytes, session_bytes, section, are_replies, is_session, has_client, all_differ, is_table, anything, Rest, with_first, with_limit, then_replies, is_series, is_client, is_responded, is_limit, read_replies, read_sessions, AreBytes, SpellsOne}
use Rattle.session_lru.proofs.Fields.{field_ok, number_2, number_4, number_8}
use Rattle.session_lru.proofs.Steps.{beyond_text, beyond_size, beyond_series, session_read, beyond_replies, beyond_count, beyond_responded, beyond_client, beyond_number, beyond_limit, whole_section}
use Rattle.session_lru.proofs.Parts.{and_left, and_right, not_true, reply_of_parts, session_of_parts, table_of_parts}
use Rattle.session_lru.proofs.Written.{reply_shape, session_shape, NewTo, all_back}

-- ---- bytes

pub bytes_take : (n : ℕ) (bytes : List ℕ) → AreBytes bytes → AreBytes (take n bytes)
bytes_take zero bytes a = refl
bytes_take (suc n) [] a = refl
bytes_take (suc n) (b ∷ bytes) a = and_from _ _ (and_left (nat_lt b 256) _ a) (bytes_take n bytes (and_right (nat_lt b 256) _ a))

pub bytes_drop : (n : ℕ) (bytes : List ℕ) → AreBytes bytes → AreBytes (drop n bytes)
bytes_drop zero bytes a = a
bytes_drop (suc n) [] a = refl
bytes_drop (suc n) (b ∷ bytes) a = bytes_drop n bytes (and_right (nat_lt b 256) _ a)

pub byte_below : (bytes : List ℕ) → AreBytes bytes → (i : ℕ) → get_or bytes i 0 < 256
byte_below [] a i = omega arith
byte_below (b ∷ bytes) a zero = ltb-true b 256 (and_left (nat_lt b 256) _ a)
byte_below (b ∷ bytes) a (suc i) = byte_below bytes (and_right (nat_lt b 256) _ a) i

pub taken : (n : ℕ) (bytes : List ℕ) → n ≤ length bytes → length (take n bytes) ≡ n
taken n bytes h = let l = length-take n bytes in omega (arith, l, h)

-- ---- numbers are spelt one way, and fit

spelt_2 : (bytes : List ℕ) (n : ℕ) → AreBytes bytes → 2 ≤ length bytes → n ≡ from_be_bytes w16 (take 2 bytes) → to_be_bytes w16 n ≡ take 2 bytes
spelt_2 bytes n a h e = be_bytes_2 (take 2 bytes) n (taken 2 bytes h) (byte_below (take 2 bytes) (bytes_take 2 bytes a)) e

spelt_4 : (bytes : List ℕ) (n : ℕ) → AreBytes bytes → 4 ≤ length bytes → n ≡ from_be_bytes w32 (take 4 bytes) → to_be_bytes w32 n ≡ take 4 bytes
spelt_4 bytes n a h e = be_bytes_4 (take 4 bytes) n (taken 4 bytes h) (byte_below (take 4 bytes) (bytes_take 4 bytes a)) e

spelt_8 : (bytes : List ℕ) (n : ℕ) → AreBytes bytes → 8 ≤ length bytes → n ≡ from_be_bytes w64 (take 8 bytes) → to_be_bytes w64 n ≡ take 8 bytes
spelt_8 bytes n a h e = be_bytes_8 (take 8 bytes) n (taken 8 bytes h) (byte_below (take 8 bytes) (bytes_take 8 bytes a)) e

fits_2 : (bytes : List ℕ) → AreBytes bytes → from_be_bytes w16 (take 2 bytes) < 2 ^ 16
fits_2 bytes a = let l : big_number 2 (take 2 bytes) < 2 ^ 16 = big_from-lt 0 2 (take 2 bytes) (byte_below (take 2 bytes) (bytes_take 2 bytes a)) in subst (λ (x : ℕ). x < 2 ^ 16) (sym (number_2 (take 2 bytes))) l

fits_4 : (bytes : List ℕ) → AreBytes bytes → from_be_bytes w32 (take 4 bytes) < 2 ^ 32
fits_4 bytes a = let l : big_number 4 (take 4 bytes) < 2 ^ 32 = big_from-lt 0 4 (take 4 bytes) (byte_below (take 4 bytes) (bytes_take 4 bytes a)) in subst (λ (x : ℕ). x < 2 ^ 32) (sym (number_4 (take 4 bytes))) l

fits_8 : (bytes : List ℕ) → AreBytes bytes → from_be_bytes w64 (take 8 bytes) < 2 ^ 64
fits_8 bytes a = let l : big_number 8 (take 8 bytes) < 2 ^ 64 = big_from-lt 0 8 (take 8 bytes) (byte_below (take 8 bytes) (bytes_take 8 bytes a)) in subst (λ (x : ℕ). x < 2 ^ 64) (sym (number_8 (take 8 bytes))) l

-- ---- replies

first_ok : {A : Type 0} (x : A) (o : Result (Rest (List A)) ℕ) (r : Rest (List A)) → with_first x o ≡ Ok r → (q : Rest (List A)) × (o ≡ Ok q) × (record { value = x ∷ q.value; at = q.at; bytes = q.bytes } ≡ r)
first_ok x (Ok q) r h = (q, refl, cc)
first_ok x (Err at) r h = absurd cc

-- what replies that were read say of the bytes
pub record RepliesRead (n before : ℕ) (bytes : List ℕ) (r : Rest (List (ℕ × List ℕ))) : Type 0 where
  pub counted : length r.value ≡ n
  pub good : are_replies before r.value ≡ true
  pub spelt : bytes ≡ flat_map reply_bytes r.value ++ r.bytes
  pub left : AreBytes r.bytes

-- three parts in front of the rest
three_parts : (k : ℕ) (bytes : List ℕ) → bytes ≡ take 8 bytes ++ (take 2 (drop 8 bytes) ++ (take k (drop 2 (drop 8 bytes)) ++ drop k (drop 2 (drop 8 bytes))))
three_parts k bytes =
    sym (take-append-drop 8 bytes) ∙ ap (λ (l : List ℕ). take 8 bytes ++ l) (sym (take-append-drop 2 (drop 8 bytes))
    ∙ ap (λ (l : List ℕ). take 2 (drop 8 bytes) ++ l) (sym (take-append-drop k (drop 2 (drop 8 bytes)))))

replies_read : (n before at : ℕ) (bytes : List ℕ) (r : Rest (List (ℕ × List ℕ))) → AreBytes bytes → read_replies n before at bytes ≡ Ok r → RepliesRead n before bytes r
unfolding read_replies
replies_read zero before at bytes r a h =
    let same : record { value = []; at = at; bytes = bytes } ≡ r = cc in
    subst (λ (q : Rest (List (ℕ × List ℕ))). RepliesRead zero before bytes q) same (record { counted = refl; good = refl; spelt = refl; left = a })
replies_read (suc n) before at bytes r a h =
    let f = field_ok at 8 (is_series before) (λ s m. beyond_series n at s m) bytes r h in
    let series : List ℕ = take 8 bytes in
    let more : List ℕ = drop 8 bytes in
    let g = field_ok (at + 8) 2 anything (λ s m. beyond_size n at series s m) more r f.goes in
    let k : ℕ = from_be_bytes w16 (take 2 more) in
    let beyond : List ℕ = drop 2 more in
    let t = field_ok (at + 10) k anything (λ s m. beyond_text n at series s m) beyond r g.goes in
    let text : List ℕ = take k beyond in
    let rest : List ℕ = drop k beyond in
    let first : ℕ × List ℕ = (from_be_bytes w64 series, text) in
    let w = first_ok first (read_replies n (from_be_bytes w64 series) (at + 10 + length text) rest) r t.goes in
    let am = bytes_drop 8 bytes a in
    let ar = bytes_drop k beyond (bytes_drop 2 more am) in
    let ih = replies_read n (from_be_bytes w64 series) (at + 10 + length text) rest w.0 ar w.1 in
    let size = taken k beyond t.there in
    let above = ltb-true before (from_be_bytes w64 series) (and_left (nat_lt before (from_be_bytes w64 series)) _ f.passes) in
    let most = leb-true (from_be_bytes w64 series) MOST_SERIES (and_right (nat_lt before (from_be_bytes w64 series)) _ f.passes) in
    let small = fits_2 more am in
    subst (λ (q : Rest (List (ℕ × List ℕ))). RepliesRead (suc n) before bytes q) w.2 (record {
      counted = ap suc ih.counted;
      good = reply_of_parts before first (w.0).value (record { above = above; most = most; short = omega (arith, size, small); rest = ih.good });
      spelt = three_parts k bytes
          ∙ ap (λ (l : List ℕ). l ++ (take 2 more ++ (text ++ rest))) (sym (spelt_8 bytes (from_be_bytes w64 series) a f.there refl))
          ∙ ap (λ (l : List ℕ). to_be_bytes w64 (from_be_bytes w64 series) ++ (l ++ (text ++ rest))) (sym (spelt_2 more (length text) am g.there size))
          ∙ sym (reply_shape n before at first rest)
          ∙ ap (λ (l : List ℕ). reply_bytes first ++ l) ih.spelt
          ∙ sym (append_assoc (reply_bytes first) (flat_map reply_bytes (w.0).value) (w.0).bytes);
      left = ih.left;
    })

-- ---- sessions

then_ok : {A : Type 0} (o : Result (Rest (List (ℕ × List ℕ))) ℕ) (next : List (ℕ × List ℕ) → ℕ → List ℕ → Result A ℕ) (x : A) → then_replies o next ≡ Ok x → (r : Rest (List (ℕ × List ℕ))) × (o ≡ Ok r) × (next r.value r.at r.bytes ≡ Ok x)
then_ok (Ok r) next x h = (r, refl, h)
then_ok (Err at) next x h = absurd cc

-- what sessions that were read say of the bytes
pub record SessionsRead (n : ℕ) (before : List (ℕ × Session)) (bytes : List ℕ) (after : List (ℕ × Session)) : Type 0 where
  pub read : List (ℕ × Session)
  pub counted : length read ≡ n
  pub good : list_all is_session read ≡ true
  pub new : NewTo read before
  pub spelt : bytes ≡ flat_map session_bytes read
  pub is : reverse_aux read before ≡ after

four_parts : (bytes : List ℕ) → bytes ≡ take 8 bytes ++ (take 8 (drop 8 bytes) ++ (take 4 (drop 8 (drop 8 bytes)) ++ drop 4 (drop 8 (drop 8 bytes))))
four_parts bytes =
    sym (take-append-drop 8 bytes) ∙ ap (λ (l : List ℕ). take 8 bytes ++ l) (sym (take-append-drop 8 (drop 8 bytes))
    ∙ ap (λ (l : List ℕ). take 8 (drop 8 bytes) ++ l) (sym (take-append-drop 4 (drop 8 (drop 8 bytes)))))

sessions_read : (n : ℕ) (before : List (ℕ × Session)) (at : ℕ) (bytes : List ℕ) (after : List (ℕ × Session)) → AreBytes bytes → read_sessions n before at bytes ≡ Ok after → SessionsRead n before bytes after
unfolding read_sessions
sessions_read zero before at [] after a h =
    let same : before ≡ after = cc in
    record { read = []; counted = refl; good = refl; new = tt; spelt = refl; is = same }
sessions_read zero before at (b ∷ bytes) after a h = absurd cc
sessions_read (suc n) before at bytes after a h =
    let f = field_ok at 8 (is_client before) (λ s m. beyond_client n before at s m) bytes after h in
    let client : List ℕ = take 8 bytes in
    let more : List ℕ = drop 8 bytes in
    let g = field_ok (at + 8) 8 is_responded (λ s m. beyond_responded n before at client s m) more after f.goes in
    let responded : List ℕ = take 8 more in
    let beyond : List ℕ = drop 8 more in
    let k = field_ok (at + 16) 4 anything (λ s m. beyond_count n before at client responded s m) beyond after g.goes in
    let count : List ℕ = take 4 beyond in
    let rest : List ℕ = drop 4 beyond in
    let t = then_ok (read_replies (from_be_bytes w32 count) (from_be_bytes w64 responded) (at + 20) rest) (λ replies next left. beyond_replies n before client responded replies next left) after k.goes in
    let am = bytes_drop 8 bytes a in
    let ab = bytes_drop 8 more am in
    let ar = bytes_drop 4 beyond ab in
    let r = replies_read (from_be_bytes w32 count) (from_be_bytes w64 responded) (at + 20) rest t.0 ar t.1 in
    let first : ℕ × Session = session_read client responded (t.0).value in
    let ih = sessions_read n (first ∷ before) (t.0).at (t.0).bytes after r.left t.2 in
    let one = leb-true 1 first.0 (and_left (nat_le 1 first.0) _ f.passes) in
    let most = leb-true (first.1).responded MOST_SERIES g.passes in
    let counts = r.counted in
    let small = fits_4 beyond ab in
    record {
      read = first ∷ ih.read;
      counted = ap suc ih.counted;
      good = and_from _ _ (session_of_parts first (record { one = one; fits = fits_8 bytes a; most = most; replies = r.good; few = omega (arith, counts, small) })) ih.good;
      new = (not_true (has_client first.0 before) (and_right (nat_le 1 first.0) _ f.passes), ih.new);
      spelt = four_parts bytes
          ∙ ap (λ (l : List ℕ). l ++ (responded ++ (count ++ rest))) (sym (spelt_8 bytes first.0 a f.there refl))
          ∙ ap (λ (l : List ℕ). to_be_bytes w64 first.0 ++ (l ++ (count ++ rest))) (sym (spelt_8 more (first.1).responded am g.there refl))
          ∙ ap (λ (l : List ℕ). to_be_bytes w64 first.0 ++ (to_be_bytes w64 (first.1).responded ++ (l ++ rest))) (sym (spelt_4 beyond (length (t.0).value) ab k.there counts))
          ∙ ap (λ (l : List ℕ). to_be_bytes w64 first.0 ++ (to_be_bytes w64 (first.1).responded ++ (to_be_bytes w32 (length (t.0).value) ++ l))) r.spelt
          ∙ sym (session_shape n before at first (t.0).bytes)
          ∙ ap (λ (l : List ℕ). session_bytes first ++ l) ih.spelt;
      is = ih.is;
    }

-- ---- the whole

-- sessions that are new one after another all differ
differ_back : (es before : List (ℕ × Session)) → NewTo es before → all_differ before ≡ true → all_differ (reverse_aux es before) ≡ true
differ_back [] before new h = h
differ_back (e ∷ es) before new h = differ_back es (e ∷ before) new.1 (and_from _ _ (not_from_false (has_client e.0 before) new.0) h)

limit_ok : (limit : ℕ) (o : Result (List (ℕ × Session)) ℕ) (t : Table) → with_limit limit o ≡ Ok t → (s : List (ℕ × Session)) × (o ≡ Ok s) × (record { limit = limit; sessions = s } ≡ t)
limit_ok limit (Ok s) t h = (s, refl, cc)
limit_ok limit (Err at) t h = absurd cc

two_parts : (bytes : List ℕ) → bytes ≡ take 4 bytes ++ (take 4 (drop 4 bytes) ++ drop 4 (drop 4 bytes))
two_parts bytes = sym (take-append-drop 4 bytes) ∙ ap (λ (l : List ℕ). take 4 bytes ++ l) (sym (take-append-drop 4 (drop 4 bytes)))

pub spells_one : SpellsOne
spells_one bytes t a h =
    let f = field_ok 0 4 is_limit (λ s m. beyond_limit s m) bytes t (sym (whole_section bytes) ∙ h) in
    let limit : List ℕ = take 4 bytes in
    let more : List ℕ = drop 4 bytes in
    let most : ℕ = from_be_bytes w32 limit in
    let g = field_ok 4 4 (λ x. nat_le (from_be_bytes w32 x) most) (λ s m. beyond_number limit s m) more t f.goes in
    let count : List ℕ = take 4 more in
    let rest : List ℕ = drop 4 more in
    let am = bytes_drop 4 bytes a in
    let w = limit_ok most (read_sessions (from_be_bytes w32 count) [] 8 rest) t g.goes in
    let s = sessions_read (from_be_bytes w32 count) [] 8 rest w.0 (bytes_drop 4 more am) w.1 in
    let few = leb-true (from_be_bytes w32 count) most g.passes in
    let counted : length w.0 ≡ from_be_bytes w32 count = ap length (sym s.is) ∙ length-reverse s.read ∙ s.counted in
    let back : s.read ≡ reverse w.0 = sym (reverse-reverse s.read) ∙ ap reverse s.is in
    subst (λ (x : Table). (is_table x ≡ true) × (bytes ≡ section x)) w.2 (
      table_of_parts (record { limit = most; sessions = w.0 }) (record {
        one = leb-true 1 most (and_left (nat_le 1 most) _ f.passes);
        most = leb-true most MOST_SESSIONS (and_right (nat_le 1 most) _ f.passes);
        within = omega (arith, counted, few);
        sessions = subst (λ (x : List (ℕ × Session)). list_all is_session x ≡ true) s.is (all_back s.read [] s.good refl);
        differ = subst (λ (x : List (ℕ × Session)). all_differ x ≡ true) s.is (differ_back s.read [] s.new refl);
      }),
      two_parts bytes
          ∙ ap (λ (l : List ℕ). l ++ (count ++ rest)) (sym (spelt_4 bytes most a f.there refl))
          ∙ ap (λ (l : List ℕ). to_be_bytes w32 most ++ (l ++ rest)) (sym (spelt_4 more (length w.0) am g.there counted))
          ∙ ap (λ (l : List ℕ). to_be_bytes w32 most ++ (to_be_bytes w32 (length w.0) ++ l)) (s.spelt ∙ ap (λ (l : List (ℕ × Session)). flat_map session_bytes l) back),
    )

-- bytes that are below 256 at each place are bytes
pub are_bytes : (bytes : List ℕ) → ((i : ℕ) → get_or bytes i 0 < 256) → AreBytes bytes
are_bytes [] h = refl
are_bytes (b ∷ bytes) h = and_from _ _ (lt-ltb b 256 (h zero)) (are_bytes bytes (λ i. h (suc i)))
