-- What reading at a place gives, by the fields that stand there.
use Rattle.std.proofs.Common.{◌≡◌, ℕ, zero, suc, ◌+◌, ◌<◌, ◌≤◌, List, [], ◌∷◌, Bool, true, false, Result, Ok, Err, length, take, drop, refl, sym, ap, ◌∙◌, subst, arith, ◌⊎◌, inl, inr}
use Rattle.std.specs.Prelude.{◌&&◌, nat_le, nat_lt, not}
use Rattle.std.specs.Int.{from_be_bytes, w16, w32, w64}
use Rattle.std.proofs.lemmas.Bool.{le-leb, lt-ltb, lt-leb, le-ltb, and_from, and_left as and_false_left, and_right as and_false_right}
use Rattle.std.proofs.lemmas.List.{drop-drop, length-drop, drop_all}
use Rattle.host_ids.specs.declared.proposal.TheConstants.{MOST_SERIES, MOST_SESSIONS}
use Rattle.session_lru.specs.declared.session.Session.{Session}
use Rattle.session_lru.specs.declared.section.TableFault.{TableFault}
use Rattle.session_lru.specs.declared.section.TableFault.TheVariants.{NotTable}
use Rattle.session_lru.specs.Section.{has_client, anything, part_of, field, with_first, with_limit, then_replies, is_series, is_client, is_responded, is_limit, read_replies, read_sessions, read_section}
use Rattle.session_lru.proofs.Fields.{field_there, field_refused, field_cut}
use Rattle.session_lru.proofs.Opened.{taken}
use Rattle.session_lru.proofs.Steps.{beyond_text, beyond_size, beyond_series, one_reply, beyond_replies, beyond_count, beyond_responded, beyond_client, one_session, beyond_number, beyond_limit, whole_section}

-- ---- places

-- two faults are the same only at one place
pub same_place : {T : Type 0} (a b : ℕ) → ◌≡◌ {A = Result T TableFault} (Err (NotTable a)) (Err (NotTable b)) → a ≡ b
same_place a b e = cc

pub err_at : {A : Type 0} (r : Result A ℕ) (a b : ℕ) → a ≡ b → r ≡ Err a → r ≡ Err b
err_at r a b e h = subst (λ (k : ℕ). r ≡ Err k) e h

beyond : (at n : ℕ) (bytes : List ℕ) → drop n (drop at bytes) ≡ drop (at + n) bytes
beyond at n bytes = drop-drop n at bytes

left_of : (at n : ℕ) (bytes : List ℕ) → at + n ≤ length bytes → n ≤ length (drop at bytes)
left_of at n bytes h = let l = length-drop at bytes in omega (arith, l, h)

short_of : (at n : ℕ) (bytes : List ℕ) → at ≤ length bytes → length bytes < at + n → length (drop at bytes) < n
short_of at n bytes i h = let l = length-drop at bytes in omega (arith, l, i, h)

-- ---- a reply

module _ (n before at series : ℕ) (bytes : List ℕ) where
  abbrev here : List ℕ
  here = drop at bytes

  pub series_cut : at ≤ length bytes → length bytes < at + 8 → read_replies (suc n) before at here ≡ Err at
  series_cut i h = one_reply n before at here ∙ field_cut at 8 (is_series before) (λ s m. beyond_series n at s m) here (short_of at 8 bytes i h)

  refused_by : (x : ℕ) → (x ≤ before) ⊎ (MOST_SERIES < x) → (nat_lt before x && nat_le x MOST_SERIES) ≡ false
  refused_by x (inl l) = and_false_left (nat_lt before x) (nat_le x MOST_SERIES) (le-ltb before x l)
  refused_by x (inr l) = and_false_right (nat_lt before x) (nat_le x MOST_SERIES) (lt-leb x MOST_SERIES l)

  pub series_refused : at + 8 ≤ length bytes → series ≡ from_be_bytes w64 (take 8 here) → (series ≤ before) ⊎ (MOST_SERIES < series) → read_replies (suc n) before at here ≡ Err at
  series_refused h e bad =
      one_reply n before at here ∙ field_refused at 8 (is_series before) (λ s m. beyond_series n at s m) here (left_of at 8 bytes h)
      (subst (λ (x : ℕ). (nat_lt before x && nat_le x MOST_SERIES) ≡ false) e (refused_by series bad))

  module _ (h : at + 8 ≤ length bytes) (e : series ≡ from_be_bytes w64 (take 8 here)) (above : before < series) (most : series ≤ MOST_SERIES) where
    series_there : read_replies (suc n) before at here ≡ field (at + 8) (part_of 2 (drop (at + 8) bytes)) anything (λ size rest. beyond_size n at (take 8 here) size rest)
    series_there =
        one_reply n before at here
        ∙ field_there at 8 (is_series before) (λ s m. beyond_series n at s m) here (left_of at 8 bytes h)
        (subst (λ (x : ℕ). (nat_lt before x && nat_le x MOST_SERIES) ≡ true) e (and_from _ _ (lt-ltb before series above) (le-leb series MOST_SERIES most)))
        ∙ ap (λ (l : List ℕ). field (at + 8) (part_of 2 l) anything (λ size rest. beyond_size n at (take 8 here) size rest)) (beyond at 8 bytes)

    pub size_cut : length bytes < at + 10 → read_replies (suc n) before at here ≡ Err (at + 8)
    size_cut c = series_there ∙ field_cut (at + 8) 2 anything (λ size rest. beyond_size n at (take 8 here) size rest) (drop (at + 8) bytes) (short_of (at + 8) 2 bytes h (omega (arith, c)))

    module _ (size : ℕ) (k : at + 10 ≤ length bytes) (z : size ≡ from_be_bytes w16 (take 2 (drop (at + 8) bytes))) where
      size_there : read_replies (suc n) before at here ≡ field (at + 10) (part_of size (drop (at + 10) bytes)) anything (λ text rest. beyond_text n at (take 8 here) text rest)
      size_there =
          let next : at + 8 + 2 ≡ at + 10 = omega arith in
          series_there ∙ field_there (at + 8) 2 anything (λ s m. beyond_size n at (take 8 here) s m) (drop (at + 8) bytes) (left_of (at + 8) 2 bytes (omega (arith, k))) refl
          ∙ ap (λ (l : List ℕ). field (at + 10) (part_of (from_be_bytes w16 (take 2 (drop (at + 8) bytes))) l) anything (λ t r. beyond_text n at (take 8 here) t r)) (beyond (at + 8) 2 bytes ∙ ap (λ (p : ℕ). drop p bytes) next)
          ∙ ap (λ (s : ℕ). field (at + 10) (part_of s (drop (at + 10) bytes)) anything (λ t r. beyond_text n at (take 8 here) t r)) (sym z)

      pub text_cut : length bytes < at + 10 + size → read_replies (suc n) before at here ≡ Err (at + 10)
      text_cut c = size_there ∙ field_cut (at + 10) size anything (λ t r. beyond_text n at (take 8 here) t r) (drop (at + 10) bytes) (short_of (at + 10) size bytes k c)

      pub text_there : (text : List ℕ) → at + 10 + size ≤ length bytes → text ≡ take size (drop (at + 10) bytes)
          → read_replies (suc n) before at here ≡ with_first (series, text) (read_replies n series (at + 10 + size) (drop (at + 10 + size) bytes))
      text_there text m t =
          let count : length text ≡ size = ap length t ∙ taken size (drop (at + 10) bytes) (left_of (at + 10) size bytes m) in
          size_there ∙ field_there (at + 10) size anything (λ x r. beyond_text n at (take 8 here) x r) (drop (at + 10) bytes) (left_of (at + 10) size bytes m) refl
          ∙ ap (λ (x : List ℕ). with_first (from_be_bytes w64 (take 8 here), x) (read_replies n (from_be_bytes w64 (take 8 here)) (at + 10 + length x) (drop size (drop (at + 10) bytes)))) (sym t)
          ∙ ap (λ (x : ℕ). with_first (from_be_bytes w64 (take 8 here), text) (read_replies n (from_be_bytes w64 (take 8 here)) (at + 10 + x) (drop size (drop (at + 10) bytes)))) count
          ∙ ap (λ (x : ℕ). with_first (x, text) (read_replies n x (at + 10 + size) (drop size (drop (at + 10) bytes)))) (sym e)
          ∙ ap (λ (l : List ℕ). with_first (series, text) (read_replies n series (at + 10 + size) l)) (beyond (at + 10) size bytes)

-- ---- a session

module _ (n : ℕ) (before : List (ℕ × Session)) (at client : ℕ) (bytes : List ℕ) where
  abbrev there : List ℕ
  there = drop at bytes

  pub client_cut : at ≤ length bytes → length bytes < at + 8 → read_sessions (suc n) before at there ≡ Err at
  client_cut i h = one_session n before at there ∙ field_cut at 8 (is_client before) (λ s m. beyond_client n before at s m) there (short_of at 8 bytes i h)

  client_by : (x : ℕ) → (x ≡ 0) ⊎ (has_client x before ≡ true) → (nat_le 1 x && not (has_client x before)) ≡ false
  client_by x (inl l) = rw l refl
  client_by x (inr l) = rw l (and_false_right (nat_le 1 x) false refl)

  pub client_refused : at + 8 ≤ length bytes → client ≡ from_be_bytes w64 (take 8 there) → (client ≡ 0) ⊎ (has_client client before ≡ true) → read_sessions (suc n) before at there ≡ Err at
  client_refused h e bad =
      one_session n before at there ∙ field_refused at 8 (is_client before) (λ s m. beyond_client n before at s m) there (left_of at 8 bytes h)
      (subst (λ (x : ℕ). (nat_le 1 x && not (has_client x before)) ≡ false) e (client_by client bad))

  module _ (h : at + 8 ≤ length bytes) (e : client ≡ from_be_bytes w64 (take 8 there)) (one : 1 ≤ client) (new : has_client client before ≡ false) where
    client_there : read_sessions (suc n) before at there ≡ field (at + 8) (part_of 8 (drop (at + 8) bytes)) is_responded (λ s m. beyond_responded n before at (take 8 there) s m)
    client_there =
        one_session n before at there
        ∙ field_there at 8 (is_client before) (λ s m. beyond_client n before at s m) there (left_of at 8 bytes h)
        (subst (λ (x : ℕ). (nat_le 1 x && not (has_client x before)) ≡ true) e (and_from _ _ (le-leb 1 client one) (ap not new)))
        ∙ ap (λ (l : List ℕ). field (at + 8) (part_of 8 l) is_responded (λ s m. beyond_responded n before at (take 8 there) s m)) (beyond at 8 bytes)

    pub responded_cut : length bytes < at + 16 → read_sessions (suc n) before at there ≡ Err (at + 8)
    responded_cut c = client_there ∙ field_cut (at + 8) 8 is_responded (λ s m. beyond_responded n before at (take 8 there) s m) (drop (at + 8) bytes) (short_of (at + 8) 8 bytes h (omega (arith, c)))

    module _ (responded : ℕ) (k : at + 16 ≤ length bytes) (r : responded ≡ from_be_bytes w64 (take 8 (drop (at + 8) bytes))) where
      pub responded_refused : MOST_SERIES < responded → read_sessions (suc n) before at there ≡ Err (at + 8)
      responded_refused bad =
          client_there ∙ field_refused (at + 8) 8 is_responded (λ s m. beyond_responded n before at (take 8 there) s m) (drop (at + 8) bytes) (left_of (at + 8) 8 bytes (omega (arith, k)))
          (subst (λ (x : ℕ). nat_le x MOST_SERIES ≡ false) r (lt-leb responded MOST_SERIES bad))

      module _ (most : responded ≤ MOST_SERIES) where
        abbrev raised : List ℕ
        raised = take 8 (drop (at + 8) bytes)

        responded_there : read_sessions (suc n) before at there ≡ field (at + 16) (part_of 4 (drop (at + 16) bytes)) anything (λ s m. beyond_count n before at (take 8 there) raised s m)
        responded_there =
            let next : at + 8 + 8 ≡ at + 16 = omega arith in
            client_there ∙ field_there (at + 8) 8 is_responded (λ s m. beyond_responded n before at (take 8 there) s m) (drop (at + 8) bytes) (left_of (at + 8) 8 bytes (omega (arith, k)))
            (subst (λ (x : ℕ). nat_le x MOST_SERIES ≡ true) r (le-leb responded MOST_SERIES most))
            ∙ ap (λ (l : List ℕ). field (at + 16) (part_of 4 l) anything (λ s m. beyond_count n before at (take 8 there) raised s m)) (beyond (at + 8) 8 bytes ∙ ap (λ (p : ℕ). drop p bytes) next)

        pub count_cut : length bytes < at + 20 → read_sessions (suc n) before at there ≡ Err (at + 16)
        count_cut c = responded_there ∙ field_cut (at + 16) 4 anything (λ s m. beyond_count n before at (take 8 there) raised s m) (drop (at + 16) bytes) (short_of (at + 16) 4 bytes k (omega (arith, c)))

        module _ (count : ℕ) (m : at + 20 ≤ length bytes) (c : count ≡ from_be_bytes w32 (take 4 (drop (at + 16) bytes))) where
          count_there : read_sessions (suc n) before at there ≡ then_replies (read_replies count responded (at + 20) (drop (at + 20) bytes)) (λ replies next left. beyond_replies n before (take 8 there) raised replies next left)
          count_there =
              let next : at + 16 + 4 ≡ at + 20 = omega arith in
              responded_there ∙ field_there (at + 16) 4 anything (λ x y. beyond_count n before at (take 8 there) raised x y) (drop (at + 16) bytes) (left_of (at + 16) 4 bytes (omega (arith, m))) refl
              ∙ ap (λ (l : List ℕ). then_replies (read_replies (from_be_bytes w32 (take 4 (drop (at + 16) bytes))) (from_be_bytes w64 raised) (at + 20) l) (λ replies next left. beyond_replies n before (take 8 there) raised replies next left))
              (beyond (at + 16) 4 bytes ∙ ap (λ (p : ℕ). drop p bytes) next)
              ∙ ap (λ (x : ℕ). then_replies (read_replies x (from_be_bytes w64 raised) (at + 20) (drop (at + 20) bytes)) (λ replies next left. beyond_replies n before (take 8 there) raised replies next left)) (sym c)
              ∙ ap (λ (x : ℕ). then_replies (read_replies count x (at + 20) (drop (at + 20) bytes)) (λ replies next left. beyond_replies n before (take 8 there) raised replies next left)) (sym r)

          pub replies_fail : (place : ℕ) → read_replies count responded (at + 20) (drop (at + 20) bytes) ≡ Err place → read_sessions (suc n) before at there ≡ Err place
          replies_fail place f = count_there ∙ ap (λ x. then_replies x (λ replies next left. beyond_replies n before (take 8 there) raised replies next left)) f

          pub replies_there : (replies : List (ℕ × List ℕ)) (next : ℕ) → read_replies count responded (at + 20) (drop (at + 20) bytes) ≡ Ok (record { value = replies; at = next; bytes = drop next bytes })
              → read_sessions (suc n) before at there ≡ read_sessions n ((client, record { responded = responded; replies = replies }) ∷ before) next (drop next bytes)
          replies_there replies next f =
              count_there ∙ ap (λ x. then_replies x (λ replies next left. beyond_replies n before (take 8 there) raised replies next left)) f
              ∙ ap (λ (x : ℕ). read_sessions n ((x, record { responded = from_be_bytes w64 raised; replies = replies }) ∷ before) next (drop next bytes)) (sym e)
              ∙ ap (λ (x : ℕ). read_sessions n ((client, record { responded = x; replies = replies }) ∷ before) next (drop next bytes)) (sym r)

-- after the last session nothing stands
pub ends : (before : List (ℕ × Session)) (at : ℕ) (bytes : List ℕ) → length bytes ≤ at → read_sessions zero before at (drop at bytes) ≡ Ok before
unfolding read_sessions
ends before at bytes h = let e : drop at bytes ≡ [] = drop_all at bytes h in rw e refl

more_by : (before : List (ℕ × Session)) (at : ℕ) (rest : List ℕ) → 0 < length rest → read_sessions zero before at rest ≡ Err at
unfolding read_sessions
more_by before at [] h = absurd (omega (arith, h))
more_by before at (b ∷ rest) h = refl

pub more : (before : List (ℕ × Session)) (at : ℕ) (bytes : List ℕ) → at < length bytes → read_sessions zero before at (drop at bytes) ≡ Err at
more before at bytes h = let l = length-drop at bytes in more_by before at (drop at bytes) (omega (arith, l, h))

-- ---- the limit and the number of sessions

module _ (limit : ℕ) (bytes : List ℕ) where
  pub limit_cut : length bytes < 4 → read_section bytes ≡ Err 0
  limit_cut h = whole_section bytes ∙ field_cut 0 4 is_limit (λ s m. beyond_limit s m) bytes h

  limit_by : (x : ℕ) → (x ≡ 0) ⊎ (MOST_SESSIONS < x) → (nat_le 1 x && nat_le x MOST_SESSIONS) ≡ false
  limit_by x (inl l) = rw l refl
  limit_by x (inr l) = and_false_right (nat_le 1 x) (nat_le x MOST_SESSIONS) (lt-leb x MOST_SESSIONS l)

  pub limit_refused : 4 ≤ length bytes → limit ≡ from_be_bytes w32 (take 4 bytes) → (limit ≡ 0) ⊎ (MOST_SESSIONS < limit) → read_section bytes ≡ Err 0
  limit_refused h e bad = whole_section bytes ∙ field_refused 0 4 is_limit (λ s m. beyond_limit s m) bytes h (subst (λ (x : ℕ). (nat_le 1 x && nat_le x MOST_SESSIONS) ≡ false) e (limit_by limit bad))

  module _ (h : 4 ≤ length bytes) (e : limit ≡ from_be_bytes w32 (take 4 bytes)) (one : 1 ≤ limit) (most : limit ≤ MOST_SESSIONS) where
    limit_there : read_section bytes ≡ beyond_limit (take 4 bytes) (drop 4 bytes)
    limit_there = whole_section bytes ∙ field_there 0 4 is_limit (λ s m. beyond_limit s m) bytes h (subst (λ (x : ℕ). (nat_le 1 x && nat_le x MOST_SESSIONS) ≡ true) e (and_from _ _ (le-leb 1 limit one) (le-leb limit MOST_SESSIONS most)))

    abbrev few : List ℕ → Bool
    few count = nat_le (from_be_bytes w32 count) (from_be_bytes w32 (take 4 bytes))

    pub number_cut : length bytes < 8 → read_section bytes ≡ Err 4
    number_cut c = limit_there ∙ field_cut 4 4 few (λ s m. beyond_number (take 4 bytes) s m) (drop 4 bytes) (short_of 4 4 bytes h c)

    module _ (count : ℕ) (k : 8 ≤ length bytes) (c : count ≡ from_be_bytes w32 (take 4 (drop 4 bytes))) where
      pub number_refused : limit < count → read_section bytes ≡ Err 4
      number_refused bad =
          limit_there ∙ field_refused 4 4 few (λ s m. beyond_number (take 4 bytes) s m) (drop 4 bytes) (left_of 4 4 bytes k)
          (subst (λ (x : ℕ). nat_le x (from_be_bytes w32 (take 4 bytes)) ≡ false) c (subst (λ (x : ℕ). nat_le count x ≡ false) e (lt-leb count limit bad)))

      pub number_there : count ≤ limit → read_section bytes ≡ with_limit limit (read_sessions count [] 8 (drop 8 bytes))
      number_there good =
          limit_there ∙ field_there 4 4 few (λ s m. beyond_number (take 4 bytes) s m) (drop 4 bytes) (left_of 4 4 bytes k)
          (subst (λ (x : ℕ). nat_le x (from_be_bytes w32 (take 4 bytes)) ≡ true) c (subst (λ (x : ℕ). nat_le count x ≡ true) e (le-leb count limit good)))
          ∙ ap (λ (x : ℕ). with_limit x (read_sessions (from_be_bytes w32 (take 4 (drop 4 bytes))) [] 8 (drop 4 (drop 4 bytes)))) (sym e)
          ∙ ap (λ (x : ℕ). with_limit limit (read_sessions x [] 8 (drop 4 (drop 4 bytes)))) (sym c)
          ∙ ap (λ (l : List ℕ). with_limit limit (read_sessions count [] 8 l)) (beyond 4 4 bytes)
