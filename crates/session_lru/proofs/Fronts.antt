-- Replies read so far, in front of those that come.
use Rattle.std.proofs.Common.{◌≡◌, ℕ, suc, ◌-◌, ◌<◌, ◌≤◌, List, [], ◌∷◌, ◌++◌, true, Result, Ok, Err, length, drop, refl, sym, ap, ◌∙◌, subst, arith, append-nil, length-append, ◌^◌}
use Rattle.host_ids.specs.declared.proposal.TheConstants.{MOST_SERIES}
use Rattle.session_lru.specs.Section.{are_replies, Rest, with_first, read_replies}
use Rattle.session_lru.proofs.Sublists.{last_of, last_added, added}

abbrev pub with_front : {A : Type 0} → List A → Result (Rest (List A)) ℕ → Result (Rest (List A)) ℕ
with_front [] r = r
with_front (x ∷ xs) r = with_first x (with_front xs r)

front_more : {A : Type 0} (xs : List A) (x : A) (r : Result (Rest (List A)) ℕ) → with_front (xs ++ x ∷ []) r ≡ with_front xs (with_first x r)
front_more [] x r = refl
front_more (y ∷ xs) x r = ap (λ q. with_first y q) (front_more xs x r)

front_err : {A : Type 0} (xs : List A) (place : ℕ) → with_front xs (Err place) ≡ Err place
front_err [] place = refl
front_err (y ∷ xs) place = ap (λ q. with_first y q) (front_err xs place)

front_ok : {A : Type 0} (xs : List A) (r : Rest (List A)) → with_front xs (Ok r) ≡ Ok (record { value = xs ++ r.value; at = r.at; bytes = r.bytes })
front_ok [] r = refl
front_ok (y ∷ xs) r = ap (λ q. with_first y q) (front_ok xs r)

-- how far a loop over replies has come
pub record ReadSoFar (bytes : List ℕ) (at responded count : ℕ) (replies : List (ℕ × List ℕ)) (before next read : ℕ) : Type 0 where
  pub within : next ≤ length bytes
  pub good : are_replies responded replies ≡ true
  pub last : last_of responded replies ≡ before
  pub counted : length replies ≡ read
  pub whole : read_replies count responded at (drop at bytes) ≡ with_front replies (read_replies (count - read) before next (drop next bytes))

pub none_read : (bytes : List ℕ) (at responded count : ℕ) → at ≤ length bytes → ReadSoFar bytes at responded count [] responded at 0
none_read bytes at responded count h =
    let all : count ≡ count - 0 = omega arith in
    record { within = h; good = refl; last = refl; counted = refl; whole = ap (λ (k : ℕ). read_replies k responded at (drop at bytes)) all }

one_less : (count read : ℕ) → read < count → count - read ≡ suc (count - suc read)
one_less count read h = omega (arith, h)

pub all_read : (bytes : List ℕ) (at responded count : ℕ) (replies : List (ℕ × List ℕ)) (before next read : ℕ) → ReadSoFar bytes at responded count replies before next read → count ≤ read
    → read_replies count responded at (drop at bytes) ≡ Ok (record { value = replies; at = next; bytes = drop next bytes })
unfolding read_replies
all_read bytes at responded count replies before next read s h =
    let none : count - read ≡ 0 = omega (arith, h) in
    s.whole ∙ ap (λ (k : ℕ). with_front replies (read_replies k before next (drop next bytes))) none
    ∙ front_ok replies (record { value = []; at = next; bytes = drop next bytes })
    ∙ ap (λ (l : List (ℕ × List ℕ)). Ok (record { value = l; at = next; bytes = drop next bytes })) (append-nil replies)

pub none_more : (bytes : List ℕ) (at responded count : ℕ) (replies : List (ℕ × List ℕ)) (before next read place : ℕ) → ReadSoFar bytes at responded count replies before next read → read < count
    → read_replies (suc (count - suc read)) before next (drop next bytes) ≡ Err place → read_replies count responded at (drop at bytes) ≡ Err place
none_more bytes at responded count replies before next read place s h e =
    s.whole ∙ ap (λ (k : ℕ). with_front replies (read_replies k before next (drop next bytes))) (one_less count read h)
    ∙ ap (λ r. with_front replies r) e ∙ front_err replies place

pub one_read : (bytes : List ℕ) (at responded count : ℕ) (replies : List (ℕ × List ℕ)) (before next read : ℕ) (x : ℕ × List ℕ) (then : ℕ) → ReadSoFar bytes at responded count replies before next read → read < count
    → read_replies (suc (count - suc read)) before next (drop next bytes) ≡ with_first x (read_replies (count - suc read) x.0 then (drop then bytes))
    → then ≤ length bytes → before < x.0 → x.0 ≤ MOST_SERIES → length x.1 < 2 ^ 16
    → ReadSoFar bytes at responded count (replies ++ x ∷ []) x.0 then (suc read)
one_read bytes at responded count replies before next read x then s h e within above most short = record {
  within = within;
  good = added responded replies x s.good (subst (λ (k : ℕ). k < x.0) (sym s.last) above) most short;
  last = last_added responded replies x;
  counted = (let l = length-append replies (x ∷ []) in let c = s.counted in omega (arith, l, c));
  whole = s.whole ∙ ap (λ (k : ℕ). with_front replies (read_replies k before next (drop next bytes))) (one_less count read h)
      ∙ ap (λ r. with_front replies r) e ∙ sym (front_more replies x (read_replies (count - suc read) x.0 then (drop then bytes)));
}
