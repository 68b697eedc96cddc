-- A log with its front filled in from the decided list: its places, its terms, and what of it is as it was saved.
use Rattle.std.proofs.Common.{◌≡◌, ◌⊎◌, ⊎_elim, ℕ, zero, suc, ◌+◌, ◌-◌, ◌<◌, ◌≤◌, List, ◌++◌, length, take, drop, sym, ap, ◌∙◌, arith, inl, inr, if◌then◌else◌, length-append, ◌==◌, ◌&&◌, true}
use Rattle.std.specs.Prelude.{nat_lt}
use Rattle.std.proofs.lemmas.Bool.{eq-eqb, ne_eqb, le-ltb, eqb-true, and_parts, ltb-true, lt-ltb}
use Rattle.std.proofs.lemmas.List.{length-take, length-take-le, length-drop, take-append-le, take-append-drop, take-take}
use Rattle.std.proofs.Math.Seq.{drop-append_seam}
use Rattle.host_ids.specs.declared.entry.Entry.{Entry}
use Rattle.log_view.specs.Log.{Log, last, term_at, term_in, last_term, term_or_zero}
use Rattle.raft_model.specs.Group.{term_of, is_decided}
use Rattle.raft_safety.specs.History.{Agree, SameFrom}
use Rattle.raft_safety.specs.Replicas.{whole, IsSavedLog}
use Rattle.raft_safety.proofs.Argument.Stretches.{split, get_drop, from_less, from_further, from_trans, from_agree}
use Rattle.raft_safety.proofs.Argument.Agreement.{term_agree, le_or}

module _ (d : List Entry) (f : ℕ) (es : List Entry) (fits : f ≤ length d) where
  -- the places up to the front are as many as the front says
  front_length : length (take f d) ≡ f
  front_length = length-take-le f d fits

  -- a whole log reaches up to the front and its entries
  pub whole_length : length (whole d f es) ≡ f + length es
  whole_length = let a = length-append (take f d) es in omega (arith, a, front_length)

  -- above the front a whole log holds its entries
  pub whole_drop : drop f (whole d f es) ≡ es
  whole_drop = ap (λ j. drop j (whole d f es)) (sym front_length) ∙ drop-append_seam (take f d) es

  -- up to the front it agrees with the decided list
  pub whole_begins : Agree f (whole d f es) d
  whole_begins = record {
    left = omega (arith, whole_length);
    right = fits;
    same = take-append-le f (take f d) es (omega (arith, front_length)) ∙ take-take f f d (omega arith);
  }

  -- a list that begins with the places up to the front is the whole of what it holds above them
  pub whole_of : (xs : List Entry) → take f xs ≡ take f d → whole d f (drop f xs) ≡ xs
  whole_of xs same = ap (λ ys. ys ++ drop f xs) (sym same) ∙ take-append-drop f xs

-- from the front on a log's term at an index is the whole log's there
pub term_whole : (d : List Entry) (l : Log) (n : ℕ) → l.front ≤ length d → l.front_term ≡ term_of d l.front → l.front ≤ n → term_at l n ≡ term_of (whole d l.front l.entries) n
term_whole d l n fits front_term above =
    let W = whole d l.front l.entries in
    ⊎_elim
    (λ low.
    let on : n ≡ l.front = omega (arith, low, above) in
    ap (λ b. if b then l.front_term else (if nat_lt n l.front then 0 else term_in l.entries (n - l.front - 1))) (eq-eqb n l.front on)
    ∙ front_term ∙ sym (term_agree l.front (whole_begins d l.front l.entries fits) (omega arith)) ∙ ap (term_of W) (sym on))
    (λ past.
    let off : n ≡ l.front → ⊥ = λ e. omega (arith, e, past) in
    let place : l.front + (n - l.front - 1) ≡ n - 1 = omega (arith, past) in
    ap (λ b. if b then l.front_term else (if nat_lt n l.front then 0 else term_in l.entries (n - l.front - 1))) (ne_eqb n l.front off)
    ∙ ap (λ b. if b then 0 else term_in l.entries (n - l.front - 1)) (le-ltb n l.front (omega (arith, past)))
    ∙ ap (λ xs. term_in xs (n - l.front - 1)) (sym (whole_drop d l.front l.entries fits))
    ∙ ap term_or_zero (get_drop l.front (n - l.front - 1) W)
    ∙ ap (term_in W) place
    ∙ of_place W n (omega (arith, past)))
    (le_or n l.front)
  where
    of_place : (xs : List Entry) (n : ℕ) → 0 < n → term_in xs (n - 1) ≡ term_of xs n
    of_place xs zero some = absurd (omega (arith, some))
    of_place xs (suc p) some = let e : suc p - 1 ≡ p = omega arith in ap (term_in xs) e

-- so is its last term
pub last_term_whole : (d : List Entry) (l : Log) → l.front ≤ length d → l.front_term ≡ term_of d l.front → last_term l ≡ term_of (whole d l.front l.entries) (length (whole d l.front l.entries))
last_term_whole d l fits front_term = term_whole d l (last l) fits front_term (omega arith) ∙ ap (term_of (whole d l.front l.entries)) (sym (whole_length d l.front l.entries fits))

-- what is as it was saved lies within the front, or is the same as was saved above the front
pub saved_from : {n f : ℕ} {saved now : List Entry} → f ≤ length now → IsSavedLog n f saved now → (n ≤ f) ⊎ ((n ≤ length saved) × SameFrom f n now saved)
saved_from {n} {f} {saved} {now} fits s =
    ⊎_elim
    (λ low. inl low)
    (λ past.
    let size : length (take f now) ≡ f = length-take-le f now fits in
    let right : n ≤ length saved = omega (arith, past, s.within) in
    let tail : drop f (take f now ++ drop f saved) ≡ drop f saved = ap (λ j. drop j (take f now ++ drop f saved)) (sym size) ∙ drop-append_seam (take f now) (drop f saved) in
    inr (
      right,
      record {
        reaches = right;
        same = ap (drop f) s.same ∙ split f n (take f now ++ drop f saved) (omega (arith, past)) ∙ ap (take (n - f)) tail ∙ sym (split f n saved (omega (arith, past)));
      },
    ))
    (le_or n f)

-- and the other way round
pub from_saved : {n f : ℕ} {saved now : List Entry} → f ≤ length now → (n ≤ f) ⊎ ((n ≤ length saved) × SameFrom f n now saved) → IsSavedLog n f saved now
from_saved {n} {f} {saved} {now} fits s =
    let A = take f now in
    let B = drop f saved in
    let size : length A ≡ f = length-take-le f now fits in
    let low_case : n ≤ f → IsSavedLog n f saved now = λ low. record { within = omega (arith, low); same = sym (take-append-le n A B (omega (arith, low, size)) ∙ take-take n f now low) } in
    ⊎_elim low_case
    (λ x. ⊎_elim low_case
    (λ past.
    let tail : drop f (A ++ B) ≡ B = ap (λ j. drop j (A ++ B)) (sym size) ∙ drop-append_seam A B in
    let first : take f (A ++ B) ≡ A = take-append-le f A B (omega (arith, size)) ∙ take-take f f now (omega arith) in
    let parts : (xs : List Entry) → take n xs ≡ take f xs ++ drop f (take n xs) = λ xs. sym (take-append-drop f (take n xs)) ∙ ap (λ ys. ys ++ drop f (take n xs))
    (take-take f n xs (omega (arith, past))) in
    record {
      within = omega (arith, x.0);
      same = parts now
          ∙ ap (λ ys. A ++ ys) (x.1.same ∙ split f n saved (omega (arith, past)) ∙ ap (take (n - f)) (sym tail) ∙ sym (split f n (A ++ B) (omega (arith, past))))
          ∙ ap (λ ys. ys ++ drop f (take n (A ++ B))) (sym first) ∙ sym (parts (A ++ B));
    })
    (le_or n f))
    s

-- what is as it was saved is within the log
pub saved_within : {n f : ℕ} {saved now : List Entry} → f ≤ length now → IsSavedLog n f saved now → n ≤ length now
saved_within {n} {f} {saved} {now} fits s =
    ⊎_elim
    (λ low. omega (arith, low, fits))
    (λ x. ⊎_elim
    (λ low. omega (arith, low, fits))
    (λ past.
    let sizes = ap (λ xs. length xs) x.1.same in
    let a = length-drop f (take n now) in
    let b = length-drop f (take n saved) in
    let p = length-take n now in
    let q = length-take-le n saved x.0 in
    omega (arith, sizes, a, b, p, q, past, x.0))
    (le_or n f))
    (saved_from fits s)

-- fewer places are as they were saved in a log that is the same so far, and whose front may be higher
pub saved_less : {n m f g : ℕ} {saved now later : List Entry} → f ≤ length now → g ≤ length later → f ≤ g → m ≤ n → Agree m later now → IsSavedLog n f saved now → IsSavedLog m g saved later
saved_less {n} {m} {f} {g} fits still further less same s =
    from_saved still
    (⊎_elim
    (λ low. inl low)
    (λ past. ⊎_elim
    (λ covered. inl (omega (arith, covered, less, further)))
    (λ x. inr (
      omega (arith, x.0, less),
      from_further g further
          (from_trans (from_agree f same) (from_less m less x.1)),
    ))
    (saved_from fits s))
    (le_or m g))

-- fewer places of the same log are as they were saved too
pub saved_to_less : (n : ℕ) {m f : ℕ} {saved now : List Entry} → n ≤ m → IsSavedLog m f saved now → IsSavedLog n f saved now
saved_to_less n {m} {f} {saved} {now} less s =
    let part : (xs : List Entry) → take n (take m xs) ≡ take n xs = λ xs. take-take n m xs less in
    record { within = omega (arith, less, s.within); same = sym (part now) ∙ ap (take n) s.same ∙ part (take f now ++ drop f saved) }

-- a decided place is one of the list, or 0, and its term is the list's there
pub decided_place : (d : List Entry) (i t : ℕ) → is_decided d i t ≡ true → (i ≤ length d) × (t ≡ term_of d i)
decided_place d zero t e = (omega arith, eqb-true t 0 e)
decided_place d (suc i) t e = let p = and_parts (nat_lt i (length d)) (term_in d i == t) e in (let m = ltb-true i (length d) p.0 in omega (arith, m), sym (eqb-true (term_in d i) t p.1))

-- a place of the list with its term is decided, and so is 0 with the term 0
pub place_decided : (d : List Entry) (i t : ℕ) → i ≤ length d → t ≡ term_of d i → is_decided d i t ≡ true
place_decided d zero t m e = eq-eqb t 0 e
place_decided d (suc i) t m e = ap (λ x. x && (term_in d i == t)) (lt-ltb i (length d) (omega (arith, m))) ∙ eq-eqb (term_in d i) t (sym e)

-- a decided place is decided in a longer list
pub decided_longer : {d e : List Entry} (i t : ℕ) → Agree (length d) e d → is_decided d i t ≡ true → is_decided e i t ≡ true
decided_longer {d} {e} i t a x = let p = decided_place d i t x in place_decided e i t (omega (arith, p.0, a.left)) (p.1 ∙ sym (term_agree i a p.0))
