-- Lists that hold the same places from one place to another.
use Rattle.std.proofs.Common.{◌≡◌, ⊎_elim, ℕ, zero, suc, ◌+◌, ◌-◌, ◌<◌, ◌≤◌, List, [], ◌∷◌, ◌++◌, length, take, drop, refl, sym, ap, ◌∙◌, arith, slice_get, length-append}
use Rattle.std.proofs.lemmas.List.{drop-take, drop_all, take-take, length-take, length-take-le, length-drop, take-append-le}
use Rattle.std.proofs.Math.Seq.{drop-append_seam}
use Rattle.host_ids.specs.declared.entry.Entry.{Entry}
use Rattle.log_view.specs.Log.{term_or_zero}
use Rattle.raft_model.specs.Group.{term_of}
use Rattle.raft_safety.specs.History.{Agree, SameFrom}
use Rattle.raft_safety.proofs.Argument.Agreement.{get_take, le_or}

-- a list of at most n places is all of its first n
pub take_whole : (n : ℕ) (xs : List Entry) → length xs ≤ n → take n xs ≡ xs
take_whole zero [] m = refl
take_whole zero (x ∷ xs) m = absurd (omega (arith, m))
take_whole (suc n) [] m = refl
take_whole (suc n) (x ∷ xs) m = ap (λ ys. x ∷ ys) (take_whole n xs (omega (arith, m)))

-- what was taken of a list is taken again by its length
pub take_length : (n : ℕ) (xs : List Entry) → take n xs ≡ take (length (take n xs)) xs
take_length zero xs = refl
take_length (suc n) [] = refl
take_length (suc n) (x ∷ xs) = ap (λ ys. x ∷ ys) (take_length n xs)

-- nothing is left of an empty list, however much is dropped
nothing_left : (n j : ℕ) → ◌≡◌ {A = List Entry} (drop n []) (drop j [])
nothing_left n j = drop_all n [] (omega arith) ∙ sym (drop_all j [] (omega arith))

-- to drop some places and then more is to drop their sum
pub drop_more : (i j : ℕ) (xs : List Entry) → drop (i + j) xs ≡ drop j (drop i xs)
drop_more zero j xs = let e : 0 + j ≡ j = omega arith in ap (λ n. drop n xs) e
drop_more (suc i) j [] = nothing_left (suc i + j) j
drop_more (suc i) j (x ∷ xs) = let e : suc i + j ≡ suc (i + j) = omega arith in ap (λ n. drop n (x ∷ xs)) e ∙ drop_more i j xs

-- a place of what is left is a later place of the list
pub get_drop : (j n : ℕ) (xs : List Entry) → slice_get (drop j xs) n ≡ slice_get xs (j + n)
get_drop zero n xs = let e : n ≡ 0 + n = omega arith in ap (slice_get xs) e
get_drop (suc j) n [] = refl
get_drop (suc j) n (x ∷ xs) = let e : suc (j + n) ≡ suc j + n = omega arith in get_drop j n xs ∙ ap (slice_get (x ∷ xs)) e

-- the places above j up to k are the first k - j above j
pub split : (j k : ℕ) (xs : List Entry) → j ≤ k → drop j (take k xs) ≡ take (k - j) (drop j xs)
split j k xs m = let e : j + (k - j) ≡ k = omega (arith, m) in ap (λ n. drop j (take n xs)) (sym e) ∙ drop-take j (k - j) xs

-- above k no places up to k are left to differ
pub from_short : (j k : ℕ) (a b : List Entry) → k ≤ j → k ≤ length b → SameFrom j k a b
from_short j k a b m within = record {
  reaches = within;
  same = drop_all j (take k a) (let l = length-take k a in omega (arith, l, m)) ∙ sym (drop_all j (take k b) (let l = length-take k b in omega (arith, l, m)));
}

-- the same places up to k are the same up to a lower place
pub from_less : {j : ℕ} (n : ℕ) {k : ℕ} {a b : List Entry} → n ≤ k → SameFrom j k a b → SameFrom j n a b
from_less {j} n {k} {a} {b} m s =
    ⊎_elim
    (λ low.
    let few : (n - j) ≤ (k - j) = omega (arith, m) in
    let part : (xs : List Entry) → take (n - j) (drop j (take k xs)) ≡ drop j (take n xs) = λ xs. ap (take (n - j)) (split j k xs (omega (arith, low, m))) ∙ take-take (n - j) (k - j) (drop j xs) few
    ∙ sym (split j n xs low) in
    record { reaches = omega (arith, s.reaches, m); same = sym (part a) ∙ ap (take (n - j)) s.same ∙ part b })
    (λ high. from_short j n a b (omega (arith, high)) (omega (arith, s.reaches, m)))
    (le_or j n)

-- and the same from a higher place on
pub from_further : {i : ℕ} (j : ℕ) {k : ℕ} {a b : List Entry} → i ≤ j → SameFrom i k a b → SameFrom j k a b
from_further {i} j {k} {a} {b} m s =
    let e : i + (j - i) ≡ j = omega (arith, m) in
    let part : (xs : List Entry) → drop (j - i) (drop i xs) ≡ drop j xs = λ xs. sym (drop_more i (j - i) xs) ∙ ap (λ n. drop n xs) e in
    record { reaches = s.reaches; same = sym (part (take k a)) ∙ ap (drop (j - i)) s.same ∙ part (take k b) }

-- two lists with the same stretch as a third one share it
pub from_trans : {j k : ℕ} {a b c : List Entry} → SameFrom j k a b → SameFrom j k b c → SameFrom j k a c
from_trans s t = record { reaches = t.reaches; same = s.same ∙ t.same }

-- a shared stretch is shared both ways, where both lists reach so far
pub from_sym : {j k : ℕ} {a b : List Entry} → k ≤ length a → SameFrom j k a b → SameFrom j k b a
from_sym within s = record { reaches = within; same = sym s.same }

-- lists that agree up to a place share each stretch up to it
pub from_agree : (j : ℕ) {k : ℕ} {a b : List Entry} → Agree k a b → SameFrom j k a b
from_agree j g = record { reaches = g.right; same = ap (drop j) g.same }

-- in a shared stretch the terms are the same
pub from_term : {j k : ℕ} (n : ℕ) {a b : List Entry} → SameFrom j k a b → j < n → n ≤ k → term_of a n ≡ term_of b n
from_term zero s more most = refl
from_term {j} {k} (suc p) {a} {b} s more most =
    let e : j + (p - j) ≡ p = omega (arith, more) in
    let part : (xs : List Entry) → slice_get (drop j (take k xs)) (p - j) ≡ slice_get xs p = λ xs. get_drop j (p - j) (take k xs) ∙ ap (slice_get (take k xs)) e ∙ get_take k p xs
    (omega (arith, most)) in
    ap term_or_zero (sym (part a) ∙ ap (λ xs. slice_get xs (p - j)) s.same ∙ part b)

-- a list made of the first c places of one list, and of those of another one above c up to n
abbrev pub put : ℕ → ℕ → List Entry → List Entry → List Entry
put c n X Y = take c X ++ drop c (take n Y)

module _ (c n : ℕ) (X Y : List Entry) (fits : c ≤ length X) (low : c ≤ n) (within : n ≤ length Y) where
  -- its first part has c places
  first_length : length (take c X) ≡ c
  first_length = length-take-le c X fits

  -- it has n places
  pub put_length : length (put c n X Y) ≡ n
  put_length =
      let a = length-append (take c X) (drop c (take n Y)) in
      let b = length-drop c (take n Y) in
      let l = length-take-le n Y within in
      omega (arith, a, b, l, first_length, low)

  -- it agrees with the first list up to c
  pub put_begins : Agree c (put c n X Y) X
  put_begins = record {
    left = omega (arith, put_length, low);
    right = fits;
    same = take-append-le c (take c X) (drop c (take n Y)) (omega (arith, first_length)) ∙ take-take c c X (omega arith);
  }

  -- and shares the stretch from c to n with the second one
  pub put_goes_on : SameFrom c n (put c n X Y) Y
  put_goes_on = record {
    reaches = within;
    same = ap (drop c) (take_whole n (put c n X Y) (omega (arith, put_length)))
        ∙ ap (λ j. drop j (put c n X Y)) (sym first_length) ∙ drop-append_seam (take c X) (drop c (take n Y));
  }
