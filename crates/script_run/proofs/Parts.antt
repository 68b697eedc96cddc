-- The first line feed cuts the first part off, whatever comes after.
use Rattle.std.proofs.Common.{◌≡◌, ℕ, ◌+◌, ◌<◌, ◌≤◌, ◌==◌, List, [], ◌∷◌, ◌++◌, Bool, true, false, Some, None, cond, length, take, drop, refl, ◌∙◌, length-append, arith, ltb-true, ltb-false}
use Rattle.std.specs.Prelude.{position, not}
use Rattle.std.specs.List.{position_or_len, onto_first}
use Rattle.std.proofs.lemmas.List.{take-append-le, drop-append-le}
use Rattle.std.proofs.lemmas.List.Splits.{slice_split_first}
use Rattle.script_text.specs.Script.{parts_of}
use Rattle.script_run.specs.Reach.{HasNoFeed}

abbrev is_feed : ℕ → Bool
is_feed b = b == 10

chosen : (b : Bool) (n at : ℕ) → cond b (Some n) None ≡ Some at → (b ≡ true) × (n ≡ at)
chosen true n at e = (refl, cc)
chosen false n at e = absurd cc

not_chosen : (b : Bool) (n : ℕ) → cond b (Some n) None ≡ None → b ≡ false
not_chosen true n e = absurd cc
not_chosen false n e = refl

no_feed_by : (x : ℕ) (xs : List ℕ) (b : Bool) → (x == 10) ≡ b → length (x ∷ xs) ≤ cond (not b) (1 + position_or_len is_feed xs) 0 → (length xs ≤ position_or_len is_feed xs → HasNoFeed xs) → HasNoFeed (x ∷ xs)
no_feed_by x xs true e h more = absurd (omega (arith, h))
no_feed_by x xs false e h more = (e, more (omega (arith, h)))

no_feed : (xs : List ℕ) → length xs ≤ position_or_len is_feed xs → HasNoFeed xs
no_feed [] h = tt
no_feed (x ∷ xs) h = no_feed_by x xs (is_feed x) refl h (λ k. no_feed xs k)

pub cut_none : (text : List ℕ) → position is_feed text ≡ None → HasNoFeed text
cut_none text e = no_feed text (ltb-false _ _ (not_chosen _ _ e))

same_at_by : (xs more : List ℕ) (b : Bool) → cond (not b) (1 + position_or_len is_feed xs) 0 < 1 + length xs → (position_or_len is_feed xs < length xs → position_or_len is_feed (xs ++ more) ≡ position_or_len is_feed xs)
    → cond (not b) (1 + position_or_len is_feed (xs ++ more)) 0 ≡ cond (not b) (1 + position_or_len is_feed xs) 0
same_at_by xs more true h k = refl
same_at_by xs more false h k = rw (k (omega (arith, h))) refl

same_at : (xs more : List ℕ) → position_or_len is_feed xs < length xs → position_or_len is_feed (xs ++ more) ≡ position_or_len is_feed xs
same_at [] more h = absurd (omega (arith, h))
same_at (x ∷ xs) more h =
    let shorter : cond (not (is_feed x)) (1 + position_or_len is_feed xs) 0 < 1 + length xs = omega (arith, h) in
    same_at_by xs more (is_feed x) shorter (λ k. same_at xs more k)

pub cut_found : (text more : List ℕ) (at : ℕ) → position is_feed text ≡ Some at → parts_of (text ++ more) ≡ take at text ∷ parts_of (drop (at + 1) text ++ more)
cut_found text more at e =
    let f = chosen _ _ _ e in
    let below : position_or_len is_feed text < length text = ltb-true _ _ f.0 in
    let same : position_or_len is_feed (text ++ more) ≡ at = same_at text more below ∙ f.1 in
    let short : at < length text = omega (arith, f.1, below) in
    let there : position_or_len is_feed (text ++ more) < length (text ++ more) = rw (same, length-append) (omega (arith, short)) in
    rw (← take-append-le at text more (omega (arith, short)), ← drop-append-le (at + 1) text more (omega (arith, short)), ← same) (slice_split_first is_feed (text ++ more) 0 there)

-- there is a first part
pub record Parts (xs : List ℕ) : Type 0 where
  pub first : List ℕ
  pub others : List (List ℕ)
  pub are : parts_of xs ≡ first ∷ others

has_parts_by : (b : Bool) (x : ℕ) (first : List ℕ) (others : List (List ℕ)) → (y : List ℕ) × (ys : List (List ℕ)) × (cond b ([] ∷ first ∷ others) (onto_first x (first ∷ others)) ≡ y ∷ ys)
has_parts_by true x first others = ([], first ∷ others, refl)
has_parts_by false x first others = (x ∷ first, others, refl)

pub has_parts : (xs : List ℕ) → Parts xs
has_parts [] = record { first = []; others = []; are = refl }
has_parts (x ∷ xs) =
    let p = has_parts xs in
    let q = has_parts_by (x == 10) x p.first p.others in
    record { first = q.0; others = q.1; are = rw p.are q.2 }

-- what has no line feed stands before the first part of what comes
pub joined_parts : (text more first : List ℕ) (others : List (List ℕ)) → HasNoFeed text → parts_of more ≡ first ∷ others → parts_of (text ++ more) ≡ (text ++ first) ∷ others
joined_parts [] more first others h e = e
joined_parts (x ∷ text) more first others h e = rw (h.0, joined_parts text more first others h.1 e) refl

pub lone_part : (text : List ℕ) → HasNoFeed text → parts_of text ≡ text ∷ []
lone_part [] h = refl
lone_part (x ∷ text) h = rw (h.0, lone_part text h.1) refl
