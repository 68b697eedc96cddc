-- Tables by host, look-ups and what comes of them.
use Rattle.std.proofs.Common.{◌≡◌, ℕ, zero, suc, List, [], ◌∷◌, refl, arith, length, slice_set}
use Rattle.std.proofs.lemmas.List.Elements.{All-head, All-tail}
use Rattle.std.specs.Prelude.{Option, Some, None, IfSome, slice_get, slice_index_or, replicate}
use Rattle.std.specs.List.{All}

-- what both outcomes of a look-up have, its outcome has
pub found_or_not : {X Y : Type 0} (o : Option X) (none : Y) (some : X → Y) (P : Y → Type 0) → (o ≡ None → P none) → ((x : X) → o ≡ Some x → P (some x))
    → P (elim o as (λ _. Y) [ None ↦ none | Some x ↦ some x ])
found_or_not None none some P a b = a refl
found_or_not (Some x) none some P a b = b x refl

-- an element that is found is one of the list
pub got : {X : Type 0} (Q : X → Type 0) (xs : List X) (i : ℕ) → All Q xs → IfSome (slice_get xs i) Q
got Q [] i k = tt
got Q (x ∷ xs) zero k = All-head Q x xs k
got Q (x ∷ xs) (suc i) k = got Q xs i (All-tail Q x xs k)

-- a table of one thing has it at each place
pub all_alike : {X : Type 0} (n : ℕ) (d : X) (u : ℕ) → slice_index_or (replicate n d) u d ≡ d
all_alike zero d u = refl
all_alike (suc n) d zero = refl
all_alike (suc n) d (suc u) = all_alike n d u

-- the same place of two tables of one length is written
pub both_written : {X Y : Type 0} (Q : X → Y → Type 0) (xs : List X) (ys : List Y) (i : ℕ) (x d : X) (y c : Y) → length xs ≡ length ys
    → ((u : ℕ) → Q (slice_index_or xs u d) (slice_index_or ys u c)) → Q x y → (u : ℕ) → Q (slice_index_or (slice_set xs i x) u d) (slice_index_or (slice_set ys i y) u c)
both_written Q [] [] i x d y c e k q u = k u
both_written Q [] (b ∷ ns) i x d y c e k q u = absurd (cc e)
both_written Q (a ∷ ms) [] i x d y c e k q u = absurd (cc e)
both_written Q (a ∷ ms) (b ∷ ns) zero x d y c e k q zero = q
both_written Q (a ∷ ms) (b ∷ ns) zero x d y c e k q (suc u) = k (suc u)
both_written Q (a ∷ ms) (b ∷ ns) (suc i) x d y c e k q zero = k 0
both_written Q (a ∷ ms) (b ∷ ns) (suc i) x d y c e k q (suc u) = both_written Q ms ns i x d y c (omega (arith, e)) (λ u. k (suc u)) q u
