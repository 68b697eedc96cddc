-- Majorities: two have a voter in common, and a majority by one test is one by a weaker test.
use Rattle.std.proofs.lemmas.Bool.{and_parts}
use Rattle.std.proofs.Common.{◌≡◌, ℕ, ◌+◌, ◌*◌, ◌<◌, ◌≤◌, List, [], ◌∷◌, length, Bool, true, false, ◌&&◌, if◌then◌else◌, refl, arith, inl, inr, ⊎_elim, ◌⊎◌}
use Rattle.std.proofs.lemmas.Bool.Decides.{nat_tests}
use Rattle.roster.specs.Roster.{count, is_majority}

-- of two tests over a list, the counts of those that pass each are at most its length and the count of those that pass both
both : (p q : ℕ → Bool) (xs : List ℕ) → count p xs + count q xs ≤ length xs + count (λ x. p x && q x) xs
both p q [] = omega arith
both p q (x ∷ xs) = let ih = both p q xs in
    elim (p x) as (λ a. ((if a then 1 else 0) + count p xs) + ((if q x then 1 else 0) + count q xs) ≤ length (x ∷ xs) + ((if a && q x then 1 else 0) + count (λ x. p x && q x) xs)) [
      | true ↦ elim (q x) as (λ b. (1 + count p xs) + ((if b then 1 else 0) + count q xs) ≤ length (x ∷ xs) + ((if b then 1 else 0) + count (λ x. p x && q x) xs))
          [ true ↦ omega (arith, ih) | false ↦ omega (arith, ih) ]
      | false ↦ elim (q x) as (λ b. (0 + count p xs) + ((if b then 1 else 0) + count q xs) ≤ length (x ∷ xs) + (0 + count (λ x. p x && q x) xs))
          [ true ↦ omega (arith, ih) | false ↦ omega (arith, ih) ]
    ]

-- where more than none pass a test, one does
passes : (p : ℕ → Bool) (xs : List ℕ) → 0 < count p xs → (x : ℕ) × (p x ≡ true)
passes p [] h = absurd (omega (arith, h))
passes p (x ∷ xs) h = elim (p x) as (λ a. p x ≡ a → 0 < (if a then 1 else 0) + count p xs → (y : ℕ) × (p y ≡ true)) [ true ↦ λ e h. (x, e) | false ↦ λ e h. passes p xs (omega (arith, h)) ] refl h

-- of two tests that more than half pass, one voter passes both
pub shared : (voters : List ℕ) (p q : ℕ → Bool) → length voters < 2 * count p voters → length voters < 2 * count q voters → (x : ℕ) × (p x ≡ true) × (q x ≡ true)
shared voters p q a b = let s = passes (λ x. p x && q x) voters (omega (arith, both p q voters, a, b)) in let t = and_parts (p s.0) (q s.0) s.1 in (s.0, t.0, t.1)

-- two majorities share a voter
pub in_both : (voters : List ℕ) (p q : ℕ → Bool) → is_majority voters p ≡ true → is_majority voters q ≡ true → (x : ℕ) × (p x ≡ true) × (q x ≡ true)
in_both voters p q a b = shared voters p q (grind (arith, nat_tests)) (grind (arith, nat_tests))

-- what passes a weaker test is at least as many
pub count_more : (p q : ℕ → Bool) → ((x : ℕ) → p x ≡ true → q x ≡ true) → (xs : List ℕ) → count p xs ≤ count q xs
count_more p q more [] = omega arith
count_more p q more (x ∷ xs) = let ih = count_more p q more xs in
    elim (p x) as (λ a. p x ≡ a → (if a then 1 else 0) + count p xs ≤ (if q x then 1 else 0) + count q xs) [
      | true ↦ λ e. let t : q x ≡ true = more x e in rw t (omega (arith, ih))
      | false ↦ λ e. elim (q x) as (λ b. 0 + count p xs ≤ (if b then 1 else 0) + count q xs) [ true ↦ omega (arith, ih) | false ↦ omega (arith, ih) ]
    ] refl

-- a majority by one test is a majority by a weaker one
pub majority_more : (voters : List ℕ) (p q : ℕ → Bool) → ((x : ℕ) → p x ≡ true → q x ≡ true) → is_majority voters p ≡ true → is_majority voters q ≡ true
majority_more voters p q more m = let c = count_more p q more voters in grind (arith, nat_tests)

-- one voter passes the one test and not the other, or no fewer pass the other
abbrev pub IsFound : (p q : ℕ → Bool) → ℕ → ℕ → Type 0
IsFound p q a b = ((x : ℕ) × (p x ≡ true) × (q x ≡ false)) ⊎ (a ≤ b)

-- so it is with one voter more
pub found_more : (p q : ℕ → Bool) (x : ℕ) (xs : List ℕ) → IsFound p q (count p xs) (count q xs) → IsFound p q (count p (x ∷ xs)) (count q (x ∷ xs))
found_more p q x xs (inl y) = inl y
found_more p q x xs (inr ih) =
    elim (p x) as (λ a. p x ≡ a → IsFound p q ((if a then 1 else 0) + count p xs) ((if q x then 1 else 0) + count q xs)) [
      | false ↦ λ e. elim (q x) as (λ b. IsFound p q (0 + count p xs) ((if b then 1 else 0) + count q xs)) [ true ↦ inr (omega (arith, ih)) | false ↦ inr (omega (arith, ih)) ]
      | true ↦ λ e. elim (q x) as (λ b. q x ≡ b → IsFound p q (1 + count p xs) ((if b then 1 else 0) + count q xs)) [
        | true ↦ λ f. inr (omega (arith, ih))
        | false ↦ λ f. inl (x, e, f)
      ] refl
    ] refl

-- and so over every list of voters
pub found : (p q : ℕ → Bool) (xs : List ℕ) → IsFound p q (count p xs) (count q xs)
found p q [] = inr (omega arith)
found p q (x ∷ xs) = found_more p q x xs (found p q xs)

-- where a majority passes the one test and none passes the other, a voter passes the one and not the other
pub missing : (voters : List ℕ) (p q : ℕ → Bool) → is_majority voters p ≡ true → is_majority voters q ≡ false → (x : ℕ) × (p x ≡ true) × (q x ≡ false)
missing voters p q a b = ⊎_elim (λ y. y) (λ m. absurd (let more : is_majority voters q ≡ true = grind (arith, nat_tests) in (cc))) (found p q voters)
