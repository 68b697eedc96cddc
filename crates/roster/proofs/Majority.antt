-- A majority by a set is one by what puts a voter into the set.
use Rattle.std.proofs.Common.{◌≡◌, ◌≤◌, ℕ, suc, List, [], ◌∷◌, Bool, refl, arith}
use Rattle.std.specs.List.{All}
use Rattle.roster.specs.Roster.{count, is_majority}

pub same_count : (p q : ℕ → Bool) (vs : List ℕ) → All (λ v. p v ≡ q v) vs → count p vs ≡ count q vs
same_count p q [] a = refl
same_count p q (v ∷ vs) a =
    let one : p v ≡ q v = a 0 v (omega arith) in
    let more : count p vs ≡ count q vs = same_count p q vs (λ k d h. a (suc k) d (omega (arith, h))) in
    rw (one, more) refl

pub same_majority : (p q : ℕ → Bool) (voters : List ℕ) → All (λ v. v ≤ 9) voters → ((v : ℕ) → v ≤ 9 → p v ≡ q v) → is_majority voters p ≡ is_majority voters q
same_majority p q voters a f = rw (same_count p q voters (λ k d h. f _ (a k d h))) refl
