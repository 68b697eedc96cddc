-- The rounds of open reads ascend, so those that a majority has answered come first.
use Rattle.std.proofs.Common.{◌≡◌, ◌≤◌, ◌+◌, ◌*◌, ◌==◌, ◌||◌, ℕ, List, [], ◌∷◌, ◌++◌, Bool, true, false, refl, arith, subst, length, slice_index_or}
use Rattle.std.proofs.lemmas.Bool.Decides.{nat_tests}
use Rattle.std.proofs.lemmas.List.Elements.{All-nil, All-cons, All-append}
use Rattle.std.specs.Prelude.{nat_le, Option, Some, None, IfSome, option_to_list, if◌then◌else◌}
use Rattle.std.specs.List.{All}
use Rattle.roster.specs.Roster.{at, count}
use Rattle.read_index.specs.declared.reads.OpenRead.{OpenRead}
use Rattle.read_index.specs.Reads.{Reads, AscendTo, is_answered}

pub ascend_on : (n : ℕ) (rs : List OpenRead) → AscendTo n rs → AscendTo (n + 1) rs
ascend_on n [] a = tt
ascend_on n (r ∷ rs) (low, more, rest) = (omega (arith, low), more, ascend_on n rs rest)

below : (n m : ℕ) (rs : List OpenRead) → n ≤ m → AscendTo n rs → All (λ q. q.round ≤ m) rs
below n m [] h a = All-nil (λ q. q.round ≤ m)
below n m (r ∷ rs) h (low, more, rest) = All-cons (λ q. q.round ≤ m) r rs (omega (arith, low, h)) (below n m rs h rest)

pub opens_last : (n : ℕ) (rs : List OpenRead) (r : OpenRead) → r.round ≡ n + 1 → AscendTo n rs → AscendTo (n + 1) (rs ++ r ∷ [])
opens_last n [] r e a = (omega (arith, e), All-nil (λ q. r.round ≤ q.round), tt)
opens_last n (q ∷ rs) r e (low, more, rest) =
    (omega (arith, low), All-append (λ x. q.round ≤ x.round) rs (r ∷ []) more (All-cons (λ x. q.round ≤ x.round) r [] (omega (arith, low, e)) (All-nil (λ x. q.round ≤ x.round))), opens_last n rs r e rest)

-- whom a greater round is answered by answered the smaller one too
fewer : (p q : ℕ → Bool) (vs : List ℕ) → ((v : ℕ) → q v ≡ true → p v ≡ true) → count q vs ≤ count p vs
fewer p q [] f = omega arith
fewer p q (v ∷ vs) f =
    elim (q v) as (λ b. q v ≡ b → (if b then 1 else 0) + count q vs ≤ (if p v then 1 else 0) + count p vs) [
      | true ↦ λ e. let there : p v ≡ true = f v e in rw there (omega (arith, fewer p q vs f))
      | false ↦ λ e. omega (arith, fewer p q vs f)
    ]
    refl

earlier : (voters : List ℕ) (me : ℕ) (a : Reads) (r q : OpenRead) → r.round ≤ q.round → is_answered voters me a r ≡ false → is_answered voters me a q ≡ false
earlier voters me a r q h n =
    let p : ℕ → Bool = λ v. (v == me) || nat_le r.round (at a.answered v) in
    let s : ℕ → Bool = λ v. (v == me) || nat_le q.round (at a.answered v) in
    let less : count s voters ≤ count p voters = fewer p s voters (λ v e. grind (arith, nat_tests, h, e)) in
    let few : 2 * count p voters ≤ length voters = grind (arith, nat_tests, n) in
    grind (arith, nat_tests, less, few)

-- where the first read isn't answered none is
pub none_answered : (voters : List ℕ) (me : ℕ) (a : Reads) (r : OpenRead) (rs : List OpenRead) → AscendTo a.round (r ∷ rs) → is_answered voters me a r ≡ false
    → All (λ q. is_answered voters me a q ≡ false) (r ∷ rs)
none_answered voters me a r rs (low, more, rest) n =
    All-cons (λ q. is_answered voters me a q ≡ false) r rs n (λ k d h. earlier voters me a r (slice_index_or rs k d) (more k d h) n)

pub none_at : (voters : List ℕ) (me : ℕ) (a : Reads) (rs : List OpenRead) (r : OpenRead) → AscendTo a.round rs → r ≡ slice_index_or rs 0 r → is_answered voters me a r ≡ false
    → All (λ q. is_answered voters me a q ≡ false) rs
none_at voters me a [] r o e n = All-nil (λ q. is_answered voters me a q ≡ false)
none_at voters me a (q ∷ rs) r o e n = none_answered voters me a q rs o (subst (λ x. is_answered voters me a x ≡ false) e n)

-- what is taken from the front is what was looked at there
pub same_first : (P : OpenRead → Type 0) (rs more : List OpenRead) (r : OpenRead) (o : Option OpenRead) → rs ≡ option_to_list o ++ more → r ≡ slice_index_or rs 0 r → P r → IfSome o P
same_first P rs more r None i e p = tt
same_first P rs more r (Some x) i e p = subst P (subst (λ qs. r ≡ slice_index_or qs 0 r) i e) p
