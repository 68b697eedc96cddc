-- The commit rule may step down at once to the next index that a voter has matched: who has matched an index between is who has matched the greater one.
use Rattle.std.proofs.Common.{◌≡◌, ◌≤◌, ◌<◌, ◌+◌, ◌-◌, ℕ, zero, suc, List, [], ◌∷◌, Bool, true, false, refl, arith, sym, ◌∙◌}
use Rattle.std.proofs.lemmas.Bool.Decides.{nat_tests}
use Rattle.std.specs.Prelude.{nat_lt, nat_le, max, if◌then◌else◌}
use Rattle.roster.specs.Roster.{at, count, is_majority}
use Rattle.log_view.specs.Log.{Log, term_at}
use Rattle.raft_model.specs.Replica.{greatest, may_commit}
use Rattle.raft_append.specs.Matching.{greatest_below}

pub greatest_less : (p : ℕ → Bool) (low n : ℕ) → 0 < n → p (low + n) ≡ false → greatest p low (n - 1) ≡ greatest p low n
greatest_less p low zero h e = absurd (omega (arith, h))
greatest_less p low (suc n) h e = let k : suc n - 1 ≡ n = omega arith in rw (k, e) refl

-- ---- the greatest matched index below another

not_below : (matched : List ℕ) (n low : ℕ) (vs : List ℕ) → low ≤ greatest_below matched n low vs
not_below matched n low [] = omega arith
not_below matched n low (v ∷ vs) =
    elim (nat_lt (at matched v) n) as (λ b. low ≤ greatest_below matched n (if b then max low (at matched v) else low) vs)
    [ true ↦ omega (arith, not_below matched n (max low (at matched v)) vs) | false ↦ not_below matched n low vs ]

is_below : (matched : List ℕ) (n low : ℕ) (vs : List ℕ) → low < n → greatest_below matched n low vs < n
is_below matched n low [] h = h
is_below matched n low (v ∷ vs) h =
    elim (nat_lt (at matched v) n) as (λ b. nat_lt (at matched v) n ≡ b → greatest_below matched n (if b then max low (at matched v) else low) vs < n) [
      | true ↦ λ e. let x : at matched v < n = grind (arith, nat_tests) in is_below matched n (max low (at matched v)) vs (omega (arith, h, x))
      | false ↦ λ e. is_below matched n low vs h
    ]
    refl

-- a number between is matched where the greater one is
same : (matched : List ℕ) (n k low v : ℕ) (vs : List ℕ) → greatest_below matched n low (v ∷ vs) < k → k ≤ n → nat_le k (at matched v) ≡ nat_le n (at matched v)
same matched n k low v vs h l =
    elim (nat_lt (at matched v) n) as
    (λ b. nat_lt (at matched v) n ≡ b → greatest_below matched n (if b then max low (at matched v) else low) vs < k → nat_le k (at matched v) ≡ nat_le n (at matched v)) [
      | true ↦ λ e g.
          let under : at matched v < k = omega (arith, g, not_below matched n (max low (at matched v)) vs) in
          let x : at matched v < n = grind (arith, nat_tests) in
          let one : nat_le k (at matched v) ≡ false = grind (arith, nat_tests) in
          let two : nat_le n (at matched v) ≡ false = grind (arith, nat_tests) in
          one ∙ sym two
      | false ↦ λ e g.
          let x : n ≤ at matched v = grind (arith, nat_tests) in
          let one : nat_le k (at matched v) ≡ true = grind (arith, nat_tests) in
          let two : nat_le n (at matched v) ≡ true = grind (arith, nat_tests) in
          one ∙ sym two
    ]
    refl
    h

between : (matched : List ℕ) (n k low : ℕ) (vs : List ℕ) → greatest_below matched n low vs < k → k ≤ n → count (λ v. nat_le k (at matched v)) vs ≡ count (λ v. nat_le n (at matched v)) vs
between matched n k low [] h l = refl
between matched n k low (v ∷ vs) h l = rw (same matched n k low v vs h l, between matched n k (if nat_lt (at matched v) n then max low (at matched v) else low) vs h l) refl

-- ---- stepping down

stepped : (p : ℕ → Bool) (low n r : ℕ) → r ≤ low + n → ((k : ℕ) → r < k → k ≤ low + n → p k ≡ false) → greatest p low (r - low) ≡ greatest p low n
stepped p low zero r h f = let e : r - low ≡ 0 = omega (arith, h) in rw e refl
stepped p low (suc n) r h f =
    elim (nat_lt r (low + suc n)) as (λ b. nat_lt r (low + suc n) ≡ b → greatest p low (r - low) ≡ greatest p low (suc n)) [
      | true ↦ λ e.
          let x : r < low + suc n = grind (arith, nat_tests) in
          let g : greatest p low (suc n) ≡ greatest p low n = rw (f (low + suc n) x (omega arith)) refl in
          stepped p low n r (omega (arith, x)) (λ k a b. f k a (omega (arith, b))) ∙ sym g
      | false ↦ λ e.
          let x : low + suc n ≤ r = grind (arith, nat_tests) in
          let y : r - low ≡ suc n = omega (arith, h, x) in rw y refl
    ]
    refl

pub skipped : (voters matched : List ℕ) (l : Log) (term commit left : ℕ)
    → 0 < left
    → is_majority voters (λ v. nat_le (commit + left) (at matched v)) ≡ false
    → greatest (may_commit voters matched l term) commit (greatest_below matched (commit + left) 0 voters - commit) ≡ greatest (may_commit voters matched l term) commit left
skipped voters matched l term commit left h m =
    let low : greatest_below matched (commit + left) 0 voters < commit + left = is_below matched (commit + left) 0 voters (omega (arith, h)) in
    stepped
    (may_commit voters matched l term)
    commit
    left
    (greatest_below matched (commit + left) 0 voters)
    (omega (arith, low))
    (λ k a b. rw (between matched (commit + left) k 0 voters a b, m) refl)

-- ---- stepping over indices of other terms

pub earlier : (voters matched : List ℕ) (l : Log) (term commit left : ℕ)
    → ((k : ℕ) → k ≤ commit + left → term_at l k < term)
    → greatest (may_commit voters matched l term) commit left ≡ commit
earlier voters matched l term commit left before =
    let none : commit - commit ≡ 0 = omega arith in
    let same = stepped
    (may_commit voters matched l term)
    commit
    left
    commit
    (omega arith)
    (λ k a b. let less = before k b in grind (arith, nat_tests)) in
    sym same ∙ rw none refl
