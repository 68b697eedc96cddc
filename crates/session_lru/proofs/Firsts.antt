-- The first of ascending replies tells what all of them are above.
use Rattle.std.proofs.Common.{◌≡◌, ℕ, suc, ◌<◌, ◌≤◌, List, [], ◌∷◌, true, false, refl, arith, All}
use Rattle.std.specs.Prelude.{filter, nat_lt}
use Rattle.std.specs.Map.{keys_of}
use Rattle.std.specs.BTreeMap.Range.{IsLeBy}
use Rattle.std.specs.Ordering.{nat_cmp, is_gt}
use Rattle.std.specs.declared.cmp.Ordering.{Ordering}
use Rattle.std.specs.declared.cmp.Ordering.TheVariants.{Less, Equal, Greater}
use Rattle.std.proofs.lemmas.Cmp.{ranked}
use Rattle.std.proofs.lemmas.Bool.Decides.{nat_tests}

not_above : (a b : ℕ) (r : Ordering) → r ≡ nat_cmp a b → is_gt r ≡ false → a ≤ b
not_above a b Less q h = let l : a < b = ranked a b Less q in omega (arith, l)
not_above a b Equal q h = let l : a ≡ b = ranked a b Equal q in omega (arith, l)
not_above a b Greater q h = absurd cc

-- where all are from the first on, and that is above the series, all are
pub above_all : (series first : ℕ) (es : List (ℕ × List ℕ)) → series < first → All (IsLeBy nat_cmp first) (keys_of es) → filter (λ e. nat_lt series e.0) es ≡ es
above_all series first [] l h = refl
above_all series first (e ∷ es) l h =
    let from : first ≤ e.0 = not_above first e.0 (nat_cmp first e.0) refl (h 0 0 (omega arith)) in
    let above : nat_lt series e.0 ≡ true = grind (arith, nat_tests) in
    rw (above, above_all series first es l (λ k d q. h (suc k) d (omega (arith, q)))) refl
