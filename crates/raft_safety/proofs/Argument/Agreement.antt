-- Lists that hold the same first places.
use Rattle.log_view.specs.Log.{term_or_zero}
use Rattle.std.proofs.lemmas.Bool.{cases_order}
use Rattle.std.proofs.Common.{ℕ, ◌≤◌, List, take, sym, ap, ◌∙◌, arith, [], drop, inl, inr, length, length-append, refl, slice_get, suc, zero, ⊎_elim, ◌++◌, ◌+◌, ◌<◌, ◌∷◌, ◌≡◌, ◌⊎◌}
use Rattle.std.proofs.lemmas.List.{take-take, take-append-drop, take-append-le}
use Rattle.host_ids.specs.declared.entry.Entry.{Entry}
use Rattle.raft_model.specs.Group.{term_of}
use Rattle.raft_safety.specs.History.{Agree, SameFrom}

-- a number is at most another one, or greater
pub le_or : (a b : ℕ) → (a ≤ b) ⊎ (b < a)
le_or a b = ⊎_elim (λ e. inl (omega (arith, e))) (λ o. ⊎_elim (λ l. inl (omega (arith, l))) (λ m. inr m) o) (cases_order a b)

-- a number that is at most another one is less or the same
pub less_or_same : (a b : ℕ) → a ≤ b → (a < b) ⊎ (a ≡ b)
less_or_same a b m = ⊎_elim (λ e. inr e) (λ o. ⊎_elim (λ l. inl l) (λ x. absurd (omega (arith, x, m))) o) (cases_order a b)

-- any two lists agree on their first 0 places
pub agree_none : (a b : List Entry) → Agree 0 a b
agree_none a b = record { left = omega arith; right = omega arith; same = refl }

-- agreement goes both ways
pub agree_sym : {n : ℕ} {a b : List Entry} → Agree n a b → Agree n b a
agree_sym g = record { left = g.right; right = g.left; same = sym g.same }

-- two lists that agree with a third one agree
pub agree_trans : {n : ℕ} {a b c : List Entry} → Agree n a b → Agree n b c → Agree n a c
agree_trans g h = record { left = g.left; right = h.right; same = g.same ∙ h.same }

-- lists that agree on some places agree on fewer
pub agree_less : (k : ℕ) {n : ℕ} {a b : List Entry} → k ≤ n → Agree n a b → Agree k a b
agree_less k {n} {a} {b} m g = record {
  left = omega (arith, m, g.left);
  right = omega (arith, m, g.right);
  same = sym (take-take k n a m) ∙ ap (take k) g.same ∙ take-take k n b m;
}

-- a longer list agrees where the shorter one did
pub agree_longer : {n : ℕ} {a : List Entry} (more : List Entry) {b : List Entry} → Agree n a b → Agree n (a ++ more) b
agree_longer {n} {a} more g = record {
  left = let l : length (a ++ more) ≡ length a + length more = length-append a more in rw l (omega (arith, g.left));
  right = g.right;
  same = take-append-le n a more g.left ∙ g.same;
}

-- a place among the first ones is that place of the whole list
pub get_take : (n k : ℕ) (xs : List Entry) → k < n → slice_get (take n xs) k ≡ slice_get xs k
get_take zero k xs l = absurd (omega (arith, l))
get_take (suc n) k [] l = refl
get_take (suc n) zero (x ∷ xs) l = refl
get_take (suc n) (suc k) (x ∷ xs) l = get_take n k xs (omega (arith, l))

-- lists that agree up to a place have the same term there
pub term_agree : {l : ℕ} (k : ℕ) {a b : List Entry} → Agree l a b → k ≤ l → term_of a k ≡ term_of b k
term_agree zero g m = refl
term_agree {l} (suc k) {a} {b} g m =
    let less : k < l = omega (arith, m) in
    ap term_or_zero (sym (get_take l k a less) ∙ ap (λ xs. slice_get xs k) g.same ∙ get_take l k b less)

-- lists that agree up to one place, and are the same from there up to another one, agree up to that
pub glue : {j l : ℕ} {a b : List Entry} → j ≤ l → l ≤ length a → Agree j a b → SameFrom j l a b → Agree l a b
glue {j} {l} {a} {b} m within g s = record {
  left = within;
  right = s.reaches;
  same = sym (take-append-drop j (take l a)) ∙ ap (λ xs. xs ++ drop j (take l a)) (take-take j l a m ∙ g.same ∙ sym (take-take j l b m)) ∙ ap (λ xs. take j (take l b) ++ xs) s.same
      ∙ take-append-drop j (take l b);
}
