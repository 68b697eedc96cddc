-- What the cache answers and leaves, as the table's own words.
use Rattle.std.proofs.Common.{◌≡◌, ℕ, ◌-◌, List, [], ◌∷◌, Option, Some, None, true, false, nat_eq, cond, take, refl, sym, arith}
use Rattle.std.specs.Option.{is_some}
use Rattle.std.specs.Map.{lookup, lookup_entry, remove_entry, set_value}
use Rattle.std.proofs.lemmas.Bool.Decides.{nat_tests}
use Rattle.lru.specs.LruCache.{lru_cache, promoted, put_entries}

some_of : {A : Type 0} (o : Option A) → is_some o ≡ true → (x : A) × (o ≡ Some x)
some_of None h = absurd cc
some_of (Some x) h = (x, refl)

none_of : {A : Type 0} (o : Option A) → is_some o ≡ false → o ≡ None
none_of None h = refl
none_of (Some x) h = absurd cc

same_key : (k : ℕ) → nat_eq k k ≡ true
same_key k = grind (arith, nat_tests)

module _ {V : Type 0} (c : ℕ) where
  -- a key that is there has a value, and one that is not has none
  pub is_taken : (es : List (ℕ × V)) → is_some (lookup (nat_eq c) es) ≡ true → (x : V) × (lookup (nat_eq c) es ≡ Some x)
  is_taken es h = some_of (lookup (nat_eq c) es) h

  pub is_new : (es : List (ℕ × V)) → is_some (lookup (nat_eq c) es) ≡ false → lookup (nat_eq c) es ≡ None
  is_new es h = none_of (lookup (nat_eq c) es) h

  -- no entry where there is no value
  no_entry : (es : List (ℕ × V)) → lookup (nat_eq c) es ≡ None → lookup_entry (nat_eq c) es ≡ None
  no_entry [] h = refl
  no_entry (e ∷ es) h = elim (nat_eq c e.0) as (λ b. cond b (Some e.1) (lookup (nat_eq c) es) ≡ None → cond b (Some e) (lookup_entry (nat_eq c) es) ≡ None)
      [ true ↦ λ h. absurd cc | false ↦ λ h. no_entry es h ] h

  pub put_new : (es : List (ℕ × V)) (cap : ℕ) (v : V) → lookup (nat_eq c) es ≡ None → put_entries nat_eq (lru_cache es cap) c v ≡ (c, v) ∷ take (cap - 1) es
  put_new es cap v h = rw (no_entry es h) refl

  -- the entry of a value
  the_entry : (es : List (ℕ × V)) (x : V) → lookup (nat_eq c) es ≡ Some x → lookup_entry (nat_eq c) es ≡ Some (c, x)
  the_entry [] x h = absurd cc
  the_entry (e ∷ es) x h = elim (nat_eq c e.0) as (λ b. nat_eq c e.0 ≡ b → cond b (Some e.1) (lookup (nat_eq c) es) ≡ Some x → cond b (Some e) (lookup_entry (nat_eq c) es) ≡ Some (c, x))
      [ true ↦ λ q h. (let a : e.0 ≡ c = grind (arith, nat_tests) in let b : e.1 ≡ x = cc in rw (sym a, sym b) refl) | false ↦ λ q h. the_entry es x h ] refl h

  -- a value written through what `get_mut` lends: its key is first
  pub touched : (es : List (ℕ × V)) (x w : V) → lookup (nat_eq c) es ≡ Some x → set_value (nat_eq c) (promoted (nat_eq c) es) w ≡ (c, w) ∷ remove_entry (nat_eq c) es
  touched es x w h = rw (the_entry es x h) (rw (same_key c) refl)

  pub found_again : {A : Type 0} (es : List (ℕ × V)) (x : V) → lookup (nat_eq c) es ≡ None → lookup (nat_eq c) es ≡ Some x → A
  found_again es x a b = absurd cc

  pub same_value : (es : List (ℕ × V)) (a b : V) → Some a ≡ lookup (nat_eq c) es → lookup (nat_eq c) es ≡ Some b → a ≡ b
  same_value es a b p q = cc
