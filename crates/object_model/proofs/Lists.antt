-- Small laws of lists.
use Rattle.std.proofs.Common.{◌≡◌, ℕ, zero, suc, ◌≤◌, List, [], ◌∷◌, ◌++◌, Some, length, subst, arith, ◌⊎◌, inl, inr}
use Rattle.std.specs.Prelude.{slice_get}
use Rattle.std.specs.List.{AllByRecursion}
use Rattle.std.proofs.lemmas.Option.{none-some, same_Some}

pub all_append : {A : Type 0} (P : A → Type 0) (a b : List A) → AllByRecursion P a → AllByRecursion P b → AllByRecursion P (a ++ b)
all_append P [] b p q = q
all_append P (x ∷ xs) b p q = (p.0, all_append P xs b p.1 q)

pub all_left : {A : Type 0} (P : A → Type 0) (a b : List A) → AllByRecursion P (a ++ b) → AllByRecursion P a
all_left P [] b p = tt
all_left P (x ∷ xs) b p = (p.0, all_left P xs b p.1)

pub all_right : {A : Type 0} (P : A → Type 0) (a b : List A) → AllByRecursion P (a ++ b) → AllByRecursion P b
all_right P [] b p = p
all_right P (x ∷ xs) b p = all_right P xs b p.1

-- what follows from P for each, follows for all
pub all_map : {A : Type 0} (P Q : A → Type 0) (a : List A) → ((x : A) → P x → Q x) → AllByRecursion P a → AllByRecursion Q a
all_map P Q [] f p = tt
all_map P Q (x ∷ xs) f p = (f x p.0, all_map P Q xs f p.1)

-- the same from two facts of each
pub all_map₂ : {A : Type 0} (P Q R : A → Type 0) (a : List A) → ((x : A) → P x → Q x → R x) → AllByRecursion P a → AllByRecursion Q a → AllByRecursion R a
all_map₂ P Q R [] f p q = tt
all_map₂ P Q R (x ∷ xs) f p q = (f x p.0 q.0, all_map₂ P Q R xs f p.1 q.1)

-- a longer list has the same at an index of its front
pub get_left : {A : Type 0} (a b : List A) (n : ℕ) (x : A) → slice_get a n ≡ Some x → slice_get (a ++ b) n ≡ Some x
get_left [] b n x e = absurd (none-some x e)
get_left (y ∷ a) b zero x e = e
get_left (y ∷ a) b (suc n) x e = get_left a b n x e

-- what all have, the one at an index has
all_get : {A : Type 0} (P : A → Type 0) (b : List A) (n : ℕ) (x : A) → slice_get b n ≡ Some x → AllByRecursion P b → P x
all_get P [] n x e p = absurd (none-some x e)
all_get P (y ∷ b) zero x e p = subst P (same_Some y x e) p.0
all_get P (y ∷ b) (suc n) x e p = all_get P b n x e p.1

-- what stands at an index of two lists together stands there in the first, or after the first and has what all of the second have
abbrev pub Found : {A : Type 0} → (A → Type 0) → List A → ℕ → A → Type 0
Found P a n x = (slice_get a n ≡ Some x) ⊎ ((length a ≤ n) × P x)

found_up : {A : Type 0} (P : A → Type 0) (y : A) (a : List A) (n : ℕ) (x : A) → Found P a n x → Found P (y ∷ a) (suc n) x
found_up P y a n x (inl e) = inl e
found_up P y a n x (inr p) = inr (omega (arith, p.0), p.1)

pub get_found : {A : Type 0} (P : A → Type 0) (a b : List A) (n : ℕ) (x : A) → slice_get (a ++ b) n ≡ Some x → AllByRecursion P b → Found P a n x
get_found P [] b n x e p = inr (omega arith, all_get P b n x e p)
get_found P (y ∷ a) b zero x e p = inl e
get_found P (y ∷ a) b (suc n) x e p = found_up P y a n x (get_found P a b n x e p)
