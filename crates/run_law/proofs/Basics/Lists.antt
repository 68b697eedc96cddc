-- Small laws of lists.
use Rattle.std.proofs.Common.{◌≡◌, ℕ, List, [], ◌∷◌, ◌++◌, take, drop, length, refl, take-append-drop}
use Rattle.std.proofs.Math.Seq.{take-append_seam}
use Rattle.std.specs.Prelude.{slice_get, Some}
use Rattle.std.specs.List.{AllByRecursion}

-- what holds of all of two lists holds of all of the two joined
pub all_append : {A : Type 0} (P : A → Type 0) (a b : List A) → AllByRecursion P a → AllByRecursion P b → AllByRecursion P (a ++ b)
all_append P [] b p q = q
all_append P (x ∷ xs) b p q = (p.0, all_append P xs b p.1 q)

-- what holds of all of two joined lists holds of all of the first
pub all_left : {A : Type 0} (P : A → Type 0) (a b : List A) → AllByRecursion P (a ++ b) → AllByRecursion P a
all_left P [] b p = tt
all_left P (x ∷ xs) b p = (p.0, all_left P xs b p.1)

-- what holds of all of two joined lists holds of all of the second
pub all_right : {A : Type 0} (P : A → Type 0) (a b : List A) → AllByRecursion P (a ++ b) → AllByRecursion P b
all_right P [] b p = p
all_right P (x ∷ xs) b p = all_right P xs b p.1

-- all of a list that has a property has any other one that follows from it
pub all_map : {A : Type 0} (P Q : A → Type 0) (a : List A) → ((x : A) → P x → Q x) → AllByRecursion P a → AllByRecursion Q a
all_map P Q [] f p = tt
all_map P Q (x ∷ xs) f p = (f x p.0, all_map P Q xs f p.1)

-- what holds of all of a list holds of all of its first n
pub all_take : {A : Type 0} (P : A → Type 0) (n : ℕ) (xs : List A) → AllByRecursion P xs → AllByRecursion P (take n xs)
all_take P n xs p = all_left P (take n xs) (drop n xs) (rw (take-append-drop n xs) p)

-- what holds of all of a list holds of all that is left without its first n
pub all_drop : {A : Type 0} (P : A → Type 0) (n : ℕ) (xs : List A) → AllByRecursion P xs → AllByRecursion P (drop n xs)
all_drop P n xs p = all_right P (take n xs) (drop n xs) (rw (take-append-drop n xs) p)

-- at the place that is a front's length stands the element after the front
get_seam : {A : Type 0} (a : List A) (x : A) (b : List A) → slice_get (a ++ x ∷ b) (length a) ≡ Some x
get_seam [] x b = refl
get_seam (y ∷ a) x b = get_seam a x b

-- the element after a front of some length
pub get_after : {A : Type 0} (a : List A) (x : A) (b : List A) (n : ℕ) → n ≡ length a → slice_get (a ++ x ∷ b) n ≡ Some x
get_after a x b n e = rw e (get_seam a x b)

-- the front of a list, by its length
pub take_front : {A : Type 0} (front rest xs : List A) (n : ℕ) → xs ≡ front ++ rest → n ≡ length front → take n xs ≡ front
take_front front rest xs n e l = rw (e, l) (take-append_seam front rest)
