-- The numbers of the listed files.
use Rattle.std.proofs.Common.{◌≡◌, ℕ, List, [], ◌∷◌, ◌++◌, Bool, true, false, ◌||◌, Option, Some, None, refl, sym, ◌∙◌, ap, subst, unwrap_or, nat_eq, arith, cond, true≢false}
use Rattle.std.specs.declared.cmp.Ordering.TheVariants.{Less}
use Rattle.std.specs.Ordering.{nat_cmp, is_eq}
use Rattle.std.specs.List.{list_any, AllByRecursion}
use Rattle.std.specs.List.Sorted.{IsStrictlySortedBy}
use Rattle.std.specs.Map.{lookup, keys_of}
use Rattle.std.specs.BTreeMap.{is_at}
use Rattle.disk_model.specs.Files.{Files, FileState, nothing, file_at}
use Rattle.disk_model.proofs.Changed.{by_bool, cond_t, cond_f, at_is, at_self}

abbrev pub numbers_of : Files → List ℕ
numbers_of [] = []
numbers_of (e ∷ es) = cond e.1.listed (e.0 ∷ numbers_of es) (numbers_of es)

pub numbers_snoc : (es : Files) (k : ℕ) (s : FileState) → numbers_of (es ++ (k, s) ∷ []) ≡ numbers_of es ++ cond s.listed (k ∷ []) []
numbers_snoc [] k s = refl
numbers_snoc (e ∷ es) k s = by_bool e.1.listed
    (λ t. cond_t _ (e.0 ∷ numbers_of (es ++ (k, s) ∷ [])) (numbers_of (es ++ (k, s) ∷ [])) t ∙ ap (λ xs. e.0 ∷ xs) (numbers_snoc es k s) ∙ ap (λ xs. xs ++ cond s.listed (k ∷ []) []) (sym (cond_t _ (e.0 ∷ numbers_of es) (numbers_of es) t)))
    (λ f. cond_f _ (e.0 ∷ numbers_of (es ++ (k, s) ∷ [])) (numbers_of (es ++ (k, s) ∷ [])) f ∙ numbers_snoc es k s ∙ ap (λ xs. xs ++ cond s.listed (k ∷ []) []) (sym (cond_f _ (e.0 ∷ numbers_of es) (numbers_of es) f)))

all_numbers : (x : ℕ) (es : Files) → AllByRecursion (λ y. nat_cmp x y ≡ Less) (keys_of es) → AllByRecursion (λ y. nat_cmp x y ≡ Less) (numbers_of es)
all_numbers x [] all = tt
all_numbers x (e ∷ es) all =
    let P : List ℕ → Type 0 = λ ks. AllByRecursion (λ y. nat_cmp x y ≡ Less) ks in
    by_bool e.1.listed
    (λ t. subst P (sym (cond_t _ (e.0 ∷ numbers_of es) (numbers_of es) t)) (all.0, all_numbers x es all.1))
    (λ f. subst P (sym (cond_f _ (e.0 ∷ numbers_of es) (numbers_of es) f)) (all_numbers x es all.1))

pub sorted_numbers : (es : Files) → IsStrictlySortedBy nat_cmp (keys_of es) → IsStrictlySortedBy nat_cmp (numbers_of es)
unfolding IsStrictlySortedBy
sorted_numbers [] sorted = tt
sorted_numbers (e ∷ es) sorted =
    by_bool e.1.listed
    (λ t. subst (IsStrictlySortedBy nat_cmp) (sym (cond_t _ (e.0 ∷ numbers_of es) (numbers_of es) t)) (all_numbers e.0 es sorted.0, sorted_numbers es sorted.1))
    (λ f. subst (IsStrictlySortedBy nat_cmp) (sym (cond_f _ (e.0 ∷ numbers_of es) (numbers_of es) f)) (sorted_numbers es sorted.1))

absent : (k : ℕ) (es : Files) → AllByRecursion (λ y. nat_cmp k y ≡ Less) (keys_of es) → lookup (is_at (nat_cmp k)) es ≡ None
absent k [] all = refl
absent k (e ∷ es) all = cond_f _ (Some e.1) (lookup (is_at (nat_cmp k)) es) (ap is_eq all.0) ∙ absent k es all.1

pub any_numbers : (f : ℕ) (es : Files) → IsStrictlySortedBy nat_cmp (keys_of es) → list_any (nat_eq f) (numbers_of es) ≡ (file_at f es).listed
unfolding IsStrictlySortedBy
any_numbers f [] sorted = refl
any_numbers f (e ∷ es) sorted =
    let A : List ℕ → Bool = λ ks. list_any (nat_eq f) ks in
    let F = is_at (nat_cmp f) in
    let listed : Option FileState → Bool = λ o. (unwrap_or o nothing).listed in
    let rest = any_numbers f es sorted.1 in
    by_bool (F e.0)
    (λ is.
    let same : f ≡ e.0 = at_is f e.0 is in
    let here : nat_eq f e.0 ≡ true = grind (arith, same) in
    let gone : lookup F es ≡ None = subst (λ (k : ℕ). lookup (is_at (nat_cmp k)) es ≡ None) (sym same) (absent e.0 es sorted.0) in
    let found = ap listed (cond_t _ (Some e.1) (lookup F es) is) in
    by_bool e.1.listed
    (λ t. ap A (cond_t _ (e.0 ∷ numbers_of es) (numbers_of es) t) ∙ ap (λ b. b || A (numbers_of es)) here ∙ sym (found ∙ t))
    (λ t. ap A (cond_f _ (e.0 ∷ numbers_of es) (numbers_of es) t) ∙ rest ∙ ap listed gone ∙ sym (found ∙ t)))
    (λ is.
    let off : nat_eq f e.0 ≡ false = by_bool (nat_eq f e.0) (λ t. let same : f ≡ e.0 = grind (arith, t) in absurd (true≢false (sym (subst (λ (k : ℕ). is_at (nat_cmp f) k ≡ true) same (at_self f)) ∙ is))) (λ t. t) in
    let found = ap listed (cond_f _ (Some e.1) (lookup F es) is) in
    by_bool e.1.listed
    (λ t. ap A (cond_t _ (e.0 ∷ numbers_of es) (numbers_of es) t) ∙ ap (λ b. b || A (numbers_of es)) off ∙ rest ∙ sym found)
    (λ t. ap A (cond_f _ (e.0 ∷ numbers_of es) (numbers_of es) t) ∙ rest ∙ sym found))
