-- What is at a number in the files, once one of them has changed, or each.
use Rattle.std.proofs.Common.{◌≡◌, ◌≢◌, ℕ, List, [], ◌∷◌, Bool, true, false, Option, Some, None, map, refl, sym, ◌∙◌, ap, subst, cond, unwrap_or, if◌then◌else◌, true≢false}
use Rattle.std.specs.declared.cmp.Ordering.{Ordering}
use Rattle.std.specs.declared.cmp.Ordering.TheVariants.{Less, Equal, Greater}
use Rattle.std.specs.Ordering.{nat_cmp, is_eq, match_ordering, eq_by_cmp}
use Rattle.std.specs.Cmp.{Equal-is, nat_cmp_is}
use Rattle.std.specs.List.{filter, IsDistinct}
use Rattle.std.specs.List.Sorted.{IsStrictlySortedBy}
use Rattle.std.specs.Option.{is_some, option_map}
use Rattle.std.specs.Map.{lookup, set_value, keys_of}
use Rattle.std.specs.BTreeMap.{is_at, insert_entry}
use Rattle.std.proofs.lemmas.Map.Lookups.{exact_unsigned}
use Rattle.std.proofs.lemmas.Map.Entries.{lookup-filter-values, option_filter}
use Rattle.std.proofs.lemmas.Map.Made.{lookup-map_values}
use Rattle.std.proofs.lemmas.Map.Keys.{IsDistinct-from_sorted}
use Rattle.std.proofs.lemmas.Cmp.{nat_cmp_total, eq_by_cmp_equiv}
use Rattle.disk_model.specs.Files.{Files, FileState, nothing, file_at, change, change_listed, each, is_listed}

pub by_bool : {G : Type 0} (b : Bool) → (b ≡ true → G) → (b ≡ false → G) → G
by_bool true t f = t refl
by_bool false t f = f refl

pub cond_t : {A : Type 0} (b : Bool) (x y : A) → b ≡ true → cond b x y ≡ x
cond_t b x y e = ap (λ c. cond c x y) e

pub cond_f : {A : Type 0} (b : Bool) (x y : A) → b ≡ false → cond b x y ≡ y
cond_f b x y e = ap (λ c. cond c x y) e

none_some : {X : Type 0} (x : X) → Some x ≡ None → ⊥
none_some x is = true≢false (ap is_some is)

-- two numbers that are compared as equal are one
pub at_is : (a b : ℕ) → is_at (nat_cmp a) b ≡ true → a ≡ b
at_is a b is = exact_unsigned a b ((Equal-is (nat_cmp a b)).0 is)

pub at_self : (a : ℕ) → is_at (nat_cmp a) a ≡ true
at_self a = sym (ap is_eq (nat_cmp_is a a Equal refl))

apart : (a b : ℕ) → a ≢ b → is_at (nat_cmp a) b ≡ false
apart a b off = by_bool (is_at (nat_cmp a) b) (λ is. absurd (off (at_is a b is))) (λ is. is)

-- a new entry changes what is at its key alone
insert_self : (k : ℕ) (v : FileState) (es : Files) → lookup (is_at (nat_cmp k)) es ≡ None → lookup (is_at (nat_cmp k)) (insert_entry nat_cmp es k v) ≡ Some v
insert_self k v [] off = cond_t _ (Some v) None (at_self k)
insert_self k v (e ∷ es) off =
    let K = is_at (nat_cmp k) in
    let not : K e.0 ≡ false = by_bool (K e.0) (λ is. absurd (none_some e.1 (sym (cond_t _ (Some e.1) (lookup K es) is) ∙ off))) (λ is. is) in
    let rest : lookup K es ≡ None = sym (cond_f _ (Some e.1) (lookup K es) not) ∙ off in
    let G : Ordering → Type 0 = λ r. nat_cmp k e.0 ≡ r → lookup K (match_ordering r ((k, v) ∷ e ∷ es) ((e.0, v) ∷ es) (e ∷ insert_entry nat_cmp es k v)) ≡ Some v in
    elim (nat_cmp k e.0) as G [
      | Less ↦ λ is. cond_t _ (Some v) (lookup K (e ∷ es)) (at_self k)
      | Equal ↦ λ is. absurd (true≢false (sym (ap is_eq is) ∙ not))
      | Greater ↦ λ is. cond_f _ (Some e.1) (lookup K (insert_entry nat_cmp es k v)) not ∙ insert_self k v es rest
    ] refl

insert_other : (k q : ℕ) (v : FileState) (es : Files) → q ≢ k → lookup (is_at (nat_cmp q)) (insert_entry nat_cmp es k v) ≡ lookup (is_at (nat_cmp q)) es
insert_other k q v [] off = cond_f _ (Some v) None (apart q k off)
insert_other k q v (e ∷ es) off =
    let Q = is_at (nat_cmp q) in
    let G : Ordering → Type 0 = λ r. nat_cmp k e.0 ≡ r → lookup Q (match_ordering r ((k, v) ∷ e ∷ es) ((e.0, v) ∷ es) (e ∷ insert_entry nat_cmp es k v)) ≡ lookup Q (e ∷ es) in
    elim (nat_cmp k e.0) as G [
      | Less ↦ λ is. cond_f _ (Some v) (lookup Q (e ∷ es)) (apart q k off)
      | Equal ↦ λ is. let same : k ≡ e.0 = exact_unsigned k e.0 is in let not : Q e.0 ≡ false = subst (λ (x : ℕ). Q x ≡ false) same (apart q k off) in cond_f _ (Some v) (lookup Q es) not ∙ sym (cond_f _ (Some e.1) (lookup Q es) not)
      | Greater ↦ λ is. ap (cond (Q e.0) (Some e.1)) (insert_other k q v es off)
    ] refl

set_self : (k : ℕ) (v : FileState) (es : Files) → is_some (lookup (is_at (nat_cmp k)) es) ≡ true → lookup (is_at (nat_cmp k)) (set_value (is_at (nat_cmp k)) es v) ≡ Some v
set_self k v [] had = absurd (true≢false (sym had))
set_self k v (e ∷ es) had =
    let K = is_at (nat_cmp k) in
    by_bool (K e.0)
    (λ is. ap (lookup K) (cond_t _ ((e.0, v) ∷ es) (e ∷ set_value K es v) is) ∙ cond_t _ (Some v) (lookup K es) is)
    (λ is. ap (lookup K) (cond_f _ ((e.0, v) ∷ es) (e ∷ set_value K es v) is) ∙ cond_f _ (Some e.1) (lookup K (set_value K es v)) is ∙ set_self k v es (sym (ap is_some (cond_f _ (Some e.1) (lookup K es) is)) ∙ had))

set_other : (k q : ℕ) (v : FileState) (es : Files) → q ≢ k → lookup (is_at (nat_cmp q)) (set_value (is_at (nat_cmp k)) es v) ≡ lookup (is_at (nat_cmp q)) es
set_other k q v [] off = refl
set_other k q v (e ∷ es) off =
    let K = is_at (nat_cmp k) in
    let Q = is_at (nat_cmp q) in
    by_bool (K e.0)
    (λ is. let not : Q e.0 ≡ false = subst (λ (x : ℕ). Q x ≡ false) (at_is k e.0 is) (apart q k off) in ap (lookup Q) (cond_t _ ((e.0, v) ∷ es) (e ∷ set_value K es v) is) ∙ cond_f _ (Some v) (lookup Q es) not ∙ sym (cond_f _ (Some e.1) (lookup Q es) not))
    (λ is. ap (lookup Q) (cond_f _ ((e.0, v) ∷ es) (e ∷ set_value K es v) is) ∙ ap (cond (Q e.0) (Some e.1)) (set_other k q v es off))

not_found : (o : Option FileState) → is_some o ≡ false → o ≡ None
not_found None is = refl
not_found (Some x) is = absurd (true≢false is)

-- the file that changed is as the step has it
pub changed_self : (file : ℕ) (step : FileState → FileState) (es : Files) → file_at file (change file step es) ≡ step (file_at file es)
changed_self file step es =
    let K = is_at (nat_cmp file) in
    let there = set_value K es (step (file_at file es)) in
    let anew = insert_entry nat_cmp es file (step nothing) in
    by_bool (is_some (lookup K es))
    (λ is. ap (file_at file) (cond_t _ there anew is) ∙ ap (λ o. unwrap_or o nothing) (set_self file (step (file_at file es)) es is))
    (λ is. let none = not_found (lookup K es) is in ap (file_at file) (cond_f _ there anew is) ∙ ap (λ o. unwrap_or o nothing) (insert_self file (step nothing) es none) ∙ ap (λ o. step (unwrap_or o nothing)) (sym none))

-- each other file is as it was
pub changed_other : (file f : ℕ) (step : FileState → FileState) (es : Files) → f ≢ file → file_at f (change file step es) ≡ file_at f es
changed_other file f step es off =
    let K = is_at (nat_cmp file) in
    let there = set_value K es (step (file_at file es)) in
    let anew = insert_entry nat_cmp es file (step nothing) in
    by_bool (is_some (lookup K es))
    (λ is. ap (file_at f) (cond_t _ there anew is) ∙ ap (λ o. unwrap_or o nothing) (set_other file f (step (file_at file es)) es off))
    (λ is. ap (file_at f) (cond_f _ there anew is) ∙ ap (λ o. unwrap_or o nothing) (insert_other file f (step nothing) es off))

found_listed : (file : ℕ) (es : Files) → is_listed es file ≡ true → is_some (lookup (is_at (nat_cmp file)) es) ≡ true
found_listed file es is = by_bool (is_some (lookup (is_at (nat_cmp file)) es)) (λ t. t) (λ f. absurd (true≢false (sym is ∙ ap (λ o. (unwrap_or o nothing).listed) (not_found (lookup (is_at (nat_cmp file)) es) f))))

pub listed_self : (file : ℕ) (step : FileState → FileState) (es : Files) → file_at file (change_listed file step es) ≡ (if is_listed es file then step (file_at file es) else file_at file es)
listed_self file step es =
    let K = is_at (nat_cmp file) in
    let there = set_value K es (step (file_at file es)) in
    by_bool (is_listed es file)
    (λ is. ap (file_at file) (cond_t _ there es is) ∙ ap (λ o. unwrap_or o nothing) (set_self file (step (file_at file es)) es (found_listed file es is)) ∙ sym (cond_t _ (step (file_at file es)) (file_at file es) is))
    (λ is. ap (file_at file) (cond_f _ there es is) ∙ sym (cond_f _ (step (file_at file es)) (file_at file es) is))

pub listed_other : (file f : ℕ) (step : FileState → FileState) (es : Files) → f ≢ file → file_at f (change_listed file step es) ≡ file_at f es
listed_other file f step es off =
    let there = set_value (is_at (nat_cmp file)) es (step (file_at file es)) in
    by_bool (is_listed es file)
    (λ is. ap (file_at f) (cond_t _ there es is) ∙ ap (λ o. unwrap_or o nothing) (set_other file f (step (file_at file es)) es off))
    (λ is. ap (file_at f) (cond_f _ there es is))

-- where the disk has something of a file, and keeps it once it has changed
abbrev pub kept_after : (FileState → FileState) → Option FileState → FileState
kept_after step None = nothing
kept_after step (Some s) = if (step s).listed then step s else nothing

filtered : (step : FileState → FileState) (o : Option FileState) → unwrap_or (option_filter (λ (s : FileState). s.listed) (option_map step o)) nothing ≡ kept_after step o
filtered step None = refl
filtered step (Some s) = by_bool (step s).listed
    (λ is. ap (λ o. unwrap_or o nothing) (cond_t _ (Some (step s)) None is) ∙ sym (cond_t _ (step s) nothing is))
    (λ is. ap (λ o. unwrap_or o nothing) (cond_f _ (Some (step s)) None is) ∙ sym (cond_f _ (step s) nothing is))

same_keys : (step : FileState → FileState) (es : Files) → keys_of (map (λ e. (e.0, step e.1)) es) ≡ keys_of es
same_keys step [] = refl
same_keys step (e ∷ es) = ap (λ ks. e.0 ∷ ks) (same_keys step es)

-- each file is as the step has it, where it is listed then
pub each_at : (f : ℕ) (step : FileState → FileState) (es : Files) → IsStrictlySortedBy nat_cmp (keys_of es) → file_at f (each step es) ≡ kept_after step (lookup (is_at (nat_cmp f)) es)
each_at f step es sorted =
    let mapped : Files = map (λ e. (e.0, step e.1)) es in
    let K : List ℕ → Type 0 = λ ks. IsDistinct (eq_by_cmp nat_cmp) ks in
    let distinct : IsDistinct (eq_by_cmp nat_cmp) (keys_of mapped) = subst K (sym (same_keys step es)) (IsDistinct-from_sorted nat_cmp (keys_of es) sorted) in
    let found : lookup (is_at (nat_cmp f)) (filter (λ e. e.1.listed) mapped) ≡ option_filter (λ (s : FileState). s.listed) (lookup (is_at (nat_cmp f)) mapped) = lookup-filter-values (eq_by_cmp_equiv nat_cmp_total) (λ (s : FileState). s.listed) f mapped distinct in
    let under : lookup (is_at (nat_cmp f)) mapped ≡ option_map step (lookup (is_at (nat_cmp f)) es) = lookup-map_values step (is_at (nat_cmp f)) es in
    ap (λ o. unwrap_or o nothing) (found ∙ ap (option_filter (λ (s : FileState). s.listed)) under) ∙ filtered step (lookup (is_at (nat_cmp f)) es)
