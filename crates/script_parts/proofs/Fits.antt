-- The numbers of entries and sessions stay in their ranges.
use Rattle.std.proofs.Common.{◌≡◌, ℕ, zero, suc, ◌<◌, List, [], ◌∷◌, Bool, true, false, Option, Some, None, Bor, cond, length, get_or, refl, sym, arith}
use Rattle.std.specs.Prelude.{IfSome}
use Rattle.std.specs.Option.{option_copied}
use Rattle.std.specs.declared.cmp.Ordering.{Ordering}
use Rattle.std.specs.declared.cmp.Ordering.TheVariants.{Less, Equal, Greater}
use Rattle.std.specs.List.{list_all}
use Rattle.std.specs.Ordering.{match_ordering}
use Rattle.std.specs.BTreeMap.{insert_entry}
use Rattle.std.specs.Map.{lookup}
use Rattle.std.proofs.lemmas.Bool.{and_parts, and_from}
use Rattle.host_ids.specs.declared.entry.Entry.{Entry}
use Rattle.object_model.specs.Object.{key_order as text_order}
use Rattle.run_model.specs.declared.client.ClientSession.{ClientSession}
use Rattle.raft_model.specs.Fit.{is_fit, are_fit}
use Rattle.script_parts.specs.Fit.{is_fit_client, are_fit_clients}

-- ---- lists

all_parts : {A : Type 0} (p : A → Bool) (x : A) (xs : List A) → list_all p (x ∷ xs) ≡ true → (p x ≡ true) × (list_all p xs ≡ true)
all_parts p x xs h = let q = and_parts (p x) (list_all p xs) h in (q.0, q.1)

all_from : {A : Type 0} (p : A → Bool) (x : A) (xs : List A) → p x ≡ true → list_all p xs ≡ true → list_all p (x ∷ xs) ≡ true
all_from p x xs h k = and_from (p x) (list_all p xs) h k

all_at : {A : Type 0} (p : A → Bool) (xs : List A) (i : ℕ) (d : A) → i < length xs → list_all p xs ≡ true → p (get_or xs i d) ≡ true
all_at p [] i d l h = absurd (omega (arith, l))
all_at p (x ∷ xs) zero d l h = (all_parts p x xs h).0
all_at p (x ∷ xs) (suc i) d l h = all_at p xs i d (omega (arith, l)) (all_parts p x xs h).1

pub fit_at : (es : List Entry) (i : ℕ) (d : Entry) → i < length es → are_fit es ≡ true → is_fit (get_or es i d).proposal ≡ true
fit_at es i d l h = all_at (λ (e : Entry). is_fit e.proposal) es i d l h

-- ---- the sessions by name

insert_by : (name : List ℕ) (s : ClientSession) (e : List ℕ × ClientSession) (es : List (List ℕ × ClientSession)) (o : Ordering) → is_fit_client s ≡ true → is_fit_client e.1 ≡ true → are_fit_clients es ≡ true → are_fit_clients (insert_entry text_order es name s) ≡ true
    → are_fit_clients (match_ordering o ((name, s) ∷ e ∷ es) ((e.0, s) ∷ es) (e ∷ insert_entry text_order es name s)) ≡ true
insert_by name s e es Less h k r q = and_from (is_fit_client s) _ h (and_from (is_fit_client e.1) (are_fit_clients es) k r)
insert_by name s e es Equal h k r q = and_from (is_fit_client s) (are_fit_clients es) h r
insert_by name s e es Greater h k r q = and_from (is_fit_client e.1) _ k q

pub fit_insert : (es : List (List ℕ × ClientSession)) (name : List ℕ) (s : ClientSession) → are_fit_clients es ≡ true → is_fit_client s ≡ true → are_fit_clients (insert_entry text_order es name s) ≡ true
fit_insert [] name s h k = and_from (is_fit_client s) true k refl
fit_insert (e ∷ es) name s h k =
    let p = and_parts (is_fit_client e.1) (are_fit_clients es) h in
    insert_by name s e es (text_order name e.0) k p.0 p.1 (fit_insert es name s p.1 k)

found_by : (test : Bool) (e : List ℕ × ClientSession) (o : Option ClientSession) (s : ClientSession) → cond test (Some e.1) o ≡ Some s → is_fit_client e.1 ≡ true → (o ≡ Some s → is_fit_client s ≡ true) → is_fit_client s ≡ true
found_by true e o s h k q = let same : e.1 ≡ s = cc in rw (← same) k
found_by false e o s h k q = q h

pub fit_lookup : (es : List (List ℕ × ClientSession)) (test : List ℕ → Bool) (s : ClientSession) → are_fit_clients es ≡ true → lookup test es ≡ Some s → is_fit_client s ≡ true
fit_lookup [] test s h l = absurd cc
fit_lookup (e ∷ es) test s h l =
    let p = and_parts (is_fit_client e.1) (are_fit_clients es) h in
    found_by (test e.0) e (lookup test es) s l p.0 (λ q. fit_lookup es test s p.1 q)

pub lent_fit : (es : List (List ℕ × ClientSession)) (test : List ℕ → Bool) (o : Option (Bor ClientSession)) → are_fit_clients es ≡ true → option_copied o ≡ lookup test es → IfSome o (λ s. is_fit_client s.now ≡ true)
lent_fit es test None h l = tt
lent_fit es test (Some s) h l = fit_lookup es test s.now h (sym l)
