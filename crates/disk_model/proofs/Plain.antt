-- Files of which none was removed since the last sync stay so until one is removed.
use Rattle.std.proofs.Common.{◌≡◌, ℕ, [], ◌∷◌, Bool, true, false, Option, Some, None, refl, sym, ◌∙◌, ap, subst, unwrap_or, if◌then◌else◌, not, ◌&&◌, true≢false}
use Rattle.std.specs.declared.cmp.Ordering.{Ordering}
use Rattle.std.specs.declared.cmp.Ordering.TheVariants.{Less, Equal, Greater}
use Rattle.std.specs.Ordering.{nat_cmp, match_ordering}
use Rattle.std.specs.Bool.{⊤}
use Rattle.std.specs.Option.{is_some}
use Rattle.std.specs.Result.{OnOk, OnErr}
use Rattle.std.specs.declared.result.Result.{Result}
use Rattle.std.specs.declared.result.Result.TheVariants.{Ok, Err}
use Rattle.std.specs.List.Sorted.{IsStrictlySortedBy}
use Rattle.std.specs.Map.{lookup, set_value, keys_of}
use Rattle.std.specs.BTreeMap.{is_at, insert_entry}
use Rattle.disk_model.specs.Files.{Files, FileState, nothing, file_at, change, change_listed, each, forgotten, is_listed}
use Rattle.disk_model.specs.Plain.{is_plain, are_plain, purged_at}
use Rattle.disk_model.proofs.Changed.{by_bool, cond_t, cond_f, each_at, kept_after}

pub record IsPlain (s : FileState) : Type 0 where
  pub listed : s.listed ≡ true
  pub gone : s.gone ≡ false

abbrev pub ArePlain : Files → Type 0
ArePlain [] = ⊤
ArePlain (e ∷ es) = IsPlain e.1 × ArePlain es

left_of_and : (a b : Bool) → (a && b) ≡ true → a ≡ true
left_of_and true b h = refl
left_of_and false b h = h

right_of_and : (a b : Bool) → (a && b) ≡ true → b ≡ true
right_of_and true b h = h
right_of_and false b h = absurd (true≢false (sym h))

not_true : (b : Bool) → not b ≡ true → b ≡ false
not_true true h = absurd (true≢false (sym h))
not_true false h = refl

pub from_plain : (es : Files) → are_plain es ≡ true → ArePlain es
from_plain [] h = tt
from_plain (e ∷ es) h =
    let one = left_of_and (is_plain e.1) (are_plain es) h in
    (record { listed = left_of_and e.1.listed (not e.1.gone) one; gone = not_true e.1.gone (right_of_and e.1.listed (not e.1.gone) one) }, from_plain es (right_of_and (is_plain e.1) (are_plain es) h))

pub to_plain : (es : Files) → ArePlain es → are_plain es ≡ true
to_plain [] h = refl
to_plain (e ∷ es) h = λ i. (h.0.listed i && not (h.0.gone i)) && to_plain es h.1 i

plain_set : (test : ℕ → Bool) (es : Files) (v : FileState) → ArePlain es → IsPlain v → ArePlain (set_value test es v)
plain_set test [] v plain one = tt
plain_set test (e ∷ es) v plain one = by_bool (test e.0)
    (λ is. subst ArePlain (sym (cond_t _ ((e.0, v) ∷ es) (e ∷ set_value test es v) is)) (one, plain.1))
    (λ is. subst ArePlain (sym (cond_f _ ((e.0, v) ∷ es) (e ∷ set_value test es v) is)) (plain.0, plain_set test es v plain.1 one))

plain_insert : (k : ℕ) (v : FileState) (es : Files) → ArePlain es → IsPlain v → ArePlain (insert_entry nat_cmp es k v)
plain_insert k v [] plain one = (one, tt)
plain_insert k v (e ∷ es) plain one =
    let G : Ordering → Type 0 = λ r. ArePlain (match_ordering r ((k, v) ∷ e ∷ es) ((e.0, v) ∷ es) (e ∷ insert_entry nat_cmp es k v)) in
    elim (nat_cmp k e.0) as G [
      | Less ↦ (one, plain)
      | Equal ↦ (one, plain.1)
      | Greater ↦ (plain.0, plain_insert k v es plain.1 one)
    ]

pub plain_gone : (f : ℕ) (es : Files) → ArePlain es → (file_at f es).gone ≡ false
plain_gone f [] plain = refl
plain_gone f (e ∷ es) plain = by_bool (is_at (nat_cmp f) e.0)
    (λ is. ap (λ o. (unwrap_or o nothing).gone) (cond_t _ (Some e.1) (lookup (is_at (nat_cmp f)) es) is) ∙ plain.0.gone)
    (λ is. ap (λ o. (unwrap_or o nothing).gone) (cond_f _ (Some e.1) (lookup (is_at (nat_cmp f)) es) is) ∙ plain_gone f es plain.1)

-- a change that leaves a file listed
pub plain_change : (file : ℕ) (step : FileState → FileState) (es : Files) → ((s : FileState) → s.gone ≡ false → IsPlain (step s)) → ArePlain es → ArePlain (change file step es)
plain_change file step es keeps plain =
    let K = is_at (nat_cmp file) in
    let there = set_value K es (step (file_at file es)) in
    let anew = insert_entry nat_cmp es file (step nothing) in
    by_bool (is_some (lookup K es))
    (λ is. subst ArePlain (sym (cond_t _ there anew is)) (plain_set K es (step (file_at file es)) plain (keeps (file_at file es) (plain_gone file es plain))))
    (λ is. subst ArePlain (sym (cond_f _ there anew is)) (plain_insert file (step nothing) es plain (keeps nothing refl)))

pub plain_change_listed : (file : ℕ) (step : FileState → FileState) (es : Files) → ((s : FileState) → s.listed ≡ true → s.gone ≡ false → IsPlain (step s)) → ArePlain es → ArePlain (change_listed file step es)
plain_change_listed file step es keeps plain =
    let there = set_value (is_at (nat_cmp file)) es (step (file_at file es)) in
    by_bool (is_listed es file)
    (λ is. subst ArePlain (sym (cond_t _ there es is)) (plain_set (is_at (nat_cmp file)) es (step (file_at file es)) plain (keeps (file_at file es) is (plain_gone file es plain))))
    (λ is. subst ArePlain (sym (cond_f _ there es is)) plain)

-- after a step that lets nothing come back
pub plain_each : (step : FileState → FileState) (es : Files) → ((s : FileState) → (step s).gone ≡ false) → ArePlain (each step es)
plain_each step [] keeps = tt
plain_each step (e ∷ es) keeps = by_bool (step e.1).listed
    (λ is. subst ArePlain (sym (cond_t _ ((e.0, step e.1) ∷ each step es) (each step es) is)) (record { listed = is; gone = keeps e.1 }, plain_each step es keeps))
    (λ is. subst ArePlain (sym (cond_f _ ((e.0, step e.1) ∷ each step es) (each step es) is)) (plain_each step es keeps))

plain_forgotten : (s : FileState) → IsPlain s → forgotten s ≡ s
plain_forgotten s plain =
    let kept : (if s.gone then [] else s.kept) ≡ s.kept = cond_f _ [] s.kept plain.gone in
    λ i. record { listed = s.listed; gone = sym plain.gone i; now = s.now; kept = kept i; burnt = s.burnt }

-- there is nothing to make sure of
pub plain_purged : (es : Files) → ArePlain es → each forgotten es ≡ es
plain_purged [] plain = refl
plain_purged (e ∷ es) plain =
    cond_t _ ((e.0, forgotten e.1) ∷ each forgotten es) (each forgotten es) plain.0.listed ∙ (λ i. (e.0, plain_forgotten e.1 plain.0 i) ∷ plain_purged es plain.1 i)

-- files to which a step was tried stay plain
pub plain_tried : {T E : Type 0} (r : Result T E) (pending : Bool) (es new : Files) (step : Files → Files) → (ArePlain es → ArePlain (step es)) → (pending ≡ false → are_plain es ≡ true) → OnOk r (new ≡ step es) → OnErr r (new ≡ es) → pending ≡ false → are_plain new ≡ true
plain_tried (Ok x) pending es new step keeps plain ok err is = ap are_plain ok ∙ to_plain (step es) (keeps (from_plain es (plain is)))
plain_tried (Err e) pending es new step keeps plain ok err is = ap are_plain err ∙ plain is

-- each file once each removal is sure
pub purged_each : (f : ℕ) (es : Files) → IsStrictlySortedBy nat_cmp (keys_of es) → file_at f (each forgotten es) ≡ purged_at (file_at f es)
purged_each f es sorted = each_at f forgotten es sorted ∙ by (lookup (is_at (nat_cmp f)) es)
  where
    by : (o : Option FileState) → kept_after forgotten o ≡ purged_at (unwrap_or o nothing)
    by None = refl
    by (Some s) = refl

pub purged_plain : (f : ℕ) (es : Files) → ArePlain es → file_at f es ≡ purged_at (file_at f es)
purged_plain f [] plain = refl
purged_plain f (e ∷ es) plain = by_bool (is_at (nat_cmp f) e.0)
    (λ is.
    let here : file_at f (e ∷ es) ≡ e.1 = ap (λ o. unwrap_or o nothing) (cond_t _ (Some e.1) (lookup (is_at (nat_cmp f)) es) is) in
    here ∙ sym (plain_forgotten e.1 plain.0) ∙ sym (cond_t _ (forgotten e.1) nothing plain.0.listed) ∙ ap purged_at (sym here))
    (λ is.
    let rest : file_at f (e ∷ es) ≡ file_at f es = ap (λ o. unwrap_or o nothing) (cond_f _ (Some e.1) (lookup (is_at (nat_cmp f)) es) is) in
    rest ∙ purged_plain f es plain.1 ∙ ap purged_at (sym rest))

-- what is found among plain files is plain
pub plain_found : (f : ℕ) (es : Files) (s : FileState) → are_plain es ≡ true → lookup (is_at (nat_cmp f)) es ≡ Some s → (s.listed ≡ true) × (s.gone ≡ false)
plain_found f es s plain is = by es (from_plain es plain) is
  where
    by : (es : Files) → ArePlain es → lookup (is_at (nat_cmp f)) es ≡ Some s → (s.listed ≡ true) × (s.gone ≡ false)
    by [] all found = absurd (true≢false (sym (ap is_some found)))
    by (e ∷ es) all found = by_bool (is_at (nat_cmp f) e.0)
        (λ t. let same : e.1 ≡ s = ap (λ o. unwrap_or o e.1) (sym (cond_t _ (Some e.1) (lookup (is_at (nat_cmp f)) es) t) ∙ found) in (ap (λ (x : FileState). x.listed) (sym same) ∙ all.0.listed, ap (λ (x : FileState). x.gone) (sym same) ∙ all.0.gone))
        (λ t. by es all.1 (sym (cond_f _ (Some e.1) (lookup (is_at (nat_cmp f)) es) t) ∙ found))

pub plain_forgotten_all : (es : Files) → are_plain (each forgotten es) ≡ true
plain_forgotten_all es = to_plain (each forgotten es) (plain_each forgotten es (λ s. refl))
