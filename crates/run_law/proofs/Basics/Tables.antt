-- Tables by key, and the waiting reads.
use Rattle.std.proofs.Common.{◌≡◌, ◌≢◌, ℕ, ◌≤◌, List, [], ◌∷◌, ◌++◌, Bool, true, false, Option, Some, None, cond, refl, sym, ap, ◌∙◌, subst, leb-true, ◌<◌, map, ◌⊎◌, inl, inr}
use Rattle.std.specs.Prelude.{nat_le}
use Rattle.std.specs.List.{AllByRecursion}
use Rattle.std.specs.declared.cmp.Ordering.{Ordering}
use Rattle.std.specs.declared.cmp.Ordering.TheVariants.{Less, Equal, Greater}
use Rattle.std.specs.Ordering.{nat_cmp, match_ordering, ordering_then, is_eq}
use Rattle.std.specs.Cmp.{nat_cmp_is}
use Rattle.std.specs.BTreeMap.{insert_entry, is_at}
use Rattle.std.specs.BTreeSet.{insert_key}
use Rattle.std.specs.Map.{lookup, remove_entry}
use Rattle.std.proofs.lemmas.Bool.{cond_both}
use Rattle.std.proofs.lemmas.Option.{none-some, same_Some}
use Rattle.std.proofs.lemmas.Map.Lookups.{exact_unsigned}
use Rattle.host_ids.specs.declared.entry.Key.{Key}
use Rattle.run_model.specs.declared.told.Waiting.{Waiting}
use Rattle.raft_model.specs.Group.{key_order}
use Rattle.run_model.specs.Run.{due, not_due, keys_with}
use Rattle.run_law.proofs.Basics.Lists.{all_right}

-- an order that asks a second one where it is equal is equal only if that is
middle : (o p : Ordering) → ordering_then o p ≡ Equal → p ≡ Equal
middle Less p e = absurd cc
middle Equal p e = e
middle Greater p e = absurd cc

-- an order that is equal has an equal first part
first_part : (o p : Ordering) → ordering_then o p ≡ Equal → o ≡ Equal
first_part Less p e = absurd cc
first_part Equal p e = refl
first_part Greater p e = absurd cc

-- keys that are equal by their order are the same
pub order_same : (a b : Key) → key_order a b ≡ Equal → a ≡ b
order_same a b e =
    let host : a.host ≡ b.host = exact_unsigned a.host b.host (first_part (nat_cmp a.host b.host) _ e) in
    let start : a.start ≡ b.start = exact_unsigned a.start b.start (first_part (nat_cmp a.start b.start) _ (middle (nat_cmp a.host b.host) _ e)) in
    let serial : a.serial ≡ b.serial = exact_unsigned a.serial b.serial (middle (nat_cmp a.start b.start) _ (middle (nat_cmp a.host b.host) _ e)) in
    by_parts a.host a.start a.serial host start serial
  where
    by_parts : (host start serial : ℕ) → host ≡ b.host → start ≡ b.start → serial ≡ b.serial → record { host = host; start = start; serial = serial } ≡ b
    by_parts host start serial h s n = rw (h, s, n) refl

-- a key with a greater serial than another one of its host and its start comes after that
pub order_after : (a b : Key) → a.host ≡ b.host → a.start ≡ b.start → b.serial < a.serial → key_order a b ≡ Greater
order_after a b h s l =
    let host : nat_cmp a.host b.host ≡ Equal = sym (nat_cmp_is a.host b.host Equal h) in
    let start : nat_cmp a.start b.start ≡ Equal = sym (nat_cmp_is a.start b.start Equal s) in
    let serial : nat_cmp a.serial b.serial ≡ Greater = sym (nat_cmp_is a.serial b.serial Greater l) in
    rw (host, start, serial) refl

-- an order that passes the test of equality is equal
order_at : (o : Ordering) → is_eq o ≡ true → o ≡ Equal
order_at Less e = absurd cc
order_at Equal e = refl
order_at Greater e = absurd cc

module _ {V : Type 0} where
  -- the entries of the second are those of the first and one more
  pub record With (key : Key) (v : V) (es fs : List (Key × V)) : Type 0 where
    pub front : List (Key × V)
    pub back : List (Key × V)
    pub before : es ≡ front ++ back
    pub beyond : fs ≡ front ++ (key, v) ∷ back

  -- with the same entry put first in both tables, the second still has one entry more
  with_one : (key : Key) (v : V) (e : Key × V) (es fs : List (Key × V)) → With key v es fs → With key v (e ∷ es) (e ∷ fs)
  with_one key v e es fs w = record { front = e ∷ w.front; back = w.back; before = ap (λ (l : List (Key × V)). e ∷ l) w.before; beyond = ap (λ (l : List (Key × V)). e ∷ l) w.beyond }

  -- a new key goes before the first entry or among the rest, as their order says: in each case it is one entry more
  insert_by : (key : Key) (v : V) (e : Key × V) (es fs : List (Key × V)) (o : Ordering) → key_order key e.0 ≡ o → key.serial ≢ e.0.serial → With key v es fs
      → With key v (e ∷ es) (match_ordering o ((key, v) ∷ e ∷ es) ((e.0, v) ∷ es) (e ∷ fs))
  insert_by key v e es fs Less q n w = record { front = []; back = e ∷ es; before = refl; beyond = refl }
  insert_by key v e es fs Equal q n w = absurd (n (ap (λ (k : Key). k.serial) (order_same key e.0 q)))
  insert_by key v e es fs Greater q n w = with_one key v e es fs w

  -- a new key is one entry more
  pub insert_new : (key : Key) (v : V) (es : List (Key × V)) → AllByRecursion (λ e. key.serial ≢ e.0.serial) es → With key v es (insert_entry key_order es key v)
  insert_new key v [] n = record { front = []; back = []; before = refl; beyond = refl }
  insert_new key v (e ∷ es) n = insert_by key v e es (insert_entry key_order es key v) (key_order key e.0) refl n.0 (insert_new key v es n.1)

  -- what was found, and what is left without it
  pub record Taken (key : Key) (v : V) (es fs : List (Key × V)) : Type 0 where
    pub front : List (Key × V)
    pub back : List (Key × V)
    pub stored : Key
    pub same : key ≡ stored
    pub whole : es ≡ front ++ (stored, v) ∷ back
    pub rest : fs ≡ front ++ back

  -- with the same entry put first in both tables, what was found is still taken out
  taken_one : (key : Key) (v : V) (e : Key × V) (es fs : List (Key × V)) → Taken key v es fs → Taken key v (e ∷ es) (e ∷ fs)
  taken_one key v e es fs t = record {
    front = e ∷ t.front;
    back = t.back;
    stored = t.stored;
    same = t.same;
    whole = ap (λ (l : List (Key × V)). e ∷ l) t.whole;
    rest = ap (λ (l : List (Key × V)). e ∷ l) t.rest;
  }

  -- a key that is found is taken out at the first entry, if that has it, and else from the rest
  find_by : (key : Key) (v : V) (e : Key × V) (es fs : List (Key × V)) (b : Bool) → is_eq (key_order key e.0) ≡ b → cond b (Some e.1) (lookup (is_at (key_order key)) es) ≡ Some v
      → (lookup (is_at (key_order key)) es ≡ Some v → Taken key v es fs) → Taken key v (e ∷ es) (cond b es (e ∷ fs))
  find_by key v e es fs true q l h = record {
    front = [];
    back = es;
    stored = e.0;
    same = order_same key e.0 (order_at (key_order key e.0) q);
    whole = ap (λ (x : V). (e.0, x) ∷ es) (same_Some e.1 v l);
    rest = refl;
  }
  find_by key v e es fs false q l h = taken_one key v e es fs (h l)

  -- a key that is found is taken out
  pub find_taken : (key : Key) (v : V) (es : List (Key × V)) → lookup (is_at (key_order key)) es ≡ Some v → Taken key v es (remove_entry (is_at (key_order key)) es)
  find_taken key v [] l = absurd (none-some v l)
  find_taken key v (e ∷ es) l = find_by key v e es (remove_entry (is_at (key_order key)) es) (is_at (key_order key) e.0) refl l (find_taken key v es)

  -- what holds of all of a table holds of a key that is found, with what is found under it
  pub found_has : (P : Key × V → Type 0) (key : Key) (v : V) (es : List (Key × V)) → lookup (is_at (key_order key)) es ≡ Some v → AllByRecursion P es → P (key, v)
  found_has P key v es l all =
      let t = find_taken key v es l in
      let whole : AllByRecursion P (t.front ++ (t.stored, v) ∷ t.back) = rw (← t.whole) all in
      subst (λ (k : Key). P (k, v)) (sym t.same) (all_right P t.front ((t.stored, v) ∷ t.back) whole).0

  -- a key that is found neither at the first entry nor in the rest leaves both as they are
  miss_by : (e : Key × V) (b : Bool) (o : Option V) (es fs : List (Key × V)) → cond b (Some e.1) o ≡ None → (o ≡ None → fs ≡ es) → cond b es (e ∷ fs) ≡ e ∷ es
  miss_by e true o es fs l h = absurd cc
  miss_by e false o es fs l h = ap (λ (l : List (Key × V)). e ∷ l) (h l)

  -- without a key that isn't there a table is as before
  pub miss_taken : (key : Key) (es : List (Key × V)) → lookup (is_at (key_order key)) es ≡ None → remove_entry (is_at (key_order key)) es ≡ es
  miss_taken key [] l = refl
  miss_taken key (e ∷ es) l = miss_by e (is_at (key_order key) e.0) (lookup (is_at (key_order key)) es) es (remove_entry (is_at (key_order key)) es) l (miss_taken key es)

  -- ---- tables in order

  -- each key comes before the later ones
  abbrev pub AreOrdered : List (Key × V) → Type 0
  AreOrdered [] = Unit {0}
  AreOrdered (e ∷ es) = AllByRecursion (λ f. key_order f.0 e.0 ≡ Greater) es × AreOrdered es

  -- what holds of a key with a value and of all of a table holds of all of the table with the value written under the key, wherever the key goes
  insert_each_by : (P : Key × V → Type 0) (key : Key) (v : V) (e : Key × V) (es fs : List (Key × V)) (o : Ordering) → key_order key e.0 ≡ o → P (key, v) → P e → AllByRecursion P es
      → AllByRecursion P fs → AllByRecursion P (match_ordering o ((key, v) ∷ e ∷ es) ((e.0, v) ∷ es) (e ∷ fs))
  insert_each_by P key v e es fs Less q p r all more = (p, (r, all))
  insert_each_by P key v e es fs Equal q p r all more = (subst (λ (k : Key). P (k, v)) (order_same key e.0 q) p, all)
  insert_each_by P key v e es fs Greater q p r all more = (r, more)

  -- what holds of a key with a value and of all of a table holds of all of the table with the value written under the key
  pub insert_each : (P : Key × V → Type 0) (key : Key) (v : V) (es : List (Key × V)) → P (key, v) → AllByRecursion P es → AllByRecursion P (insert_entry key_order es key v)
  insert_each P key v [] p all = (p, tt)
  insert_each P key v (e ∷ es) p all = insert_each_by P key v e es (insert_entry key_order es key v) (key_order key e.0) refl p all.0 all.1 (insert_each P key v es p all.1)

  -- what holds of all of a table holds of all that is left without an entry
  pub remove_each : (P : Key × V → Type 0) (test : Key → Bool) (es : List (Key × V)) → AllByRecursion P es → AllByRecursion P (remove_entry test es)
  remove_each P test [] all = tt
  remove_each P test (e ∷ es) all = cond_both (test e.0) es (e ∷ remove_entry test es) (λ (l : List (Key × V)). AllByRecursion P l) (λ _. all.1) (λ _. (all.0, remove_each P test es all.1))

  -- without an entry a table is in order still
  pub ordered_left : (test : Key → Bool) (es : List (Key × V)) → AreOrdered es → AreOrdered (remove_entry test es)
  ordered_left test [] p = tt
  ordered_left test (e ∷ es) p = cond_both (test e.0) es (e ∷ remove_entry test es) AreOrdered (λ _. p.1) (λ _. (remove_each (λ f. key_order f.0 e.0 ≡ Greater) test es p.0, ordered_left test es p.1))

  -- with a key after all others a table is in order still
  pub ordered_new : (key : Key) (v : V) (es : List (Key × V)) → AllByRecursion (λ e. key_order key e.0 ≡ Greater) es → AreOrdered es → AreOrdered (insert_entry key_order es key v)
  ordered_new key v [] n p = (tt, tt)
  ordered_new key v (e ∷ es) n p = rw n.0 (insert_each (λ f. key_order f.0 e.0 ≡ Greater) key v es n.0 p.0, ordered_new key v es n.1 p.1)

  -- a key that is found in a table in order is the first one, or it comes after that and is found in the rest
  found_by : (key : Key) (v : V) (e : Key × V) (es : List (Key × V)) (o : Ordering) → key_order key e.0 ≡ o → AreOrdered (e ∷ es)
      → cond (is_eq o) (Some e.1) (lookup (is_at (key_order key)) es) ≡ Some v → (o ≡ Equal) ⊎ ((o ≡ Greater) × (lookup (is_at (key_order key)) es ≡ Some v))
  found_by key v e es Less q p l = let no : Less ≡ Greater = sym q ∙ found_has (λ f. key_order f.0 e.0 ≡ Greater) key v es l p.0 in absurd cc
  found_by key v e es Equal q p l = inl refl
  found_by key v e es Greater q p l = inr (refl, l)

  -- with a value written at the first entry, or after it into the rest, a table is in order still and has the same keys, if the rest is and has
  written_by : {A : Type 0} (f : Key → A) (key : Key) (u v : V) (e : Key × V) (es fs : List (Key × V)) → AreOrdered (e ∷ es)
      → (key_order key e.0 ≡ Equal) ⊎ ((key_order key e.0 ≡ Greater) × (lookup (is_at (key_order key)) es ≡ Some u))
      → (key_order key e.0 ≡ Greater → AllByRecursion (λ f. key_order f.0 e.0 ≡ Greater) fs)
      → (lookup (is_at (key_order key)) es ≡ Some u → AreOrdered fs × (map (λ e. f e.0) fs ≡ map (λ e. f e.0) es))
      → AreOrdered (match_ordering (key_order key e.0) ((key, v) ∷ e ∷ es) ((e.0, v) ∷ es) (e ∷ fs))
      × (map (λ e. f e.0) (match_ordering (key_order key e.0) ((key, v) ∷ e ∷ es) ((e.0, v) ∷ es) (e ∷ fs)) ≡ f e.0 ∷ map (λ e. f e.0) es)
  written_by f key u v e es fs p (inl q) after more = rw q (p, refl)
  written_by f key u v e es fs p (inr g) after more = let m = more g.1 in rw g.0 ((after g.0, m.0), ap (λ l. f e.0 ∷ l) m.1)

  -- where a key is found in a table in order, with another value written under it the table is in order still, and has the same keys
  pub written_again : {A : Type 0} (f : Key → A) (key : Key) (u v : V) (es : List (Key × V)) → AreOrdered es → lookup (is_at (key_order key)) es ≡ Some u
      → AreOrdered (insert_entry key_order es key v) × (map (λ e. f e.0) (insert_entry key_order es key v) ≡ map (λ e. f e.0) es)
  written_again f key u v [] p l = absurd (none-some u l)
  written_again f key u v (e ∷ es) p l = written_by f key u v e es (insert_entry key_order es key v) p (found_by key u e es (key_order key e.0) refl p l)
      (λ g. insert_each (λ f. key_order f.0 e.0 ≡ Greater) key v es g p.0) (written_again f key u v es p.1)

-- what holds of a key and of all others holds of them together
insert_all_by : {A : Type 0} (P : A → Type 0) (x y : A) (ys zs : List A) (o : Ordering) → P x → P y → AllByRecursion P ys → AllByRecursion P zs
    → AllByRecursion P (match_ordering o (x ∷ y ∷ ys) (y ∷ ys) (y ∷ zs))
insert_all_by P x y ys zs Less p q r s = (p, (q, r))
insert_all_by P x y ys zs Equal p q r s = (q, r)
insert_all_by P x y ys zs Greater p q r s = (q, s)

-- what holds of an element and of all of a list holds of all of the list with the element put in
pub insert_all : {A : Type 0} (P : A → Type 0) (order : A → A → Ordering) (x : A) (ys : List A) → P x → AllByRecursion P ys → AllByRecursion P (insert_key order ys x)
insert_all P order x [] p q = (p, tt)
insert_all P order x (y ∷ ys) p q = insert_all_by P x y ys (insert_key order ys x) (order x y) p q.0 q.1 (insert_all P order x ys p q.1)

-- what holds of the keys of reads holds of each in the order of asking
pub keys_all : (P : Key → Type 0) (keys : List Key) (rs : List Waiting) → AllByRecursion P keys → AllByRecursion (λ r. P r.key) rs → AllByRecursion P (keys_with keys rs)
keys_all P keys [] p q = p
keys_all P keys (r ∷ rs) p q = keys_all P (insert_key key_order keys r.key) rs (insert_all P key_order r.key keys q.0 p) q.1

-- what holds of all waiting reads holds of the due ones, whose fronts are reached
pub due_all : (P : Waiting → Type 0) (Q : Waiting → Type 0) (n : ℕ) (rs : List Waiting) → ((r : Waiting) → P r → r.front ≤ n → Q r) → AllByRecursion P rs → AllByRecursion Q (due n rs)
due_all P Q n [] f p = tt
due_all P Q n (r ∷ rs) f p = cond_both (nat_le r.front n) (r ∷ due n rs) [] (λ (l : List Waiting). AllByRecursion Q l) (λ e. (f r p.0 (leb-true r.front n e), due_all P Q n rs f p.1)) (λ _. tt)

-- what holds of all waiting reads holds of those that go on waiting
pub not_due_all : (P : Waiting → Type 0) (n : ℕ) (rs : List Waiting) → AllByRecursion P rs → AllByRecursion P (not_due n rs)
not_due_all P n [] p = tt
not_due_all P n (r ∷ rs) p = cond_both (nat_le r.front n) (not_due n rs) (r ∷ rs) (λ (l : List Waiting). AllByRecursion P l) (λ _. not_due_all P n rs p.1) (λ _. p)
