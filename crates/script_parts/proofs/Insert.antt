-- A context more in an index.
use Rattle.std.proofs.Common.{◌≡◌, ℕ, zero, suc, ◌-◌, ◌<◌, List, [], ◌∷◌, ◌++◌, Bool, true, false, length, take, refl, ap, sym, ◌∙◌, arith, length-append}
use Rattle.std.proofs.Math.Seq.{take-append_seam}
use Rattle.std.specs.Prelude.{◌||◌, bytes_eq, slice_set, slice_index_or}
use Rattle.std.specs.List.{list_any}
use Rattle.std.specs.declared.cmp.Ordering.{Ordering}
use Rattle.std.specs.declared.cmp.Ordering.TheVariants.{Less, Equal, Greater}
use Rattle.std.specs.Ordering.{match_ordering, is_eq}
use Rattle.std.specs.BTreeMap.{is_at}
use Rattle.std.specs.BTreeSet.{insert_key}
use Rattle.std.proofs.lemmas.Map.Text.{is_eq-slice_cmp}
use Rattle.std.proofs.lemmas.Slice.Eq.{bytes_eq-Decides}
use Rattle.std.proofs.lemmas.List.Folds.{list_any-append}
use Rattle.object_model.specs.Object.{key_order}
use Rattle.script_parts.specs.Index.{has_key, Indexes}

swap : (a b c : Bool) → (a || (b || c)) ≡ (b || (a || c))
swap true true c = refl
swap true false c = refl
swap false true c = refl
swap false false c = refl

last_false : (a b : Bool) → (a || b) ≡ ((a || false) || b)
last_false true b = refl
last_false false b = refl

twice_false : (a b : Bool) → (a || b) ≡ ((a || false) || (a || b))
twice_false true b = refl
twice_false false b = refl

same_text : (x y : List ℕ) → key_order x y ≡ Equal → x ≡ y
same_text x y e = (bytes_eq-Decides x y).0 (sym (is_eq-slice_cmp x y) ∙ ap is_eq e)

moved : (a b c d : Bool) → (a || ((b || (c || false)) || d)) ≡ (c || (a || (b || d)))
moved true b true d = refl
moved true b false d = refl
moved false true true d = refl
moved false true false d = refl
moved false false true d = refl
moved false false false d = refl

last_two : (a b : Bool) → ((a || false) || b) ≡ (a || b)
last_two true b = refl
last_two false b = refl

any_by : (q k x : List ℕ) (xs : List (List ℕ)) (o : Ordering) → key_order k x ≡ o → has_key q (insert_key key_order xs k) ≡ (has_key q (k ∷ []) || has_key q xs)
    → has_key q (match_ordering o (k ∷ x ∷ xs) (x ∷ xs) (x ∷ insert_key key_order xs k)) ≡ (has_key q (k ∷ []) || has_key q (x ∷ xs))
any_by q k x xs Less e h = last_false (is_at (key_order q) k) (has_key q (x ∷ xs))
any_by q k x xs Equal e h = rw (same_text k x e) (twice_false (is_at (key_order q) x) (has_key q xs))
any_by q k x xs Greater e h = rw h (swap (is_at (key_order q) x) (has_key q (k ∷ [])) (has_key q xs))

-- a key is found among others after it is inserted, and the others are
any_insert : (q k : List ℕ) (ks : List (List ℕ)) → has_key q (insert_key key_order ks k) ≡ (has_key q (k ∷ []) || has_key q ks)
any_insert q k [] = last_false (is_at (key_order q) k) false
any_insert q k (x ∷ xs) = any_by q k x xs (key_order k x) refl (any_insert q k xs)

-- a text more in one of the lists
set_by : (p : List ℕ → Bool) (a : Bool) (lists : List (List (List ℕ))) (h : ℕ) (text : List ℕ) → h < length lists
    → (a || list_any (λ l. list_any p l) (slice_set lists h (slice_index_or lists h [] ++ text ∷ []))) ≡ (p text || (a || list_any (λ l. list_any p l) lists))
set_by p a [] h text l = absurd (omega (arith, l))
set_by p a (list ∷ lists) zero text l = rw list_any-append (moved a (list_any p list) (p text) (list_any (λ l. list_any p l) lists))
set_by p a (list ∷ lists) (suc h) text l = rw (set_by p (list_any p list) lists h text (omega (arith, l))) (swap a (p text) _)

-- a text more in one of the lists and in their index
pub indexes_more : (ks ns : List (List ℕ)) (k : List ℕ) (lists : List (List (List ℕ))) (h : ℕ) (text : List ℕ) → h < length lists → Indexes ks lists → ns ≡ insert_key key_order ks k → k ≡ text
    → Indexes ns (slice_set lists h (slice_index_or lists h [] ++ text ∷ []))
indexes_more ks ns k lists h text l i e t = λ q.
    let one : has_key q (k ∷ []) ≡ (bytes_eq q text || false) = rw (is_eq-slice_cmp q k, t) refl in
    rw (e, any_insert q k ks, i q, one) (last_two (bytes_eq q text) _ ∙ sym (set_by (bytes_eq q) false lists h text l))

-- a list with a text more, and that taken away again
pub set_back : (lists : List (List (List ℕ))) (h : ℕ) (text : List ℕ) → h < length lists → (let more = slice_set lists h (slice_index_or lists h [] ++ text ∷ []) in slice_set more h (take (length (slice_index_or more h []) - 1) (slice_index_or more h []))) ≡ lists
set_back [] h text l = absurd (omega (arith, l))
set_back (list ∷ lists) zero text l = let k : length (list ++ text ∷ []) - 1 ≡ length list = rw length-append (omega arith) in rw (k, take-append_seam) refl
set_back (list ∷ lists) (suc h) text l = ap (λ (r : List (List (List ℕ))). list ∷ r) (set_back lists h text (omega (arith, l)))

pub set_back_from : (lists : List (List (List ℕ))) (h : ℕ) (text : List ℕ) (m : List (List ℕ)) → h < length lists → m ≡ slice_index_or lists h [] ++ text ∷ []
    → (let more = slice_set lists h m in slice_set more h (take (length (slice_index_or more h []) - 1) (slice_index_or more h []))) ≡ lists
set_back_from lists h text m l e = rw e (set_back lists h text l)
