-- Changes one after another: the last one is undone first, and done again last.
use Rattle.std.proofs.Common.{length-drop, ◌≡◌, ℕ, ◌+◌, ◌-◌, ◌<◌, ◌≤◌, List, [], ◌∷◌, ◌++◌, Bool, true, ◌&&◌, length, take, drop, min, slice_index_or, refl, sym, ◌∙◌, ap, arith, rules, nat_le}
use Rattle.std.specs.List.{list_all}
use Rattle.std.proofs.lemmas.List.{take_more, length-take}
use Rattle.std.proofs.lemmas.List.Folds.{list_all-append}
use Rattle.disk_model.specs.Bytes.{written, cut_to}
use Rattle.disk_model.proofs.Lists.{undone_write, undone_cut}
use Rattle.disk_model.specs.Undo.{undo, undone, burn, burned, is_within}
use Rattle.disk_model.specs.declared.contents.Change.{Change}

and_true : (a b : Bool) → (a && b) ≡ true → (a ≡ true) × (b ≡ true)
and_true a b h = search (rules, h)

both_true : (a b : Bool) → a ≡ true → b ≡ true → (a && b) ≡ true
both_true a b p q = rw p q

pub undone_snoc : (cs : List Change) (c : Change) (bytes : List ℕ) → undone (cs ++ c ∷ []) bytes ≡ undone cs (undo c bytes)
undone_snoc [] c bytes = refl
undone_snoc (x ∷ cs) c bytes = ap (undo x) (undone_snoc cs c bytes)

pub burned_snoc : (cs : List Change) (c : Change) (bytes : List ℕ) → burned (cs ++ c ∷ []) bytes ≡ burn c.action (burned cs bytes)
burned_snoc [] c bytes = refl
burned_snoc (x ∷ cs) c bytes = burned_snoc cs c (burn x.action bytes)

within_one : (a b : ℕ) (c : Change) → a ≤ b → is_within a c ≡ true → is_within b c ≡ true
within_one a b c le h = grind (arith)

-- more room does no harm
pub within_more : (a b : ℕ) (cs : List Change) → a ≤ b → list_all (is_within a) cs ≡ true → list_all (is_within b) cs ≡ true
within_more a b [] le h = refl
within_more a b (c ∷ cs) le h = let p = and_true (is_within a c) (list_all (is_within a) cs) h in both_true _ _ (within_one a b c le p.0) (within_more a b cs le p.1)

pub within_snoc : (a : ℕ) (cs : List Change) (c : Change) → list_all (is_within a) cs ≡ true → is_within a c ≡ true → list_all (is_within a) (cs ++ c ∷ []) ≡ true
within_snoc a cs c h one = list_all-append (is_within a) cs (c ∷ []) ∙ both_true _ _ h (both_true _ _ one refl)

-- one change less is left to undo
pub undone_less : (n : ℕ) (cs : List Change) (c : Change) (bytes : List ℕ) → n < length cs → c ≡ slice_index_or cs n c → undone (take n cs) (undo c bytes) ≡ undone (take (n + 1) cs) bytes
undone_less n cs c bytes lt is = let e : take (n + 1) cs ≡ take n cs ++ c ∷ [] = take_more cs n c lt ∙ ap (λ (x : Change). take n cs ++ x ∷ []) (sym is) in sym (ap (λ (xs : List Change). undone xs bytes) e ∙ undone_snoc (take n cs) c bytes)

-- what one more change keeps, and what it burns
pub kept_by : (cs new : List Change) (c : Change) (now bytes : List ℕ) → new ≡ cs ++ c ∷ [] → undo c now ≡ bytes → undone new now ≡ undone cs bytes
kept_by cs new c now bytes is back = ap (λ (xs : List Change). undone xs now) is ∙ undone_snoc cs c now ∙ ap (undone cs) back

pub burnt_by : (cs new : List Change) (c : Change) (now bytes : List ℕ) → new ≡ cs ++ c ∷ [] → undo c now ≡ bytes → burned new (undone new now) ≡ burn c.action (burned cs (undone cs bytes))
burnt_by cs new c now bytes is back = ap (burned new) (kept_by cs new c now bytes is back) ∙ ap (λ (xs : List Change). burned xs (undone cs bytes)) is ∙ burned_snoc cs c (undone cs bytes)

-- a write is undone
pub write_back : (at n : ℕ) (bytes old over now : List ℕ) (before place end : ℕ) → n ≡ length bytes → before ≡ length old → place ≡ min at before → end ≡ min (at + n) before → over ≡ take (end - place) (drop place old) → now ≡ written at bytes old → take before (written place over now) ≡ old
write_back at n bytes old over now before place end en eb ep ee eo ew = rw eo (rw ew (rw ee (rw ep (rw eb (rw en (undone_write at bytes old))))))

-- a cut is undone
pub cut_back : (size : ℕ) (old over now : List ℕ) (before place : ℕ) → before ≡ length old → place ≡ min size before → over ≡ drop place old → now ≡ cut_to size old → take before (written place over now) ≡ old
cut_back size old over now before place eb ep eo ew = rw eo (rw ew (rw ep (rw eb (undone_cut size old))))

-- the change of a write is within the room that it took
pub write_within : (at n place end room : ℕ) (over old : List ℕ) → end ≤ at + n → over ≡ take (end - place) (drop place old) → place ≤ at → at + n ≤ room → (nat_le (place + length over) room && nat_le (at + n) room) ≡ true
write_within at n place end room over old le is lep fits = let len : length over ≤ end - place = rw is (omega (arith, length-take (end - place) (drop place old))) in let first : nat_le (place + length over) room ≡ true = grind (arith, le, len, lep, fits) in let second : nat_le (at + n) room ≡ true = grind (arith, fits) in both_true _ _ first second

-- the change of a cut is within the room that the file had
pub cut_within : (size place room : ℕ) (over old : List ℕ) → over ≡ drop place old → place ≤ length old → length old ≤ room → size ≤ room → (nat_le (place + length over) room && nat_le size room) ≡ true
cut_within size place room over old is le fits sized = let len : length over ≡ length old - place = rw is (length-drop place old) in let first : nat_le (place + length over) room ≡ true = grind (arith, len, le, fits) in let second : nat_le size room ≡ true = grind (arith, sized) in both_true _ _ first second
