-- What a crash may leave once a file has changed.
use Rattle.std.proofs.Common.{◌≡◌, ◌≢◌, ℕ, ◌<◌, ◌≤◌, List, [], true, false, length, take, replicate, refl, sym, ◌∙◌, ap, subst, inl, inr, ⊎_elim, arith, rules, ◌==◌, if◌then◌else◌, nat_le}
use Rattle.std.proofs.lemmas.List.{same_lists, places, length-replicate}
use Rattle.std.proofs.lemmas.Bool.Decides.{eqb_tells}
use Rattle.disk_model.proofs.Changed.{by_bool, cond_t, cond_f, changed_self, changed_other, listed_self, listed_other}
use Rattle.disk_model.specs.Bytes.{written, cut_to}
use Rattle.disk_model.specs.Crash.{Image, Torn, Cut, Gone}
use Rattle.disk_model.specs.Calls.{Alters, Has}
use Rattle.disk_model.specs.Files.{Files, FileState, IsLeft, file_at, now_of, burnt_of, wrote, resized, removed, change, change_listed, is_listed}
use Rattle.disk_model.specs.Memory.{Past, state_of}
use Rattle.disk_model.specs.Plan.{Plan}
use Rattle.disk_model.specs.declared.damage.Damage.{Damage}

pub torn_same : (at n : ℕ) (bytes : List ℕ) → Torn at n bytes bytes
torn_same at n bytes = record { before = same_lists _ _ (search (rules, places)) (λ k d h. grind (arith, places)); after = same_lists _ _ (search (rules, places)) (λ k d h. grind (arith, places)); no_shorter = omega arith }

torn_written : (at : ℕ) (bytes old : List ℕ) → Torn at (length bytes) old (written at bytes old)
torn_written at bytes old = record {
  before = same_lists _ _ (search (rules, places)) (λ k d h. grind (arith, places));
  after = same_lists _ _ (search (rules, places)) (λ k d h. grind (arith, places));
  no_shorter = grind (arith, places);
}

torn_burnt : (at n : ℕ) (old : List ℕ) → Torn at n old (written at (replicate n 255) old)
torn_burnt at n old = subst (λ (m : ℕ). Torn at m old (written at (replicate n 255) old)) (length-replicate n 255) (torn_written at (replicate n 255) old)

cut_done : (n : ℕ) (old : List ℕ) → Cut n old (cut_to n old)
cut_done n old = by_bool (nat_le n (length old))
    (λ t. let long : n ≤ length old = grind (arith, t) in inr (inl (same_lists (cut_to n old) (take n old) (search (rules, places)) (λ k d h. grind (arith, places)))))
    (λ f. let short : length old < n = grind (arith, f) in inr (inr (short, same_lists (take (length old) (cut_to n old)) old (search (rules, places)) (λ k d h. grind (arith, places)))))

-- what a crash may leave of the changed file comes by the step from what it could leave of it before
abbrev Steps : (List ℕ → List ℕ → Type 0) → FileState → FileState → Type 0
Steps step s t = (bytes : List ℕ) → IsLeft t bytes → (was : List ℕ) × IsLeft s was × step was bytes

pub wrote_steps : (at : ℕ) (bytes : List ℕ) (s : FileState) → Steps (Torn at (length bytes)) s (wrote at bytes s)
wrote_steps at bytes s left l =
    let T : List ℕ → List ℕ → Type 0 = Torn at (length bytes) in
    ⊎_elim (λ k. (left, inl k, torn_same at (length bytes) left))
    (λ r. ⊎_elim (λ n. (now_of s, inr (inl refl), subst (T (now_of s)) (sym n) (torn_written at bytes (now_of s))))
    (λ q. ⊎_elim (λ b. (burnt_of s, inr (inr (inl refl)), subst (T (burnt_of s)) (sym b) (torn_burnt at (length bytes) (burnt_of s))))
    (λ g. (left, inr (inr (inr g)), torn_same at (length bytes) left)) q) r) l

pub cut_steps : (n : ℕ) (s : FileState) → Steps (Cut n) s (resized n s)
cut_steps n s left l =
    ⊎_elim (λ k. (left, inl k, inl refl))
    (λ r. ⊎_elim (λ m. (now_of s, inr (inl refl), subst (Cut n (now_of s)) (sym m) (cut_done n (now_of s))))
    (λ q. ⊎_elim (λ b. (burnt_of s, inr (inr (inl refl)), subst (Cut n (burnt_of s)) (sym b) (cut_done n (burnt_of s))))
    (λ g. (left, inr (inr (inr g)), inl refl)) q) r) l

pub gone_steps : (s : FileState) → Steps Gone s (removed s)
gone_steps s left l =
    ⊎_elim (λ k. (left, inl k, inl refl))
    (λ r. let empty : left ≡ [] = ⊎_elim (λ n. n) (λ q. ⊎_elim (λ b. b) (λ g. g.1) q) r in (now_of s, inr (inl refl), inr empty)) l

-- a disk of which one file has changed by a step
pub alters : (file : ℕ) (step : List ℕ → List ℕ → Type 0) {ps ps' : Past} {bd bd' : List Damage} {fs fs' : ℕ} {pl pl' : Plan} (old new : Files) → step (now_of (file_at file old)) (now_of (file_at file new)) → Steps step (file_at file old) (file_at file new) → ((f : ℕ) → f ≢ file → file_at f new ≡ file_at f old) → Alters file step (state_of old ps bd fs pl) (state_of new ps' bd' fs' pl')
alters file step old new now steps others = record {
  seen = λ t. now;
  others = λ t f off. ap now_of (others f off);
  listed = λ t f off. ap (λ (s : FileState). s.listed) (others f off);
  crash = λ h c l.
      let p = steps (c file) (l file) in
      let d : Image = λ f. if f == file then p.0 else c f in
      let at_file : d file ≡ p.0 = ⊎_elim (λ q. let e : (file == file) ≡ true = q.0 in ap (λ b. if b then p.0 else c file) e) (λ q. absurd (q.1 refl)) (eqb_tells file file) in
      let at_other : (f : ℕ) → f ≢ file → c f ≡ d f = λ f off. ⊎_elim (λ q. absurd (off q.1)) (λ q. let e : (f == file) ≡ false = q.0 in sym (ap (λ b. if b then p.0 else c f) e)) (eqb_tells f file) in (
        d,
        (λ f. ⊎_elim
            (λ q. let same : f ≡ file = q.1 in subst (λ (g : ℕ). IsLeft (file_at g old) (d g)) (sym same) (subst (IsLeft (file_at file old)) (sym at_file) p.1))
            (λ q. let I : FileState → Type 0 = λ s. IsLeft s (d f) in subst I (others f q.1) (subst (IsLeft (file_at f new)) (at_other f q.1) (l f)))
            (eqb_tells f file)),
        at_other,
        subst (λ (x : List ℕ). step x (c file)) (sym at_file) p.2,
      );
}

-- a write, a cut and a removal of a file
pub write_alters : (file at : ℕ) (bytes : List ℕ) {ps ps' : Past} {bd bd' : List Damage} {fs fs' : ℕ} {pl pl' : Plan} (old new : Files) → new ≡ change file (wrote at bytes) old → Alters file (Torn at (length bytes)) (state_of old ps bd fs pl) (state_of new ps' bd' fs' pl')
write_alters file at bytes old new is =
    let s = file_at file old in
    let here : file_at file new ≡ wrote at bytes s = ap (file_at file) is ∙ changed_self file (wrote at bytes) old in
    alters file (Torn at (length bytes)) old new
    (subst (λ (t : FileState). Torn at (length bytes) (now_of s) (now_of t)) (sym here) (torn_written at bytes (now_of s)))
    (subst (Steps (Torn at (length bytes)) s) (sym here) (wrote_steps at bytes s))
    (λ f off. ap (file_at f) is ∙ changed_other file f (wrote at bytes) old off)

pub cut_alters : (file n : ℕ) {ps ps' : Past} {bd bd' : List Damage} {fs fs' : ℕ} {pl pl' : Plan} (old new : Files) → new ≡ change file (resized n) old → Alters file (Cut n) (state_of old ps bd fs pl) (state_of new ps' bd' fs' pl')
cut_alters file n old new is =
    let s = file_at file old in
    let here : file_at file new ≡ resized n s = ap (file_at file) is ∙ changed_self file (resized n) old in
    alters file (Cut n) old new
    (subst (λ (t : FileState). Cut n (now_of s) (now_of t)) (sym here) (cut_done n (now_of s)))
    (subst (Steps (Cut n) s) (sym here) (cut_steps n s))
    (λ f off. ap (file_at f) is ∙ changed_other file f (resized n) old off)

pub write_has : (file at : ℕ) (bytes : List ℕ) {ps' : Past} {bd' : List Damage} {fs' : ℕ} {pl' : Plan} (old new : Files) → new ≡ change file (wrote at bytes) old → Has file (written at bytes (now_of (file_at file old))) true (state_of new ps' bd' fs' pl')
write_has file at bytes old new is =
    let here : file_at file new ≡ wrote at bytes (file_at file old) = ap (file_at file) is ∙ changed_self file (wrote at bytes) old in
    record { bytes = ap now_of here; listed = ap (λ (s : FileState). s.listed) here }

pub cut_has : (file n : ℕ) {ps' : Past} {bd' : List Damage} {fs' : ℕ} {pl' : Plan} (old new : Files) → new ≡ change file (resized n) old → Has file (cut_to n (now_of (file_at file old))) true (state_of new ps' bd' fs' pl')
cut_has file n old new is =
    let here : file_at file new ≡ resized n (file_at file old) = ap (file_at file) is ∙ changed_self file (resized n) old in
    record { bytes = ap now_of here; listed = ap (λ (s : FileState). s.listed) here }

unlisted_now : (s : FileState) → s.listed ≡ false → now_of s ≡ []
unlisted_now s is = cond_f _ s.now [] is

removed_at : (file : ℕ) (old new : Files) → new ≡ change_listed file removed old → (now_of (file_at file new) ≡ []) × ((file_at file new).listed ≡ false)
removed_at file es new is =
    let here : file_at file new ≡ (if is_listed es file then removed (file_at file es) else file_at file es) = ap (file_at file) is ∙ listed_self file removed es in
    by_bool (is_listed es file)
    (λ t. let at : file_at file new ≡ removed (file_at file es) = here ∙ cond_t _ (removed (file_at file es)) (file_at file es) t in (ap now_of at, ap (λ (s : FileState). s.listed) at))
    (λ f. let at : file_at file new ≡ file_at file es = here ∙ cond_f _ (removed (file_at file es)) (file_at file es) f in (ap now_of at ∙ unlisted_now (file_at file es) f, ap (λ (s : FileState). s.listed) at ∙ f))

pub remove_has : {ps' : Past} {bd' : List Damage} {fs' : ℕ} {pl' : Plan} (file : ℕ) (old new : Files) → new ≡ change_listed file removed old → Has file [] false (state_of new ps' bd' fs' pl')
remove_has file old new is = let at = removed_at file old new is in record { bytes = at.0; listed = at.1 }

gone_same : (s : FileState) → Steps Gone s s
gone_same s left l = (left, l, inl refl)

pub remove_alters : (file : ℕ) {ps ps' : Past} {bd bd' : List Damage} {fs fs' : ℕ} {pl pl' : Plan} (old new : Files) → new ≡ change_listed file removed old → Alters file Gone (state_of old ps bd fs pl) (state_of new ps' bd' fs' pl')
remove_alters file old new is =
    let es : Files = old in
    let s = file_at file es in
    let here : file_at file new ≡ (if is_listed es file then removed s else s) = ap (file_at file) is ∙ listed_self file removed es in
    alters file Gone old new
    (inr ((removed_at file old new is).0))
    (by_bool (is_listed es file)
    (λ t. subst (Steps Gone s) (sym (here ∙ cond_t _ (removed s) s t)) (gone_steps s))
    (λ f. subst (Steps Gone s) (sym (here ∙ cond_f _ (removed s) s f)) (gone_same s)))
    (λ f off. ap (file_at f) is ∙ listed_other file f removed es off)
