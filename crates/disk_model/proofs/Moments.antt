-- Time goes on at a disk in memory, and what a call that is no write keeps.
use Rattle.std.proofs.Common.{◌≡◌, ◌⊎◌, ℕ, List, [], ◌∷◌, ◌++◌, length, drop, refl, sym, ◌∙◌, ap, subst, inl, inr, ⊎_elim, arith, length-append}
use Rattle.std.proofs.lemmas.List.{drop-append-le}
use Rattle.std.specs.BTreeMap.{BTreeMap}
use Rattle.std.specs.declared.snapshot.Snapshot.{Snapshot}
use Rattle.disk_model.specs.Crash.{Image, Elapses}
use Rattle.disk_model.specs.Calls.{GoesOn, Alters}
use Rattle.disk_model.specs.Files.{Files, FileState, Leaves, file_at, now_of}
use Rattle.disk_model.specs.Memory.{Past, state_of, HadLeft, LeftSince, disk_state, Counted}
use Rattle.disk_model.specs.Plan.{Plan}
use Rattle.disk_model.specs.declared.damage.Damage.{Damage}
use Rattle.disk_model.specs.declared.memory.MemDisk.{MemDisk}

had_snoc : (xs : Past) (w : Snapshot (BTreeMap ℕ FileState)) (c : Image) → HadLeft (xs ++ w ∷ []) c → HadLeft xs c ⊎ Leaves w.value.entries c
had_snoc [] w c had = ⊎_elim (λ l. inr l) (λ none. absurd none) had
had_snoc (x ∷ xs) w c had = ⊎_elim (λ l. inl (inl l)) (λ more. ⊎_elim (λ h. inl (inr h)) (λ l. inr l) (had_snoc xs w c more)) had

had_more : (xs : Past) (w : Snapshot (BTreeMap ℕ FileState)) (c : Image) → HadLeft xs c → HadLeft (xs ++ w ∷ []) c
had_more [] w c had = absurd had
had_more (x ∷ xs) w c had = ⊎_elim (λ l. inl l) (λ h. inr (had_more xs w c h)) had

had_last : (xs : Past) (w : Snapshot (BTreeMap ℕ FileState)) (c : Image) → Leaves w.value.entries c → HadLeft (xs ++ w ∷ []) c
had_last [] w c l = inl l
had_last (x ∷ xs) w c l = inr (had_last xs w c l)

-- the files of before are remembered
elapses : (es new : Files) (past : Past) (w : Snapshot (BTreeMap ℕ FileState)) → w.value.entries ≡ es → Elapses (length past) (length (past ++ w ∷ [])) (LeftSince es past) (LeftSince new (past ++ w ∷ [])) (Leaves new)
elapses es new past w is = record {
  later = omega (arith, length-append past (w ∷ []));
  nothing_else = λ t c le l. ⊎_elim (λ now. inr now)
      (λ had.
      let H : Past → Type 0 = λ xs. HadLeft xs c in
      inl (⊎_elim (λ h. inr h) (λ (l : Leaves w.value.entries c). let L : Files → Type 0 = λ x. Leaves x c in inl (subst L is l)) (had_snoc (drop t past) w c (subst H (drop-append-le t past (w ∷ []) le) had)))) l;
  keeps = λ t c le l.
      let H : Past → Type 0 = λ xs. HadLeft xs c in
      inr (subst H (sym (drop-append-le t past (w ∷ []) le)) (⊎_elim (λ now. let L : Files → Type 0 = λ x. Leaves x c in had_last (drop t past) w c (subst L (sym is) now)) (λ had. had_more (drop t past) w c had) l));
}

stands : (es : Files) (past : Past) → Elapses (length past) (length past) (LeftSince es past) (LeftSince es past) (Leaves es)
stands es past = record {
  later = omega arith;
  nothing_else = λ t c le l. inl l;
  keeps = λ t c le l. l;
}

-- a call that has begun, whatever it has changed since
pub goes_on : {bd bd' : List Damage} {fs fs' : ℕ} {pl pl' : Plan} (past past' : Past) (old new : Files) → bd' ≡ bd → (w : Snapshot (BTreeMap ℕ FileState)) × (w.value.entries ≡ old) × (past' ≡ past ++ w ∷ []) → GoesOn (state_of old past bd fs pl) (state_of new past' bd' fs' pl')
goes_on past past' old new same was = record {
  tells = λ t. t;
  honest = λ h. same ∙ h;
  time = λ h.
      let E : Past → Type 0 = λ xs. Elapses (length past) (length xs) (LeftSince old past) (LeftSince new xs) (Leaves new) in
      subst E (sym was.2) (elapses old new past was.0 was.1);
}

-- a call that has changed nothing
pub stays : (old new : MemDisk) → new.damages.items ≡ old.damages.items → new.files.entries ≡ old.files.entries → new.past.items ≡ old.past.items → GoesOn (disk_state old) (disk_state new)
stays old new same files past = record {
  tells = λ t. t;
  honest = λ h. same ∙ h;
  time = λ h.
      let E : Past → Files → Type 0 = λ xs es. Elapses (length old.past.items) (length xs) (LeftSince old.files.entries old.past.items) (LeftSince es xs) (Leaves es) in
      let P : Past → Type 0 = λ xs. E xs new.files.entries in
      let F : Files → Type 0 = λ es. E old.past.items es in
      subst P (sym past) (subst F (sym files) (stands old.files.entries old.past.items));
}

-- nothing has changed, so nothing more than a step that may leave all as it was
pub alters_nothing : (file : ℕ) (step : List ℕ → List ℕ → Type 0) {ps ps' : Past} {bd bd' : List Damage} {fs fs' : ℕ} {pl pl' : Plan} (old new : Files) → ((bytes : List ℕ) → step bytes bytes) → new ≡ old → Alters file step (state_of old ps bd fs pl) (state_of new ps' bd' fs' pl')
alters_nothing file step old new same files =
    let seen : (f : ℕ) → now_of (file_at f new) ≡ now_of (file_at f old) = λ f. ap (λ es. now_of (file_at f es)) files in
    record {
      seen = λ t. subst (λ (x : List ℕ). step (now_of (file_at file old)) x) (sym (seen file)) (same (now_of (file_at file old)));
      others = λ t f off. seen f;
      listed = λ t f off. ap (λ es. (file_at f es).listed) files;
      crash = λ h c l. (c, subst (λ (es : Files). Leaves es c) files l, (λ f off. refl), same (c file));
    }

-- a call that was only counted
pub counted_alters : (file : ℕ) (step : List ℕ → List ℕ → Type 0) (old new : MemDisk) → ((bytes : List ℕ) → step bytes bytes) → Counted old new → Alters file step (disk_state old) (disk_state new)
counted_alters file step old new same counted = alters_nothing file step old.files.entries new.files.entries same (ap (λ (p : Plan). p.files) counted.plan)
