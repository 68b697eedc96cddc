-- What a store's file keeps before, while and after a batch is saved.
use Rattle.std.proofs.Common.{◌⊎◌, inl, inr, ◌≡◌, ℕ, ◌^◌, ◌<◌, List, [], ◌∷◌, ◌++◌, true, Ok, length, refl, sym, ap, ◌∙◌, subst, arith}
use Rattle.std.specs.Prelude.{◌==◌, nat_lt}
use Rattle.std.proofs.lemmas.Bool.{and_parts, eqb-false}
use Rattle.host_ids.specs.declared.batch.Batch.{Batch}
use Rattle.disk_model.specs.Crash.{Image, SameBut}
use Rattle.disk_model.specs.State.{DiskState, IsDisk}
use Rattle.gate_files.specs.Moments.{LeavesOnly, OnlyOf}
use Rattle.log_record.specs.declared.gate_file.GateFile.{GateFile}
use Rattle.log_record.specs.declared.record.Record.{Record}
use Rattle.log_record.specs.declared.reached.Reached.{Reached}
use Rattle.log_record.specs.Durable.{IsInForm, Keeps, LeavesStore, Reaches, SameOutside, batch_record, durable_if, durable_in, durable_of, is_small, nothing_kept, takes, with_batch}
use Rattle.log_record.specs.Record.{is_record, record_bytes}
use Rattle.log_record.specs.Store.{IsStore, OpensTo, after, follows}
use Rattle.log_record.specs.laws.Files.{leaves_these, more_kinds}
use Rattle.log_record.specs.laws.Forms.{batch_in_form, batch_reaches, follows_parts, with_records_push}
use Rattle.log_store.specs.Kept.{IsSure, Plain, told}

-- ---- a batch that can be saved

module _ (file : ℕ) (s : Reached) (b : Batch) (t : takes file s b ≡ true) where
  parts : (is_small (batch_record b) ≡ true) × (follows file s (batch_record b) ≡ true)
  parts = and_parts (is_small (batch_record b)) (follows file s (batch_record b)) t

  pub formed : is_record (batch_record b) ≡ true
  formed = (and_parts (is_record (batch_record b)) (nat_lt (length (record_bytes (batch_record b))) (2 ^ 32)) parts.0).0

  pub may_follow : follows file s (batch_record b) ≡ true
  may_follow = parts.1

  pub kept_in_form : (d : Batch) → IsInForm d → Reaches s d → b.first < 2 ^ 64 → IsInForm (with_batch d b) × Reaches (after s (batch_record b)) (with_batch d b)
  kept_in_form d is c narrow = (batch_in_form file s d b is c formed narrow (follows_parts file s b may_follow), batch_reaches file s d b is c formed narrow (follows_parts file s b may_follow))

-- ---- bytes

-- what bytes that open to records keep
pub opened : (file : ℕ) (rs : List Record) (d : Batch) (bytes : List ℕ) → d ≡ durable_of rs → OpensTo file rs bytes → Keeps file d bytes
opened file rs d bytes same o = ap durable_if o.1 ∙ ap (λ (x : Batch). Ok x) (sym same)

-- one batch more
pub pushed : (rs : List Record) (d b : Batch) → d ≡ durable_of rs → with_batch d b ≡ durable_of (rs ++ batch_record b ∷ [])
pushed rs d b same = ap (λ (x : Batch). with_batch x b) same ∙ sym (with_records_push rs nothing_kept (batch_record b))

abbrev pub OldOrNew : Plain → Batch → List ℕ → Type 0
OldOrNew p b bytes = Keeps p.file.file p.kept bytes ⊎ Keeps p.file.file (with_batch p.kept b) bytes

-- a call that doesn't touch the disk
pub untouched : (s : DiskState) (p : Plain) (b : Batch) → IsDisk s → s.honest → IsSure s p → LeavesOnly s s (OnlyOf s.may_leave p.file.file (OldOrNew p b))
untouched s p b disk honest is =
    record {
      later = omega arith;
      each = λ c l. (let m = disk.only_now honest c l in (c, m, (λ f other. refl), inl (opened p.file.file is.records p.kept (c p.file.file) is.same (leaves_these s p.file is.records is.is_store c m))));
      before = λ t c u l. inl l;
      keeps = λ t c u l. l;
    }

-- at every moment of a save
pub saving : (old new : DiskState) (p : Plain) (b : Batch) (rs : List Record) → p.kept ≡ durable_of rs
    → LeavesOnly old new (OnlyOf old.may_leave p.file.file (λ bytes. OpensTo p.file.file rs bytes ⊎ OpensTo p.file.file (rs ++ batch_record b ∷ []) bytes))
    → LeavesOnly old new (OnlyOf old.may_leave p.file.file (OldOrNew p b))
saving old new p b rs same l =
    more_kinds old new (OnlyOf old.may_leave p.file.file (λ bytes. OpensTo p.file.file rs bytes ⊎ OpensTo p.file.file (rs ++ batch_record b ∷ []) bytes)) (OnlyOf old.may_leave p.file.file (OldOrNew p b)) (λ c o. (o.0, o.1, o.2, either (c p.file.file) o.3)) l
  where
    either : (bytes : List ℕ) → OpensTo p.file.file rs bytes ⊎ OpensTo p.file.file (rs ++ batch_record b ∷ []) bytes → OldOrNew p b bytes
    either bytes (inl o) = inl (opened p.file.file rs p.kept bytes same o)
    either bytes (inr o) = inr (opened p.file.file (rs ++ batch_record b ∷ []) (with_batch p.kept b) bytes (pushed rs p.kept b same) o)

-- ---- what a call of the file says of the store

module _ (p : Plain) (g : GateFile) (d : Batch) (v : p ≡ record { file = g; kept = d }) (b : Batch) (r : Record) (e : r ≡ batch_record b) where
  pub follows_there : takes p.file.file p.file.reached b ≡ true → follows g.file g.reached r ≡ true
  follows_there t = subst (λ (x : Record). follows g.file g.reached x ≡ true) (sym e) (may_follow g.file g.reached b (subst (λ (q : Plain). takes q.file.file q.file.reached b ≡ true) v t))

  pub store_there : (s : DiskState) (is : IsSure s p) → IsStore s g is.records
  store_there s is = subst (λ (q : Plain). IsStore s q.file is.records) v is.is_store

  pub saved_there : (old new : DiskState) (is : IsSure old p) (h : GateFile) (k : Batch) → k ≡ with_batch d b → IsStore new h (is.records ++ r ∷ []) → IsSure new (record { file = h; kept = k })
  saved_there old new is h k n l =
      record {
        records = is.records ++ batch_record b ∷ [];
        is_store = subst (λ (x : Record). IsStore new h (is.records ++ x ∷ [])) e l;
        same = n ∙ pushed is.records d b (subst (λ (q : Plain). q.kept ≡ durable_of is.records) v is.same);
      }

  pub saving_there : (old new : DiskState) (is : IsSure old p)
      → LeavesOnly old new (OnlyOf old.may_leave g.file (λ bytes. OpensTo g.file is.records bytes ⊎ OpensTo g.file (is.records ++ r ∷ []) bytes))
      → LeavesOnly old new (OnlyOf old.may_leave p.file.file (OldOrNew p b))
  saving_there old new is l =
      let one = subst (λ (x : Record). LeavesOnly old new (OnlyOf old.may_leave g.file (λ bytes. OpensTo g.file is.records bytes ⊎ OpensTo g.file (is.records ++ x ∷ []) bytes))) e l in
      let file : g.file ≡ p.file.file = ap (λ (q : Plain). q.file.file) (sym v) in
      let two = subst (λ (f : ℕ). LeavesOnly old new (OnlyOf old.may_leave f (λ bytes. OpensTo f is.records bytes ⊎ OpensTo f (is.records ++ batch_record b ∷ []) bytes))) file one in
      saving old new p b is.records is.same two

  pub form_there : takes p.file.file p.file.reached b ≡ true → IsInForm d → Reaches g.reached d → b.first < 2 ^ 64 → (k : Batch) → k ≡ with_batch d b → (t : Reached) → t ≡ after g.reached r → IsInForm k × Reaches t k
  form_there m is c narrow k n t a =
      let f = kept_in_form g.file g.reached b (subst (λ (q : Plain). takes q.file.file q.file.reached b ≡ true) v m) d is c narrow in
      let there = a ∙ ap (λ (x : Record). after g.reached x) e in
      (subst IsInForm (sym n) f.0, subst (λ (x : Reached). Reaches x k) (sym there) (subst (λ (x : Batch). Reaches (after g.reached (batch_record b)) x) (sym n) f.1))

-- ---- the same of images of all files

pub same_outside : (file : ℕ) (c d : Image) → SameBut file c d → SameOutside (λ f. f == file) c d
same_outside file c d s f e = s f (eqb-false f file e)

-- a save leaves the store in one state or the other
pub store_left : (old new : DiskState) (p : Plain) (b : Batch) → LeavesOnly old new (OnlyOf old.may_leave p.file.file (OldOrNew p b))
    → LeavesOnly old new (LeavesStore (λ f. f == p.file.file) (λ c. told p.file.file (durable_in p.file.file (c p.file.file))) old.may_leave p.kept (with_batch p.kept b))
store_left old new p b l =
    more_kinds old new (OnlyOf old.may_leave p.file.file (OldOrNew p b)) (LeavesStore (λ f. f == p.file.file) (λ c. told p.file.file (durable_in p.file.file (c p.file.file))) old.may_leave p.kept (with_batch p.kept b))
    (λ c o. (o.0, o.1, same_outside p.file.file o.0 c o.2, either (c p.file.file) o.3)) l
  where
    either : (bytes : List ℕ) → OldOrNew p b bytes → (told p.file.file (durable_in p.file.file bytes) ≡ Ok p.kept) ⊎ (told p.file.file (durable_in p.file.file bytes) ≡ Ok (with_batch p.kept b))
    either bytes (inl k) = inl (ap (told p.file.file) k)
    either bytes (inr k) = inr (ap (told p.file.file) k)
