-- Files that hold records, on a disk.
use Rattle.std.proofs.Common.{[], arith, inl, inr, refl, ◌++◌, ◌+◌, ◌∙◌, ◌∷◌, ◌≡◌, ◌⊎◌, ap, drop, get_or, List, map, Some, subst, sym, ℕ, true}
use Rattle.std.proofs.lemmas.List.{drop_more, map-append}
use Rattle.disk_model.specs.State.{DiskState, IsDisk}
use Rattle.disk_model.specs.Calls.{IsSure, Keeps}
use Rattle.gate_files.specs.Gates.{IsAt, OldOrNew, Opens}
use Rattle.gate_files.specs.Moments.{LeavesOnly, OnlyOf}
use Rattle.log_record.specs.declared.gate_file.GateFile.{GateFile}
use Rattle.log_record.specs.declared.record.Record.{Record}
use Rattle.log_record.specs.declared.reached.Reached.{Reached}
use Rattle.log_record.specs.Record.{record_bytes}
use Rattle.log_record.specs.Store.{AreSmall, IsSmall, IsStore, IsWhole, OpensTo, after, follows, nothing_yet, reached}
use Rattle.log_record.proofs.Gating.{reached_one, small_push}
use Rattle.log_record.specs.laws.Files.{more_kinds, leaves_these, to_opens}

-- a file that was read, and is sure, is at its gate
pub at_gate : (old new : DiskState) (file gate : ℕ) (bytes : List ℕ) (rs : List Record) (s : Reached) → old.tells → bytes ≡ old.seen file → IsWhole file bytes rs gate s → Keeps old new → IsSure file new → IsAt new file gate (map record_bytes rs)
at_gate old new file gate bytes rs s tells read w keeps sure =
    let same : bytes ≡ new.seen file = read ∙ sym (keeps.seen tells file) in
    let opens : Opens (map record_bytes rs) bytes = (drop gate bytes, w.stands, (get_or bytes gate 0, drop (gate + 1) bytes, drop_more bytes gate 0 w.within, w.shut)) in
    record { opens = subst (Opens (map record_bytes rs)) same opens; place = w.place; sure = sure.bytes }

-- a call that doesn't touch the disk
pub untouched : (s : DiskState) (g : GateFile) (rs : List Record) (r : Record) → IsDisk s → s.honest → IsStore s g rs → LeavesOnly s s (OnlyOf s.may_leave g.file (λ bytes. OpensTo g.file rs bytes ⊎ OpensTo g.file (rs ++ r ∷ []) bytes))
untouched s g rs r disk honest is =
    record { later = omega arith; each = λ c l. (let m = disk.only_now honest c l in (c, m, (λ f other. refl), inl (leaves_these s g rs is c m))); before = λ t c u l. inl l; keeps = λ t c u l. l }

-- what a save leaves, by bytes, is what it leaves by records
module _ (file : ℕ) (rs : List Record) (r : Record) (s : Reached) (small : AreSmall rs) (one : IsSmall r) (reaches : reached file nothing_yet rs ≡ Some s) (next : follows file s r ≡ true) where
  pub spelt : map record_bytes (rs ++ r ∷ []) ≡ map record_bytes rs ++ record_bytes r ∷ []
  spelt = map-append record_bytes rs (r ∷ [])

  pub either : (bytes : List ℕ) → OldOrNew (map record_bytes rs) (record_bytes r) bytes → OpensTo file rs bytes ⊎ OpensTo file (rs ++ r ∷ []) bytes
  either bytes (inl o) = inl (to_opens file rs s bytes small reaches o)
  either bytes (inr o) = inr (to_opens file (rs ++ r ∷ []) (after s r) bytes (small_push rs r small one) (reached_one file nothing_yet s rs r reaches next) (subst (λ (l : List (List ℕ)). Opens l bytes) (sym spelt) o))

  -- the record is saved
  pub appended : (d : DiskState) (g : GateFile) (gate : ℕ) → g.file ≡ file → g.gate ≡ gate → g.reached ≡ after s r → IsAt d file gate (map record_bytes rs ++ record_bytes r ∷ []) → IsStore d g (rs ++ r ∷ [])
  appended d g gate f here t is =
      let all = subst (λ (l : List (List ℕ)). IsAt d file gate l) (sym spelt) is in
      let there = subst (λ (n : ℕ). IsAt d n gate (map record_bytes (rs ++ r ∷ []))) (sym f) all in
      record {
        at_gate = subst (λ (n : ℕ). IsAt d g.file n (map record_bytes (rs ++ r ∷ []))) (sym here) there;
        small = small_push rs r small one;
        reaches = ap (λ (n : ℕ). reached n nothing_yet (rs ++ r ∷ [])) f ∙ reached_one file nothing_yet s rs r reaches next ∙ ap (λ (x : Reached). Some x) (sym t);
      }

  -- at every moment, the records of before or one more
  pub left_by_records : (old new : DiskState) → LeavesOnly old new (OnlyOf old.may_leave file (OldOrNew (map record_bytes rs) (record_bytes r)))
      → LeavesOnly old new (OnlyOf old.may_leave file (λ bytes. OpensTo file rs bytes ⊎ OpensTo file (rs ++ r ∷ []) bytes))
  left_by_records old new l =
      more_kinds old new (OnlyOf old.may_leave file (OldOrNew (map record_bytes rs) (record_bytes r))) (OnlyOf old.may_leave file (λ bytes. OpensTo file rs bytes ⊎ OpensTo file (rs ++ r ∷ []) bytes))
      (λ c o. (o.0, o.1, o.2, either (c file) o.3)) l
