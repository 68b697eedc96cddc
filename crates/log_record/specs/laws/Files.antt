-- What files with records hold, and what a crash leaves of them.
use Rattle.std.proofs.Common.{◌⊎◌, inl, inr, ◌≡◌, ◌++◌, ◌∙◌, ap, length, ℕ, List, Some, map, sym, subst}
use Rattle.disk_model.specs.Crash.{Image}
use Rattle.disk_model.specs.State.{DiskState}
use Rattle.gate_files.specs.Gates.{Opens, header, opened}
use Rattle.gate_files.specs.Moments.{LeavesOnly}
use Rattle.log_record.specs.declared.gate_file.GateFile.{GateFile}
use Rattle.log_record.specs.declared.record.Record.{Record}
use Rattle.log_record.specs.declared.reached.Reached.{Reached}
use Rattle.log_record.specs.Record.{record_bytes}
use Rattle.log_record.specs.Store.{AreSmall, IsStore, OpensTo, all_gated, nothing_yet, reached}
use Rattle.log_record.specs.laws.Stored.{stored}

-- bytes that open to the bytes of records open to these
pub to_opens : (file : ℕ) (rs : List Record) (s : Reached) (bytes : List ℕ) → AreSmall rs → reached file nothing_yet rs ≡ Some s → Opens (map record_bytes rs) bytes → OpensTo file rs bytes
to_opens file rs s bytes a e o =
    (length (header ++ all_gated rs), stored file bytes o.2.0 o.2.1 o.2.3 rs s a e (o.1 ∙ ap (λ (l : List ℕ). opened (map record_bytes rs) ++ l) o.2.2))

-- of a file with these records a crash leaves bytes that open to them
pub leaves_these : (s : DiskState) (g : GateFile) (rs : List Record) → IsStore s g rs → (c : Image) → s.may_leave c → OpensTo g.file rs (c g.file)
leaves_these s g rs is c m = to_opens g.file rs g.reached (c g.file) is.small is.reaches (subst (Opens (map record_bytes rs)) (sym (is.at_gate.sure c m)) is.at_gate.opens)

-- a kind of images that holds more
pub more_kinds : (old new : DiskState) (P Q : Image → Type 0) → ((c : Image) → P c → Q c) → LeavesOnly old new P → LeavesOnly old new Q
more_kinds old new P Q f l = record { later = l.later; each = λ c m. f c (l.each c m); before = λ t c u m. either_way (l.before t c u m); keeps = l.keeps }
  where
    either_way : {A : Type 0} {c : Image} → A ⊎ P c → A ⊎ Q c
    either_way (inl a) = inl a
    either_way {c = c} (inr p) = inr (f c p)
