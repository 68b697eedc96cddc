-- What each of the four calls of a save leaves.
use Rattle.std.proofs.Common.{◌≡◌, ℕ, ◌+◌, List, [], ◌∷◌, ◌++◌, true, length, sym, ◌∙◌, ap, subst, inl}
use Rattle.disk_model.specs.Bytes.{written}
use Rattle.disk_model.specs.Crash.{Torn}
use Rattle.disk_model.specs.State.{DiskState, IsDisk}
use Rattle.disk_model.specs.Calls.{GoesOn, Keeps, Alters, Has, IsSure}
use Rattle.gate_files.specs.Gates.{IsAt, Opens, OldOrNew, framed}
use Rattle.gate_files.proofs.Bytes.{Ready, opens_torn, opens_written, ready_torn, ready_written, ready_either, next_place}
use Rattle.gate_files.proofs.Calls.{Leaves, at_first, altered, kept, surely}

module _ (rs : List (List ℕ)) (r : List ℕ) (file gate : ℕ) (bytes : List ℕ) (old : DiskState) (spelt : bytes ≡ framed r) (is : IsAt old file gate rs) where
  abbrev Now : (List ℕ → Type 0) → DiskState → Type 0
  Now now s = Leaves old file (OldOrNew rs r) now s

  -- after the first write, done or not, the records are those of before
  pub wrote : (s : DiskState) → IsDisk old → old.honest → Alters file (Torn (gate + 1) (length bytes)) old s → GoesOn old s → Now (Opens rs) s
  wrote s disk honest alters on =
      let first : Now (Opens rs) old = at_first old file (OldOrNew rs r) (Opens rs) disk honest is.sure is.opens (λ b opens. inl opens) in
      altered old file (OldOrNew rs r) (Torn (gate + 1) (length bytes)) (Opens rs) (Opens rs) old s first alters on
      (λ was new opens torn. opens_torn rs gate is.place (length bytes) was new opens torn)
      (λ b opens. inl opens)

  -- and after the sync, done or not
  pub wrote_on : (s t : DiskState) → Now (Opens rs) s → Keeps s t → GoesOn s t → Now (Opens rs) t
  wrote_on s t now keeps on = kept old file (OldOrNew rs r) (Opens rs) s t now keeps on

  -- what a read gives once the first write is done
  pub ready : (s t : DiskState) → s.tells → Has file (written (gate + 1) bytes (old.seen file)) true s → Keeps s t → Ready rs r (t.seen file)
  ready s t tells has keeps =
      let stands : t.seen file ≡ written (gate + 1) (framed r) (old.seen file) = keeps.seen tells file ∙ has.bytes ∙ ap (λ (b : List ℕ). written (gate + 1) b (old.seen file)) spelt in
      subst (Ready rs r) (sym stands) (opens_written rs gate is.place r (old.seen file) is.opens)

  -- once it was made sure of, only the gate is missing
  pub readied : (s : DiskState) → Now (Opens rs) s → IsSure file s → Ready rs r (s.seen file) → Now (Ready rs r) s
  readied s now sure ready = surely old file (OldOrNew rs r) (Opens rs) (Ready rs r) s now sure ready (ready_either rs r)

  -- after the second write, done or not, so it is still
  pub unlocked : (s t : DiskState) → Now (Ready rs r) s → Alters file (Torn gate 1) s t → GoesOn s t → Now (Ready rs r) t
  unlocked s t now alters on =
      altered old file (OldOrNew rs r) (Torn gate 1) (Ready rs r) (Ready rs r) s t now alters on
      (λ was new ready torn. ready_torn rs gate is.place r was new ready torn)
      (ready_either rs r)

  -- and after the last sync, done or not
  pub unlocked_on : (s t : DiskState) → Now (Ready rs r) s → Keeps s t → GoesOn s t → Now (Ready rs r) t
  unlocked_on s t now keeps on = kept old file (OldOrNew rs r) (Ready rs r) s t now keeps on

  -- once it was made sure of the gate, the record is saved
  pub saved : (s t u : DiskState) → t.tells → Ready rs r (s.seen file) → Has file (written gate (1 ∷ []) (s.seen file)) true t → Keeps t u → IsSure file u → IsAt u file (gate + length bytes) (rs ++ r ∷ [])
  saved s t u tells ready has keeps sure =
      record {
        opens = subst (Opens (rs ++ r ∷ [])) (sym (keeps.seen tells file ∙ has.bytes)) (ready_written rs gate is.place r (s.seen file) ready);
        place = ap (λ (b : List ℕ). gate + length b) spelt ∙ next_place rs gate is.place r;
        sure = sure.bytes;
      }
