-- Notes confirm one after another.
use Rattle.std.proofs.Common.{◌≡◌, ℕ, suc, ◌+◌, ◌<◌, List, [], ◌∷◌, length, drop, get_or, refl, add-one}
use Rattle.std.proofs.Math.Seq.{drop-cons}
use Rattle.raft_model.specs.declared.note.Note.{Note}
use Rattle.raft_model.specs.declared.note.Note.TheVariants as notes
use Rattle.run_model.specs.World.{Open}
use Rattle.run_model.specs.Run.{confirmed}

-- notes confirm one after another
next_note : (n : Note) (ns : List Note) (o : Open) → confirmed (n ∷ ns) o ≡ confirmed ns (confirmed (n ∷ []) o)
unfolding confirmed
next_note (notes.Leader host term) ns o = refl
next_note (notes.Pending host id) ns o = refl
next_note notes.Idle ns o = refl
next_note (notes.Dropped key) ns o = refl
next_note (notes.Confirmed host key index) ns o = refl

-- a note more is taken
pub note_taken : (ns : List Note) (i : ℕ) (o : Open) → i < length ns → confirmed (drop i ns) o ≡ confirmed (drop (i + 1) ns) (confirmed (get_or ns i (notes.Leader 0 0) ∷ []) o)
note_taken ns i o h = rw (add-one, drop-cons ns i (notes.Leader 0 0)) (next_note (get_or ns i (notes.Leader 0 0)) (drop (suc i) ns) o)
