-- What a record's reading says.
use Rattle.std.proofs.Common.{◌≡◌, ℕ, List, Result, Ok, Err, IfOk, length, refl}
use Rattle.std.proofs.lemmas.Bool.{eq-eqb}
use Rattle.wire_codec.specs.Reading.{AreBytes, IsLongestFront}
use Rattle.wire_codec.specs.laws.Whole.{whole_back, whole_spells, whole_refused}
use Rattle.log_record.specs.declared.record.Record.{Record}
use Rattle.log_record.specs.declared.fault.RecordFault.{RecordFault}
use Rattle.log_record.specs.Record.{IsRecord, record_at, record_bytes, record_of}
use Rattle.log_record.specs.laws.Records.{record_exact}

module _ (bytes : List ℕ) where
  pub read_back : (r : Record) → IsRecord r → bytes ≡ record_bytes r → record_of bytes ≡ Ok r
  unfolding record_of
  read_back r g s = whole_back record_at IsRecord record_bytes record_exact bytes r g s

  pub is_back : (o : Result Record RecordFault) → IfOk o (λ s. record_of bytes ≡ Ok s) → (r : Record) → IsRecord r → bytes ≡ record_bytes r → IfOk o (λ s. s ≡ r)
  is_back (Ok s) e r g b = let back = read_back r g b in cc
  is_back (Err fault) e r g b = tt

  pub no_record : (at : ℕ) → record_of bytes ≡ Err at → (r : Record) → IsRecord r → bytes ≡ record_bytes r → ⊥
  no_record at o r g s = let back = read_back r g s in cc

  module _ (y : AreBytes bytes) where
    pub spelt : (r : Record) → record_of bytes ≡ Ok r → IsRecord r × (bytes ≡ record_bytes r)
    unfolding record_of
    spelt r o = whole_spells record_at IsRecord record_bytes record_exact bytes y r o

    pub is_spelt : (o : Result Record RecordFault) → IfOk o (λ s. record_of bytes ≡ Ok s) → IfOk o (λ r. IsRecord r × (bytes ≡ record_bytes r))
    is_spelt (Ok s) e = spelt s e
    is_spelt (Err fault) e = tt

    pub longest : (at : ℕ) → record_of bytes ≡ Err at → IsLongestFront IsRecord record_bytes bytes at
    unfolding record_of
    longest at o = whole_refused record_at IsRecord record_bytes record_exact bytes y at o

-- a record that is read to the end
pub to_the_end : (bytes : List ℕ) (r : Record) (next : ℕ) → record_at bytes 0 ≡ Ok (r, next) → next ≡ length bytes → record_of bytes ≡ Ok r
unfolding record_of
to_the_end bytes r next o e = let last = eq-eqb next (length bytes) e in rw (o, last) refl
