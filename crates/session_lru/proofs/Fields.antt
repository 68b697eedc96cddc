-- A field that is there or cut short, and numbers in bytes.
use Rattle.std.proofs.Common.{◌≡◌, ℕ, ◌<◌, ◌≤◌, List, [], ◌∷◌, ◌++◌, Bool, true, false, Option, Some, None, Result, Ok, Err, length, take, drop, refl, sym, ap, ◌∙◌, subst, arith}
use Rattle.std.specs.Prelude.{nat_le, if◌then◌else◌}
use Rattle.std.specs.Int.{from_be_bytes, w16, w32, w64}
use Rattle.std.proofs.Math.Seq.{drop-append_seam}
use Rattle.std.proofs.lemmas.Bool.{le-leb, lt-leb, leb-true}
use Rattle.byteorder.specs.Endian.{big_number}
use Rattle.session_lru.specs.Section.{part_of, field}

-- ---- parts

pub part_there : (n : ℕ) (bytes : List ℕ) → n ≤ length bytes → part_of n bytes ≡ Some (take n bytes, drop n bytes)
part_there n bytes h = rw (le-leb n (length bytes) h) refl

pub part_cut : (n : ℕ) (bytes : List ℕ) → length bytes < n → part_of n bytes ≡ None
part_cut n bytes h = rw (lt-leb n (length bytes) h) refl

take_front : (a rest : List ℕ) → take (length a) (a ++ rest) ≡ a
take_front [] rest = refl
take_front (x ∷ a) rest = ap (λ (l : List ℕ). x ∷ l) (take_front a rest)

length_front : (a rest : List ℕ) → length a ≤ length (a ++ rest)
length_front [] rest = omega arith
length_front (x ∷ a) rest = omega (arith, length_front a rest)

pub part_front : (n : ℕ) (a rest : List ℕ) → length a ≡ n → part_of n (a ++ rest) ≡ Some (a, rest)
part_front n a rest e =
    subst (λ (k : ℕ). part_of k (a ++ rest) ≡ Some (a, rest)) e
    (part_there (length a) (a ++ rest) (length_front a rest) ∙ rw (take_front a rest, drop-append_seam a rest) refl)

-- ---- fields

module _ {A : Type 0} (at n : ℕ) (test : List ℕ → Bool) (next : List ℕ → List ℕ → Result A ℕ) where
  -- what a field gives that is there, by what its test says
  abbrev chosen : List ℕ × List ℕ → Bool → Result A ℕ
  chosen p b = if b then next p.0 p.1 else Err at

  tested : (p : List ℕ × List ℕ) (b : Bool) → test p.0 ≡ b → field at (Some p) test next ≡ chosen p b
  tested p true e = rw e refl
  tested p false e = rw e refl

  pub field_there : (bytes : List ℕ) → n ≤ length bytes → test (take n bytes) ≡ true → field at (part_of n bytes) test next ≡ next (take n bytes) (drop n bytes)
  field_there bytes h e = rw (part_there n bytes h) (tested (take n bytes, drop n bytes) true e)

  pub field_refused : (bytes : List ℕ) → n ≤ length bytes → test (take n bytes) ≡ false → field at (part_of n bytes) test next ≡ Err at
  field_refused bytes h e = rw (part_there n bytes h) (tested (take n bytes, drop n bytes) false e)

  pub field_cut : (bytes : List ℕ) → length bytes < n → field at (part_of n bytes) test next ≡ Err at
  field_cut bytes h = rw (part_cut n bytes h) refl

  pub field_front : (a rest : List ℕ) → length a ≡ n → test a ≡ true → field at (part_of n (a ++ rest)) test next ≡ next a rest
  field_front a rest l e = rw (part_front n a rest l) (tested (a, rest) true e)

  -- what a field's reading gives says
  pub record Field (bytes : List ℕ) (x : A) : Type 0 where
    pub there : n ≤ length bytes
    pub passes : test (take n bytes) ≡ true
    pub goes : next (take n bytes) (drop n bytes) ≡ Ok x

  passed : (bytes : List ℕ) (x : A) (b : Bool) → n ≤ length bytes → test (take n bytes) ≡ b → chosen (take n bytes, drop n bytes) b ≡ Ok x → Field bytes x
  passed bytes x true h e o = record { there = h; passes = e; goes = o }
  passed bytes x false h e o = absurd cc

  by_length : (bytes : List ℕ) (x : A) (b : Bool) → nat_le n (length bytes) ≡ b → field at (part_of n bytes) test next ≡ Ok x → Field bytes x
  by_length bytes x true l o =
      let h = leb-true n (length bytes) l in
      passed bytes x (test (take n bytes)) h refl (sym (tested (take n bytes, drop n bytes) (test (take n bytes)) refl) ∙ sym (ap (λ (p : Option (List ℕ × List ℕ)). field at p test next) (part_there n bytes h)) ∙ o)
  by_length bytes x false l o = absurd (let e : part_of n bytes ≡ None = rw l refl in let r : field at (part_of n bytes) test next ≡ Err at = rw e refl in cc)

  pub field_ok : (bytes : List ℕ) (x : A) → field at (part_of n bytes) test next ≡ Ok x → Field bytes x
  field_ok bytes x o = by_length bytes x (nat_le n (length bytes)) refl o

-- ---- numbers

pub number_2 : (bytes : List ℕ) → from_be_bytes w16 bytes ≡ big_number 2 bytes
number_2 bytes = omega arith

pub number_4 : (bytes : List ℕ) → from_be_bytes w32 bytes ≡ big_number 4 bytes
number_4 bytes = omega arith

pub number_8 : (bytes : List ℕ) → from_be_bytes w64 bytes ≡ big_number 8 bytes
number_8 bytes = omega arith
