-- What an exact reading's refusal says.
use Rattle.std.proofs.Common.{◌≡◌, ℕ, ◌-◌, ◌≤◌, List, Err, length, drop, arith}
use Rattle.wire_codec.specs.Reading.{Reader, AreBytes, Exact, IsLongestFront, NoneStands}

module _ {A : Type 0} (read : Reader A) (Good : A → Type 0) (spell : A → List ℕ) (e : Exact read Good spell) (bytes : List ℕ) (at place : ℕ) (y : AreBytes bytes) (h : at ≤ length bytes) (r : read bytes at ≡ Err place) where
  -- no value stands there
  pub none_stands : NoneStands Good spell (drop at bytes)
  none_stands = λ a rest g s. (let back = e.back a bytes rest at g h s in absurd cc)

  -- the place is that of the longest front
  pub is_longest : IsLongestFront Good spell (drop at bytes) (place - at)
  is_longest = ((e.begins bytes at place y h r).1, λ m f. (let most = e.most bytes at place m y h r f in omega (arith, most)))

  pub goes_on : at ≤ place
  goes_on = (e.begins bytes at place y h r).0
