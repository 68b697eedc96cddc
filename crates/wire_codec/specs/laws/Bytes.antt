-- Lists of bytes.
use Rattle.std.proofs.Common.{ℕ, zero, suc, ◌<◌, List, [], ◌∷◌, get_or, refl}
use Rattle.std.proofs.lemmas.Bool.{lt-ltb, and_from}
use Rattle.wire_codec.specs.Reading.{AreBytes}

pub are_bytes : (bytes : List ℕ) → ((i : ℕ) → get_or bytes i 0 < 256) → AreBytes bytes
are_bytes [] h = refl
are_bytes (b ∷ bytes) h = and_from _ _ (lt-ltb b 256 (h zero)) (are_bytes bytes (λ i. h (suc i)))
