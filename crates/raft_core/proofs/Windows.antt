-- What is sent at once: all that is left, or its first entries.
use Rattle.std.proofs.Common.{◌≡◌, ℕ, List, length, take, min}
use Rattle.std.proofs.lemmas.List.{take_min}
use Rattle.host_ids.specs.declared.entry.Entry.{Entry}

pub first_ones : (most : ℕ) (es : List Entry) → take (min most (length es)) es ≡ take most es
first_ones most es = take_min most es
