-- How the changes of a file since its last sync are undone, and done again with 255 for the written bytes.
use Rattle.std.specs.Prelude.{ℕ, ◌+◌, List, [], ◌∷◌, Bool, ◌&&◌, length, take, replicate, nat_le}
use Rattle.disk_model.specs.Bytes.{written, cut_to}
use Rattle.disk_model.specs.declared.contents.Action.{Action}
use Rattle.disk_model.specs.declared.contents.Action.TheVariants.{Write, Cut}
use Rattle.disk_model.specs.declared.contents.Change.{Change}

abbrev pub undo : Change → List ℕ → List ℕ
undo c bytes = take c.before (written c.place c.over.items bytes)

-- the last change is undone first
abbrev pub undone : List Change → List ℕ → List ℕ
undone [] bytes = bytes
undone (c ∷ cs) bytes = undo c (undone cs bytes)

abbrev pub burn : Action → List ℕ → List ℕ
burn (Write at count) bytes = written at (replicate count 255) bytes
burn (Cut size) bytes = cut_to size bytes

abbrev pub burned : List Change → List ℕ → List ℕ
burned [] bytes = bytes
burned (c ∷ cs) bytes = burned cs (burn c.action bytes)

-- how far an action reaches
abbrev pub reach : Action → ℕ
reach (Write at count) = at + count
reach (Cut size) = size

-- the change can be undone and done again within that many bytes
abbrev pub is_within : ℕ → Change → Bool
is_within room c = nat_le (c.place + length c.over.items) room && nat_le (reach c.action) room

-- what stands in a file, what its last sync left, and what stands there with 255 for each byte written since
pub record Held : Type 0 where
  pub now : List ℕ
  pub kept : List ℕ
  pub burnt : List ℕ

abbrev pub held : List Change → List ℕ → Held
held changes bytes = record { now = bytes; kept = undone changes bytes; burnt = burned changes (undone changes bytes) }

-- the same bytes in each sense
abbrev pub settled : List ℕ → Held
settled bytes = record { now = bytes; kept = bytes; burnt = bytes }
