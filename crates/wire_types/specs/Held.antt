-- Envelopes that are held, of which Appends show parts of one list of entries. Source: this project's own.
use Rattle.std.specs.Prelude.{◌≡◌, ◌+◌, ◌≤◌, List, length, take, map, All, ⊤}
use Rattle.host_ids.specs.declared.entry.Entry.{Entry}
use Rattle.host_ids.specs.Held.{part}
use Rattle.wire_types.specs.declared.append.AppendHead.{AppendHead}
use Rattle.wire_types.specs.declared.envelope.Envelope.{Envelope}
use Rattle.wire_types.specs.declared.envelope.Body.TheVariants as bodies
use Rattle.wire_types.specs.declared.slot.Slot.{Slot}
use Rattle.wire_types.specs.declared.slot.Slot.TheVariants.{Whole, Part}

-- the Append of these entries
abbrev pub append_of : AppendHead → List Entry → Envelope
append_of head entries = record { from = head.from; to = head.to; group = head.group; term = head.term; body = bodies.Append head.prev head.prev_term head.commit entries }

-- the envelope of a slot: its own one, or an Append of a part of these entries
abbrev pub shown : List Entry → Slot → Envelope
shown entries (Whole envelope) = envelope
shown entries (Part head first count) = append_of head (part first count entries)

-- the part that a slot shows lies within these entries
abbrev pub IsShown : List Entry → Slot → Type 0
IsShown entries (Whole envelope) = ⊤
IsShown entries (Part head first count) = first + count ≤ length entries

-- the envelopes of slots, in order
abbrev pub all_shown : List Entry → List Slot → List Envelope
all_shown entries slots = map (shown entries) slots

-- the parts that slots show lie within these entries
abbrev pub AreShown : List Entry → List Slot → Type 0
AreShown entries slots = All (IsShown entries) slots

-- two lists are the same as far as both go
abbrev pub Agree : List Entry → List Entry → Type 0
Agree entries others = take (length others) entries ≡ take (length entries) others

-- the later entries are the earlier ones with some or none after them
abbrev pub IsGrown : List Entry → List Entry → Type 0
IsGrown earlier later = take (length earlier) later ≡ earlier
