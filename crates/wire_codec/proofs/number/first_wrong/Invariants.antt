use Rattle.std.proofs.Common.{◌≡◌, ◌+◌, ◌≤◌, ◌*◌, ◌^◌, length, drop}
use Rattle.wire_codec.specs.Reading.{digits, number, place_of}
use Rattle.wire_codec.proofs.number.first_wrong.Given as goal

abbrev pub invariant-loop-left : goal.invariant-loop-left
invariant-loop-left l =
    (l.next ≤ length l.bytes) × (l.left ≤ l.size) × (l.left + l.next ≡ l.size + l.at) × (l.read * 256 ^ l.left ≤ l.most)
    × (place_of (digits l.left l.least l.most l.read (drop l.next l.bytes) l.next) ≡ place_of (number l.size l.least l.most l.bytes l.at))

abbrev pub decreases-loop-left : goal.decreases-loop-left
decreases-loop-left l = l.left
