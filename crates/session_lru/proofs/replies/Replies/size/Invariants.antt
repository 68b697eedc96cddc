use Rattle.std.proofs.Common.{◌≡◌, ◌+◌, ◌-◌, ◌^◌, ◌≤◌, length, min}
use Rattle.std.specs.List.{flat_map}
use Rattle.session_lru.specs.Section.{reply_bytes}
use Rattle.session_lru.proofs.replies.Replies.size.Given as goal

abbrev pub invariant-loop-reply : goal.invariant-loop-reply
invariant-loop-reply l = (l.size ≤ 2 ^ 64 - 1) × (min (l.size + length (flat_map reply_bytes l.reply-iterator)) (2 ^ 64 - 1) ≡ min (length (flat_map reply_bytes l.self)) (2 ^ 64 - 1))
