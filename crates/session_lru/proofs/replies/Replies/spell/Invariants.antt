use Rattle.std.proofs.Common.{◌≡◌, ◌++◌, true}
use Rattle.std.specs.List.{flat_map, list_all}
use Rattle.session_lru.specs.Section.{reply_bytes, is_short}
use Rattle.session_lru.proofs.replies.Replies.spell.Given as goal

abbrev pub invariant-loop-series : goal.invariant-loop-series
invariant-loop-series l = (list_all is_short l.series-iterator ≡ true) × (l.out.items ++ flat_map reply_bytes l.series-iterator ≡ l.fn.out.items ++ flat_map reply_bytes l.self)
