use Rattle.std.proofs.Common.{◌≡◌, ◌≤◌, ◌++◌, drop, map, true}
use Rattle.std.specs.List.{list_all}
use Rattle.std.specs.Option.{option_map}
use Rattle.script_text.specs.Script.{ascending, is_host_number}
use Rattle.script_text.proofs.grammar.hosts_of.Given as goal

abbrev pub invariant-loop-text : goal.invariant-loop-text
invariant-loop-text l = record {
  small : l.low ≤ 9;
  fit : list_all is_host_number l.found.items ≡ true;
  rest : option_map (λ hosts. l.found.items ++ hosts) (ascending l.low (drop l.text-index (map (λ x. x.now) l.text-items))) ≡ ascending 0 (map (λ x. x.now) l.text-items);
}
