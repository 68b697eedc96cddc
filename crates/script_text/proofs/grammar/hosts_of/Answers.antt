use Rattle.std.proofs.Common.{rules, tests, arith, ◌∙◌, sym, ◌≡◌, map, refl, ◌<◌, ◌≤◌, length, [], Some, None, get_or}
use Rattle.std.proofs.lemmas.List.{length-map}
use Rattle.script_text.specs.Script.{next_host}
use Rattle.script_text.proofs.Rosters.{next_by, hosts_more, roster_begins, roster_next, roster_ends, roster_done}
use Rattle.script_text.proofs.grammar.hosts_of.Goals as goal

pub loop-text-preserved : goal.loop-text-preserved
loop-text-preserved c =
    let v = c.loop-text.invariant in
    let items = c.deref-text-items.result.now in
    let texts = map (λ x. x.now) items in
    let below : c.loop-text.text-index < length texts = rw length-map c.loop-text-test.true in
    let host : next_host c.loop-text.low (get_or texts c.loop-text.text-index []) ≡ Some c.in-Some.host = next_by (λ x. x.now) items _ _ _ _ refl (sym c.in-Some.is ∙ c.next_host.ensures.host) in
    record {
      small = search (rules, tests);
      fit = rw c.in_ok-push.ensures.items (hosts_more c.loop-text.found.items c.in-Some.host v.fit c.in-Some.ensures.fit);
      rest = rw c.in_ok-push.ensures.items (sym (roster_next c.loop-text.found.items c.loop-text.low c.in-Some.host c.loop-text.text-index texts below host) ∙ v.rest);
    }

pub returns-in_default-clause-hosts : goal.returns-in_default-clause-hosts
returns-in_default-clause-hosts c =
    let v = c.loop-text.invariant in
    let items = c.deref-text-items.result.now in
    let texts = map (λ x. x.now) items in
    let below : c.loop-text.text-index < length texts = rw length-map c.loop-text-test.true in
    let none : next_host c.loop-text.low (get_or texts c.loop-text.text-index []) ≡ None = next_by (λ x. x.now) items _ _ _ _ refl (sym c.in_default.is ∙ c.next_host.ensures.host) in
    rw (← c.in_ok-texts.ensures, ← c.deref-text-items.ensures.value) (sym (roster_ends c.loop-text.found.items c.loop-text.low c.loop-text.text-index texts below none) ∙ v.rest)

pub returns-clause-hosts : goal.returns-clause-hosts
returns-clause-hosts c =
    let v = c.loop-text.invariant in
    let items = c.deref-text-items.result.now in
    let texts = map (λ x. x.now) items in
    let past : length texts ≤ c.loop-text.text-index = rw length-map c.loop-text-test.false in
    rw (← c.in_ok-texts.ensures, ← c.deref-text-items.ensures.value) (sym (roster_done c.loop-text.found.items c.loop-text.low c.loop-text.text-index texts past) ∙ v.rest)

pub loop-text-init : goal.loop-text-init
loop-text-init c =
    record {
      small = omega arith;
      fit = rw c.new-found.ensures.items refl;
      rest = rw c.new-found.ensures.items (roster_begins (map (λ x. x.now) c.deref-text-items.result.now));
    }
