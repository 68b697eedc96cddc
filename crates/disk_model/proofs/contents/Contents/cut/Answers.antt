use Rattle.std.proofs.Common.{length-drop, ◌≡◌, ◌-◌, ◌≤◌, List, true, ◌++◌, ◌∷◌, [], length, take, drop, vec_capacity, arith, rules, ap, sym, ◌∙◌, subst}
use Rattle.std.specs.List.{list_all}
use Rattle.disk_model.specs.Bytes.{cut_to}
use Rattle.disk_model.specs.Undo.{undo, is_within, Held}
use Rattle.disk_model.specs.declared.contents.Action.TheVariants.{Cut}
use Rattle.disk_model.specs.declared.contents.Change.{Change}
use Rattle.std.proofs.lemmas.List.{take_all}
use Rattle.disk_model.proofs.Changes.{within_more, within_snoc, kept_by, burnt_by, cut_back, cut_within}
use Rattle.disk_model.proofs.contents.Contents.cut.Goals as goal

abbrev change : goal.After-push_reserved → Change
change c = record { action = Cut c.args.size; place = c.min-place.result; over = c.in_ok-over.over; before = c.len-before.result }

pushed : (c : goal.After-push_reserved) → c.push_reserved.new.self.items ≡ c.self.inside.changes.items ++ change c ∷ []
pushed c = c.push_reserved.ensures.items ∙ ap (λ (xs : List Change). xs ++ change c ∷ []) c.reserve.ensures.items

over : (c : goal.After-push_reserved) → c.in_ok-over.over.items ≡ drop c.min-place.result c.self.inside.bytes.items
over c = let is : c.in_ok-over.over.items ≡ take (length c.self.inside.bytes.items - c.min-place.result) (drop c.min-place.result c.self.inside.bytes.items) = search (rules, c.in_ok-over.ensures.items, c.deref.ensures.value) in is ∙ take_all _ _ (omega (arith, length-drop c.min-place.result c.self.inside.bytes.items))

back : (c : goal.After-push_reserved) → undo (change c) c.resize.new.self.items ≡ c.self.inside.bytes.items
back c = cut_back c.args.size c.self.inside.bytes.items c.in_ok-over.over.items c.resize.new.self.items c.len-before.result c.min-place.result (search (rules, c.len-before.ensures)) (search (rules, c.min-place.ensures)) (over c) (search (rules, c.in_ok-resize.ensures.items))

pub invariant_of-self-in_err-resize : goal.invariant_of-self-in_err-resize
invariant_of-self-in_err-resize c = let same : c.reserve.new.self.items ≡ c.self.inside.changes.items = c.reserve.ensures.items in rw same (within_more (vec_capacity c.self.inside.bytes) (vec_capacity c.resize.new.self) c.self.inside.changes.items c.resize.ensures.capacity c.self.invariant)

pub invariant_of-self-2 : goal.invariant_of-self-2
invariant_of-self-2 c =
    let had : length c.self.inside.bytes.items ≤ vec_capacity c.resize.new.self = omega (arith, c.self.inside.bytes.ok, c.resize.ensures.capacity) in
    let place : c.min-place.result ≤ length c.self.inside.bytes.items = omega (arith, c.min-place.ensures, c.len-before.ensures) in
    let room : c.args.size ≤ vec_capacity c.resize.new.self = omega (arith, c.resize.new.self.ok, c.in_ok-resize.ensures.len) in
    let here : is_within (vec_capacity c.resize.new.self) (change c) ≡ true = cut_within c.args.size c.min-place.result (vec_capacity c.resize.new.self) c.in_ok-over.over.items c.self.inside.bytes.items (over c) place had room in
    subst (λ (cs : List Change). list_all (is_within (vec_capacity c.resize.new.self)) cs ≡ true) (sym (pushed c)) (within_snoc (vec_capacity c.resize.new.self) c.self.inside.changes.items (change c) (within_more (vec_capacity c.self.inside.bytes) (vec_capacity c.resize.new.self) c.self.inside.changes.items c.resize.ensures.capacity c.self.invariant) here)

pub returns-clause-kept : goal.returns-clause-kept
returns-clause-kept c = kept_by _ _ (change c) _ _ (pushed c) (back c) ∙ ap (λ (h : Held). h.kept) c.self.view_is

pub returns-clause-burnt : goal.returns-clause-burnt
returns-clause-burnt c = burnt_by _ _ (change c) _ _ (pushed c) (back c) ∙ ap (λ (h : Held). cut_to c.args.size h.burnt) c.self.view_is
