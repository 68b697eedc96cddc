use Rattle.std.proofs.Common.{◌≡◌, ◌+◌, ◌-◌, ◌≤◌, List, true, ◌++◌, ◌∷◌, [], length, take, drop, replicate, vec_capacity, arith, rules, ap, sym, refl, ◌∙◌, subst}
use Rattle.std.specs.List.{list_all}
use Rattle.disk_model.specs.Bytes.{written}
use Rattle.disk_model.specs.Undo.{undo, is_within, Held}
use Rattle.disk_model.specs.declared.contents.Action.TheVariants.{Write}
use Rattle.disk_model.specs.declared.contents.Change.{Change}
use Rattle.disk_model.proofs.Changes.{within_more, within_snoc, kept_by, burnt_by, write_back, write_within}
use Rattle.disk_model.proofs.contents.Contents.write.Goals as goal

abbrev change : goal.After-push_reserved → Change
change c = record { action = Write c.args.at (length c.args.bytes.now); place = c.min-place.result; over = c.in_ok-over.over; before = c.len-before.result }

pushed : (c : goal.After-push_reserved) → c.push_reserved.new.self.items ≡ c.self.inside.changes.items ++ change c ∷ []
pushed c = c.push_reserved.ensures.items ∙ ap (λ (xs : List Change). xs ++ change c ∷ []) c.reserve.ensures.items

over : (c : goal.After-push_reserved) → c.in_ok-over.over.items ≡ take (c.min-end.result - c.min-place.result) (drop c.min-place.result c.self.inside.bytes.items)
over c = search (rules, c.in_ok-over.ensures.items, c.deref.ensures.value)

back : (c : goal.After-push_reserved) → undo (change c) c.put.new.into.items ≡ c.self.inside.bytes.items
back c = write_back c.args.at (length c.args.bytes.now) c.args.bytes.now c.self.inside.bytes.items c.in_ok-over.over.items c.put.new.into.items c.len-before.result c.min-place.result c.min-end.result refl (search (rules, c.len-before.ensures)) (search (rules, c.min-place.ensures)) (search (rules, c.min-end.ensures)) (over c) c.in_ok-put.ensures.items

pub invariant_of-self-in_err-put : goal.invariant_of-self-in_err-put
invariant_of-self-in_err-put c = let same : c.reserve.new.self.items ≡ c.self.inside.changes.items = c.reserve.ensures.items in rw same (within_more (vec_capacity c.self.inside.bytes) (vec_capacity c.put.new.into) c.self.inside.changes.items c.put.ensures.capacity c.self.invariant)

pub invariant_of-self-2 : goal.invariant_of-self-2
invariant_of-self-2 c =
    let room : c.args.at + length c.args.bytes.now ≤ vec_capacity c.put.new.into = c.in_ok-put.ensures.room in
    let here : is_within (vec_capacity c.put.new.into) (change c) ≡ true = write_within c.args.at (length c.args.bytes.now) c.min-place.result c.min-end.result _ c.in_ok-over.over.items c.self.inside.bytes.items (omega (arith, c.min-end.ensures)) (over c) (omega (arith, c.min-place.ensures)) room in
    subst (λ (cs : List Change). list_all (is_within (vec_capacity c.put.new.into)) cs ≡ true) (sym (pushed c)) (within_snoc (vec_capacity c.put.new.into) c.self.inside.changes.items (change c) (within_more (vec_capacity c.self.inside.bytes) (vec_capacity c.put.new.into) c.self.inside.changes.items c.put.ensures.capacity c.self.invariant) here)

pub returns-clause-kept : goal.returns-clause-kept
returns-clause-kept c = kept_by _ _ (change c) _ _ (pushed c) (back c) ∙ ap (λ (h : Held). h.kept) c.self.view_is

pub returns-clause-burnt : goal.returns-clause-burnt
returns-clause-burnt c = burnt_by _ _ (change c) _ _ (pushed c) (back c) ∙ ap (λ (h : Held). written c.args.at (replicate (length c.args.bytes.now) 255) h.burnt) c.self.view_is
