use Rattle.std.proofs.Common.{rules, ◌≡◌, ◌<◌, ◌∙◌, ℕ, List, [], ◌∷◌, ◌++◌, length, sym, ap, subst, arith, take, ◌-◌}
use Rattle.std.specs.Prelude.{slice_set, slice_index_or}
use Rattle.std.proofs.lemmas.List.{length-set, set-get_or, get_or_default}
use Rattle.script_parts.specs.Index.{Indexes, has_key, has_text}
use Rattle.script_parts.proofs.Insert.{indexes_more, set_back_from}
use Rattle.script_parts.proofs.contexts.Contexts.push.Goals as goal

abbrev Lists : Type 0
Lists = List (List (List ℕ))

pub invariant_of-self : goal.invariant_of-self
invariant_of-self c =
    let lists : Lists = c.self.inside.hosts.items in
    let here : c.args.host < length lists = omega (arith, c.self.invariant.0, c.requires) in
    let at : c.index_mut.result.now ≡ slice_index_or lists c.args.host [] = c.index_mut.ensures.value ∙ get_or_default lists c.args.host c.index_mut.result.now [] here in
    let same : c.push.new.self ≡ slice_index_or lists c.args.host [] = c.in_err-push.ensures.err ∙ at in
    let back : slice_set lists c.args.host c.push.new.self ≡ lists = ap (λ (l : List (List ℕ)). slice_set lists c.args.host l) same ∙ set-get_or lists c.args.host [] in
    (ap (λ (l : Lists). length l) back ∙ c.self.invariant.0, λ text. c.self.invariant.1 text ∙ ap (λ (l : Lists). has_text text l) (sym back))

pub invariant_of-self-in-Ok : goal.invariant_of-self-in-Ok
invariant_of-self-in-Ok c =
    let lists : Lists = c.self.inside.hosts.items in
    let text : c.in_ok-key.key ≡ c.args.context = search rules in
    let here : c.args.host < length lists = omega (arith, c.self.invariant.0, c.requires) in
    let at : c.index_mut.result.now ≡ slice_index_or lists c.args.host [] = c.index_mut.ensures.value ∙ get_or_default lists c.args.host c.index_mut.result.now [] here in
    let more : c.push.new.self ≡ slice_index_or lists c.args.host [] ++ c.args.context ∷ [] = c.in_ok-push.ensures.ok ∙ ap (λ (l : List (List ℕ)). l ++ c.args.context ∷ []) at in
    let set : slice_set lists c.args.host c.push.new.self ≡ slice_set lists c.args.host (slice_index_or lists c.args.host [] ++ c.args.context ∷ []) = ap (λ (l : List (List ℕ)). slice_set lists c.args.host l) more in
    let i : Indexes c.insert.new.self.keys (slice_set lists c.args.host (slice_index_or lists c.args.host [] ++ c.args.context ∷ [])) = indexes_more _ _ c.in_ok-key.key lists c.args.host c.args.context here c.self.invariant.1 c.in-Ok.ensures.keys text in
    (length-set lists c.args.host c.push.new.self ∙ c.self.invariant.0, subst (λ (l : Lists). Indexes c.insert.new.self.keys l) (sym set) i)

pub invariant_of-self-in-Err : goal.invariant_of-self-in-Err
invariant_of-self-in-Err c =
    let lists : Lists = c.self.inside.hosts.items in
    let here : c.args.host < length lists = omega (arith, c.self.invariant.0, c.requires) in
    let at : c.index_mut.result.now ≡ slice_index_or lists c.args.host [] = c.index_mut.ensures.value ∙ get_or_default lists c.args.host c.index_mut.result.now [] here in
    let more : c.push.new.self ≡ slice_index_or lists c.args.host [] ++ c.args.context ∷ [] = c.in_ok-push.ensures.ok ∙ ap (λ (l : List (List ℕ)). l ++ c.args.context ∷ []) at in
    let after : Lists = slice_set lists c.args.host c.push.new.self in
    let there : c.args.host < length after = rw length-set here in
    let last : c.index_mut-in-Err.result.now ≡ slice_index_or after c.args.host [] = c.index_mut-in-Err.ensures.value ∙ get_or_default after c.args.host c.index_mut-in-Err.result.now [] there in
    let popped : c.pop.new.self ≡ take (length (slice_index_or after c.args.host []) - 1) (slice_index_or after c.args.host []) = c.pop.ensures ∙ ap (λ (l : List (List ℕ)). take (length l - 1) l) last in
    let back : slice_set after c.args.host c.pop.new.self ≡ lists = ap (λ (l : List (List ℕ)). slice_set after c.args.host l) popped ∙ set_back_from lists c.args.host c.args.context c.push.new.self here more in
    let keys : c.insert.new.self.keys ≡ c.self.inside.used.keys = search rules in
    (ap (λ (l : Lists). length l) back ∙ c.self.invariant.0, λ text. ap (λ (k : List (List ℕ)). has_key text k) keys ∙ c.self.invariant.1 text ∙ ap (λ (l : Lists). has_text text l) (sym back))
