use Rattle.std.proofs.Common.{◌≡◌, ◌++◌, ◌∷◌, [], List, ℕ, map, rules, ap, sym, ◌∙◌, true, false, nat_eq, subst}
use Rattle.std.proofs.lemmas.List.{map-append, append-nil}
use Rattle.std.proofs.lemmas.Map.Iter.{iter_end}
use Rattle.std.specs.List.{list_any}
use Rattle.std.specs.List.Sorted.{IsStrictlySortedBy}
use Rattle.std.specs.Ordering.{nat_cmp}
use Rattle.std.specs.Map.{keys_of}
use Rattle.std.specs.Map.Iter.{deref_pair}
use Rattle.disk_model.specs.Files.{Files}
use Rattle.disk_model.proofs.Changed.{cond_t, cond_f}
use Rattle.disk_model.proofs.Numbers.{numbers_of, numbers_snoc, sorted_numbers, any_numbers}
use Rattle.disk_model.proofs.files.listed_in.Goals as goal

pub loop-number-preserved-in-Continue-1 : goal.loop-number-preserved-in-Continue-1
loop-number-preserved-in-Continue-1 c =
    let ys : Files = map deref_pair c.loop-number.yielded in
    let k = c.in-Some.number.now in
    let s = c.in-Some.held.now in
    let listed : s.listed ≡ true = search (rules, c.is_listed.ensures, c.if-is_listed.true) in
    c.in_ok-push.ensures.items ∙ ap (λ (xs : List ℕ). xs ++ k ∷ []) c.loop-number.invariant ∙ sym (ap numbers_of (map-append deref_pair c.loop-number.yielded ((c.in-Some.number, c.in-Some.held) ∷ [])) ∙ numbers_snoc ys k s ∙ ap (λ (t : List ℕ). numbers_of ys ++ t) (cond_t _ (k ∷ []) [] listed))

pub loop-number-preserved : goal.loop-number-preserved
loop-number-preserved c =
    let ys : Files = map deref_pair c.loop-number.yielded in
    let k = c.in-Some.number.now in
    let s = c.in-Some.held.now in
    let listed : s.listed ≡ false = search (rules, c.is_listed.ensures, c.if-is_listed.false) in
    c.loop-number.invariant ∙ sym (ap numbers_of (map-append deref_pair c.loop-number.yielded ((c.in-Some.number, c.in-Some.held) ∷ [])) ∙ numbers_snoc ys k s ∙ ap (λ (t : List ℕ). numbers_of ys ++ t) (cond_f _ (k ∷ []) [] listed) ∙ append-nil (numbers_of ys))

pub returns-clause-ascending : goal.returns-clause-ascending
returns-clause-ascending c =
    let whole : map deref_pair c.loop-number.yielded ≡ c.args.files.now.entries = search (rules, iter_end) in
    let sorted : IsStrictlySortedBy nat_cmp (keys_of c.args.files.now.entries) = search (rules, c.into_iter-number-iterator.ensures.into_iter_gives) in
    subst (IsStrictlySortedBy nat_cmp) (sym (c.loop-number.invariant ∙ ap numbers_of whole)) (sorted_numbers c.args.files.now.entries sorted)

pub returns-clause-listed : goal.returns-clause-listed
returns-clause-listed c f =
    let whole : map deref_pair c.loop-number.yielded ≡ c.args.files.now.entries = search (rules, iter_end) in
    let sorted : IsStrictlySortedBy nat_cmp (keys_of c.args.files.now.entries) = search (rules, c.into_iter-number-iterator.ensures.into_iter_gives) in
    ap (λ (xs : List ℕ). list_any (nat_eq f) xs) (c.loop-number.invariant ∙ ap numbers_of whole) ∙ any_numbers f c.args.files.now.entries sorted
