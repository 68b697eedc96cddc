-- What was asked stays asked, and the first asking of a read remembers the length of the decided list.
use Rattle.std.proofs.Common.{◌≡◌, ◌⊎◌, ◌≤◌, arith, inl, inr, ⊎_elim, ℕ, [], ◌∷◌, length, true, false, cond, Bool, Option, Some, None, refl, sym, ap, ◌∙◌, is_some}
use Rattle.std.specs.Ordering.{is_eq, match_ordering}
use Rattle.std.specs.declared.cmp.Ordering.TheVariants.{Less, Equal, Greater}
use Rattle.std.specs.Cmp.{IsTotalOrder, Equal-is}
use Rattle.std.proofs.lemmas.Cmp.{nat_cmp_total, on_total, then_total, tied_itself, alike_right}
use Rattle.std.proofs.lemmas.Bool.{cases_Bool}
use Rattle.std.proofs.lemmas.Option.{none-some, same_Some}
use Rattle.std.specs.BTreeMap.{insert_entry, is_at}
use Rattle.std.specs.Map.{lookup}
use Rattle.host_ids.specs.declared.entry.Key.{Key}
use Rattle.raft_model.specs.declared.event.LaneEvent.{LaneEvent}
use Rattle.raft_model.specs.declared.event.LaneEvent.TheVariants as events
use Rattle.raft_model.specs.declared.input.Input.TheVariants as inputs
use Rattle.raft_model.specs.Group.{Group, key_order, is_asked, noted_ask, inputs_at, act}
use Rattle.raft_safety.specs.Rounds.{Asks, IsAsked}
use Rattle.raft_safety.proofs.Laws.Cases.{at_up_cases, noted_ask_cases, act_leaves}

-- what is remembered of the first asking of a read: the length that the decided list had then
abbrev pub first_asked : Key → Asks → Option ℕ
first_asked key asks = lookup (is_at (key_order key)) asks

-- the first askings of one table are those of another one, which may have more
abbrev pub StayAsked : Asks → Asks → Type 0
StayAsked asks more = (key : Key) (m : ℕ) → first_asked key asks ≡ Some m → first_asked key more ≡ Some m

-- keys are in a total order
key_total : IsTotalOrder key_order
key_total = then_total (on_total (λ (k : Key). k.host) nat_cmp_total) (then_total (on_total (λ (k : Key). k.start) nat_cmp_total) (on_total (λ (k : Key). k.serial) nat_cmp_total))

-- keys that tie have the same first asking
tied : (a b : Key) (asks : Asks) → is_eq (key_order a b) ≡ true → first_asked a asks ≡ first_asked b asks
tied a b asks e = ap (λ (test : Key → Bool). lookup test asks) (λ i k. is_eq (key_total.congr a b k ((Equal-is (key_order a b)).0 e) i))

module _ (new : Key) (n : ℕ) where
  -- the table with the new key
  abbrev with_new : Asks → Asks
  with_new asks = insert_entry key_order asks new n

  -- an insertion puts a key before the first entry or into it, or goes on after it
  insert_cases : (P : Asks → Type 0) (e : Key × ℕ) (asks : Asks)
      → (key_order new e.0 ≡ Less → P ((new, n) ∷ e ∷ asks)) → (key_order new e.0 ≡ Equal → P ((e.0, n) ∷ asks)) → (key_order new e.0 ≡ Greater → P (e ∷ with_new asks)) → P (with_new (e ∷ asks))
  insert_cases P e asks before into after =
      elim (key_order new e.0) as (λ o. key_order new e.0 ≡ o → P (match_ordering o ((new, n) ∷ e ∷ asks) ((e.0, n) ∷ asks) (e ∷ with_new asks)))
      [ Less ↦ before | Equal ↦ into | Greater ↦ after ] refl

  -- the new key is found with its number
  found_new : (asks : Asks) → first_asked new (with_new asks) ≡ Some n
  found_new [] = rw (tied_itself key_total new) refl
  found_new (e ∷ asks) = insert_cases (λ es. first_asked new es ≡ Some n) e asks (λ _. rw (tied_itself key_total new) refl) (λ q. rw q refl) (λ q. rw q (found_new asks))

  -- under a key that doesn't tie with the new one the same is found as before
  found_other : (k : Key) → is_eq (key_order k new) ≡ false → (asks : Asks) → first_asked k (with_new asks) ≡ first_asked k asks
  found_other k other [] = rw other refl
  found_other k other (e ∷ asks) = insert_cases (λ es. first_asked k es ≡ first_asked k (e ∷ asks)) e asks
      (λ _. rw other refl)
      (λ q. let apart : is_eq (key_order k e.0) ≡ false = ap is_eq (sym (alike_right key_total new e.0 k q)) ∙ other in rw apart refl)
      (λ _. ap (cond (is_eq (key_order k e.0)) (Some e.1)) (found_other k other asks))

  module _ (asks : Asks) (none : first_asked new asks ≡ None) where
    -- all first askings before are first askings after
    found_still : StayAsked asks (with_new asks)
    found_still k m found = ⊎_elim
        (λ e. absurd (none-some m (sym none ∙ sym (tied k new asks e) ∙ found)))
        (λ o. found_other k o asks ∙ found)
        (cases_Bool (is_eq (key_order k new)))

    -- a first asking after was one before, or has the new number
    found_was : (k : Key) (m : ℕ) → first_asked k (with_new asks) ≡ Some m → (m ≡ n) ⊎ (first_asked k asks ≡ Some m)
    found_was k m found = ⊎_elim
        (λ e. inl (same_Some m n (sym found ∙ tied k new (with_new asks) e ∙ found_new asks)))
        (λ o. inr (sym (found_other k o asks) ∙ found))
        (cases_Bool (is_eq (key_order k new)))

-- a read that wasn't asked has no first asking
pub none_asked : (g : Group) (key : Key) → is_asked g key ≡ false → first_asked key g.asks ≡ None
none_asked g key = of_test (first_asked key g.asks)
  where
    of_test : (x : Option ℕ) → is_some x ≡ false → x ≡ None
    of_test None e = refl
    of_test (Some y) e = absurd (cc)

-- a read that is noted as asked has a first asking
pub noted_asked : (g : Group) (key : Key) → IsAsked (noted_ask g key).asks key
noted_asked g key = noted_ask_cases g key (λ n. IsAsked n.asks key) (of_test (first_asked key g.asks) refl) (λ _. record { first = length g.decided; asked = found_new key (length g.decided) g.asks })
  where
    of_test : (x : Option ℕ) → first_asked key g.asks ≡ x → is_some x ≡ true → IsAsked g.asks key
    of_test None is e = absurd (cc)
    of_test (Some m) is e = record { first = m; asked = is }

-- what was asked stays asked where a new read is noted
pub asked_still : (g : Group) (key : Key) → is_asked g key ≡ false → StayAsked g.asks (insert_entry key_order g.asks key (length g.decided))
asked_still g key new = found_still key (length g.decided) g.asks (none_asked g key new)

-- where a new read is noted, no first asking remembers more than the length of the decided list, if none did before
pub asked_bounded : (g : Group) (key : Key) → is_asked g key ≡ false → ((k : Key) (m : ℕ) → first_asked k g.asks ≡ Some m → m ≤ length g.decided)
    → (k : Key) (m : ℕ) → first_asked k (insert_entry key_order g.asks key (length g.decided)) ≡ Some m → m ≤ length g.decided
asked_bounded g key new before k m found = ⊎_elim (λ e. omega (arith, e)) (before k m) (found_was key (length g.decided) g.asks (none_asked g key new) k m found)

-- what was asked stays asked after any event
pub act_still : (e : LaneEvent) (g : Group) → StayAsked g.asks (act e g).group.asks
act_still e g = act_leaves g (λ n. StayAsked g.asks n.asks) (λ up k m f. f) (λ up saves v q sent k m f. f) (λ key v q sent new. asked_still g key new) e

-- where a read that wasn't asked before is asked of a host, and isn't refused, the length of the decided list is remembered
pub asked_first : (g : Group) (v : ℕ) (key : Key) → (act (events.Ask v key) g).refused ≡ None → is_asked g key ≡ false
    → first_asked key (act (events.Ask v key) g).group.asks ≡ Some (length g.decided)
unfolding act
asked_first g v key taken new =
    at_up_cases g v (λ a. a.refused ≡ None → first_asked key a.group.asks ≡ Some (length g.decided)) (λ f t. absurd (cc)) (inputs_at (noted_ask g key) v (inputs.Ask key))
    (λ _ _ t. noted_ask_cases g key (λ n. first_asked key n.asks ≡ Some (length g.decided)) (λ e. absurd (cc)) (λ _. found_new key (length g.decided) g.asks)) taken
