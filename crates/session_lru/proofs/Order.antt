-- The order in which clients stand: none comes twice, and there are at most as many as the limit.
use Rattle.std.proofs.Common.{◌≡◌, ℕ, ◌==◌, ◌+◌, ◌-◌, ◌≤◌, List, [], ◌∷◌, ◌++◌, Bool, true, false, cond, length, take, drop, reverse, refl, sym, ap, ◌∙◌, length-append, length-drop, arith}
use Rattle.std.specs.Prelude.{◌||◌, not, nat_le}
use Rattle.std.proofs.lemmas.Bool.{cond_both, leb-true, leb-false}
use Rattle.std.proofs.lemmas.List.{reverse-append, length-reverse, take-append-drop, take_all}
use Rattle.std.proofs.lemmas.Bool.Decides.{nat_tests}
use Rattle.host_ids.specs.declared.proposal.Proposal.{Proposal}
use Rattle.host_ids.specs.declared.proposal.Proposal.TheVariants as proposals
use Rattle.object_model.specs.Sequence.{has, without, with_room, touched, standing}
use Rattle.session_lru.proofs.Lookups.{Apart, or_left, or_right, has_last, has_reverse, has_without, has_without_other, reverse_cons}

-- ---- none comes twice

turn : (a b : ℕ) → (a == b) ≡ false → (b == a) ≡ false
turn a b e = grind (arith, nat_tests)

other_at_end : (c other : ℕ) (cs : List ℕ) → has c cs ≡ false → has other (c ∷ cs) ≡ false → has c (cs ++ other ∷ []) ≡ false
other_at_end c other cs e f = has_last c other cs e (turn c other (or_left (c == other) (has other cs) f))

apart_last : (other : ℕ) (cs : List ℕ) → Apart cs → has other cs ≡ false → Apart (cs ++ other ∷ [])
apart_last other [] a e = (refl, tt)
apart_last other (c ∷ cs) a e = (other_at_end c other cs a.0 e, apart_last other cs a.1 (or_right (c == other) (has other cs) e))

apart_drop : (cs : List ℕ) → Apart cs → Apart (drop 1 cs)
apart_drop [] a = tt
apart_drop (c ∷ cs) a = a.1

apart_without : (client : ℕ) (cs : List ℕ) → Apart cs → Apart (without client cs)
apart_without client [] a = tt
apart_without client (c ∷ cs) a =
    elim (not (c == client)) as (λ b. Apart (cond b (c ∷ without client cs) (without client cs)))
    [ true ↦ (has_without_other c client cs a.0, apart_without client cs a.1) | false ↦ apart_without client cs a.1 ]

pub apart_reverse : (cs : List ℕ) → Apart cs → Apart (reverse cs)
apart_reverse [] a = tt
apart_reverse (c ∷ cs) a = rw (reverse_cons c cs) (apart_last c (reverse cs) (apart_reverse cs a.1) (has_reverse c cs ∙ a.0))

-- ---- how many there are

length_without : (client : ℕ) (cs : List ℕ) → length (without client cs) ≤ length cs
length_without client [] = omega arith
length_without client (c ∷ cs) =
    elim (not (c == client)) as (λ b. length (cond b (c ∷ without client cs) (without client cs)) ≤ length (c ∷ cs))
    [ true ↦ omega (arith, length_without client cs) | false ↦ omega (arith, length_without client cs) ]

shorter_without : (client : ℕ) (cs : List ℕ) → has client cs ≡ true → length (without client cs) + 1 ≤ length cs
shorter_without client [] e = absurd cc
shorter_without client (c ∷ cs) e =
    elim (c == client) as (λ b. (b || has client cs) ≡ true → length (cond (not b) (c ∷ without client cs) (without client cs)) + 1 ≤ length (c ∷ cs))
    [ true ↦ λ e. omega (arith, length_without client cs) | false ↦ λ e. omega (arith, shorter_without client cs e) ] e

-- ---- after a proposal

-- clients that stand in an order: none twice, and at most `limit`
pub record Orderly (limit : ℕ) (cs : List ℕ) : Type 0 where
  pub apart : Apart cs
  pub within : length cs ≤ limit

after_command : (limit client : ℕ) (cs : List ℕ) (b : Bool) → has client cs ≡ b → Orderly limit cs → Orderly limit (cond b (without client cs ++ client ∷ []) cs)
after_command limit client cs false q o = o
after_command limit client cs true q o = record {
  apart = apart_last client (without client cs) (apart_without client cs o.apart) (has_without client cs);
  within = rw (length-append (without client cs) (client ∷ [])) (omega (arith, shorter_without client cs q, o.within));
}

apart_room : (limit : ℕ) (cs : List ℕ) → Apart cs → Apart (with_room limit cs)
apart_room limit cs a = cond_both (nat_le limit (length cs)) (drop 1 cs) cs (λ (l : List ℕ). Apart l) (λ _. apart_drop cs a) (λ _. a)

has_drop : (client : ℕ) (cs : List ℕ) → has client cs ≡ false → has client (drop 1 cs) ≡ false
has_drop client [] e = refl
has_drop client (c ∷ cs) e = or_right (c == client) (has client cs) e

has_room : (limit client : ℕ) (cs : List ℕ) → has client cs ≡ false → has client (with_room limit cs) ≡ false
has_room limit client cs e = cond_both (nat_le limit (length cs)) (drop 1 cs) cs (λ (l : List ℕ). has client l ≡ false) (λ _. has_drop client cs e) (λ _. e)

length_room : (limit : ℕ) (cs : List ℕ) → 1 ≤ limit → length cs ≤ limit → length (with_room limit cs) + 1 ≤ limit
length_room limit cs one h = cond_both (nat_le limit (length cs)) (drop 1 cs) cs (λ (l : List ℕ). length l + 1 ≤ limit)
    (λ q. rw (length-drop 1 cs) (omega (arith, one, h))) (λ q. omega (arith, leb-false limit (length cs) q))

after_register : (limit client : ℕ) (cs : List ℕ) (b : Bool) → has client cs ≡ b → 1 ≤ limit → Orderly limit cs → Orderly limit (cond b cs (with_room limit cs ++ client ∷ []))
after_register limit client cs true q one o = o
after_register limit client cs false q one o = record {
  apart = apart_last client (with_room limit cs) (apart_room limit cs o.apart) (has_room limit client cs q);
  within = rw (length-append (with_room limit cs) (client ∷ [])) (omega (arith, length_room limit cs one o.within));
}

after_close : (limit client : ℕ) (cs : List ℕ) → Orderly limit cs → Orderly limit (without client cs)
after_close limit client cs o = record { apart = apart_without client cs o.apart; within = omega (arith, length_without client cs, o.within) }

after_one : (limit : ℕ) (p : Proposal) (cs : List ℕ) → 1 ≤ limit → Orderly limit cs → Orderly limit (touched limit p cs)
after_one limit proposals.Blank cs one o = o
after_one limit (proposals.Plain command) cs one o = o
after_one limit (proposals.Session client series responded command) cs one o = after_command limit client cs (has client cs) refl o
after_one limit (proposals.Register client) cs one o = after_register limit client cs (has client cs) refl one o
after_one limit (proposals.Close client) cs one o = after_close limit client cs o

pub orderly : (limit : ℕ) (h : List Proposal) → 1 ≤ limit → Orderly limit (standing limit h)
unfolding standing
orderly limit [] one = record { apart = tt; within = omega (arith, one) }
orderly limit (p ∷ h) one = after_one limit p (standing limit h) one (orderly limit h one)

-- ---- room, from the back

beyond_one : (a b : List ℕ) → length a ≡ 1 → drop 1 (a ++ b) ≡ b
beyond_one [] b e = absurd (omega (arith, e))
beyond_one (x ∷ []) b e = refl
beyond_one (x ∷ y ∷ a) b e = absurd (omega (arith, e))

-- the first of a list from the back is its last one
drop_last : (n : ℕ) (cs : List ℕ) → length cs ≡ n + 1 → drop 1 (reverse cs) ≡ reverse (take n cs)
drop_last n cs h =
    let one : length (drop n cs) ≡ 1 = rw (length-drop n cs, h) (omega arith) in
    let whole : reverse cs ≡ reverse (drop n cs) ++ reverse (take n cs) = ap reverse (sym (take-append-drop n cs)) ∙ reverse-append (take n cs) (drop n cs) in
    rw whole (beyond_one (reverse (drop n cs)) (reverse (take n cs)) (length-reverse (drop n cs) ∙ one))

-- room for one more, in the order of the last touch and from the back
pub room : (limit : ℕ) (cs : List ℕ) → 1 ≤ limit → length cs ≤ limit → with_room limit (reverse cs) ≡ reverse (take (limit - 1) cs)
room limit cs one h = cond_both (nat_le limit (length (reverse cs))) (drop 1 (reverse cs)) (reverse cs) (λ (l : List ℕ). l ≡ reverse (take (limit - 1) cs))
    (λ q. (let r : length cs ≡ limit - 1 + 1 = (let long = leb-true limit (length (reverse cs)) q in let same = length-reverse cs in omega (arith, one, h, long, same)) in drop_last (limit - 1) cs r))
    (λ q. (let short = leb-false limit (length (reverse cs)) q in let same = length-reverse cs in let all : length cs ≤ limit - 1 = omega (arith, one, h, short, same) in ap reverse (sym (take_all (limit - 1) cs all))))
