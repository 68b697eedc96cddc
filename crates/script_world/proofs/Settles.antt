-- The steps of a settle, one by one.
use Rattle.std.proofs.Common.{◌≡◌, ℕ, zero, suc, ◌+◌, ◌-◌, ◌<◌, ◌≤◌, List, [], ◌∷◌, ◌++◌, true, false, Option, None, Some, length, get_or, drop, refl, sym, ap, ◌∙◌, append_assoc, append-nil, arith, add-one}
use Rattle.std.proofs.Math.Seq.{drop-cons}
use Rattle.script_text.specs.declared.limit.Limit.{Limit}
use Rattle.script_text.specs.declared.told.Told.{Told}
use Rattle.run_model.specs.World.{World}
use Rattle.script_world.specs.Took.{Turned}
use Rattle.run_model.specs.Run.{Turn, settle, round, is_busy, whole, quiet, told_first, save_each, save_tried, deliver_each, deliver_next, apply_each, apply_tried, reached}

-- ---- what is left of a turn

-- the rest of a turn, where these lines are told now, and those were when it began
pub record Remains (rest total : Turn) (now first : List Told) : Type 0 where
  pub world : rest.world ≡ total.world
  pub told : now ++ rest.told ≡ first ++ total.told
  pub full : rest.full ≡ total.full

-- nothing is left to do
pub nothing_left : (rest total : Turn) (w : World) (now first : List Told) → Remains rest total now first → rest ≡ whole (quiet w) → Turned total w first now None
nothing_left rest total w now first r e = record {
  world = sym (ap (λ (t : Turn). t.world) e) ∙ r.world;
  told = sym (append-nil now) ∙ sym (ap (λ (t : Turn). now ++ t.told) e) ∙ r.told;
  full = sym (ap (λ (t : Turn). t.full) e) ∙ r.full;
}

-- what comes next is all that is left
pub last_done : (rest total step : Turn) (w : World) (now later first : List Told) (limit : Option Limit) → Remains rest total now first → rest ≡ step → Turned step w now later limit → Turned total w first later limit
last_done rest total step w now later first limit r e t = record {
  world = t.world ∙ sym (ap (λ (t : Turn). t.world) e) ∙ r.world;
  told = t.told ∙ sym (ap (λ (t : Turn). now ++ t.told) e) ∙ r.told;
  full = t.full ∙ sym (ap (λ (t : Turn). t.full) e) ∙ r.full;
}

-- what comes next is done, and then the rest is left
pub next_done : (rest total : Turn) (next : World → Turn) (told : List Told) (v w : World) (now later first : List Told) → Remains rest total now first → rest ≡ told_first told (next v) → w ≡ v → later ≡ now ++ told → Remains (next w) total later first
next_done rest total next told v w now later first r e a b = record {
  world = rw a (sym (ap (λ (t : Turn). t.world) e) ∙ r.world);
  told = rw (a, b, append_assoc) (sym (ap (λ (t : Turn). now ++ t.told) e) ∙ r.told);
  full = rw a (sym (ap (λ (t : Turn). t.full) e) ∙ r.full);
}

-- ---- rounds

-- no rounds are left
pub settle_none : (n size : ℕ) (w : World) → n ≤ 0 → settle n size w ≡ whole (quiet w)
unfolding settle
settle_none zero size w h = refl
settle_none (suc n) size w h = absurd (omega (arith, h))

-- there is nothing to do
pub settle_idle : (n size : ℕ) (w : World) → is_busy w ≡ false → settle n size w ≡ whole (quiet w)
unfolding settle
settle_idle zero size w e = refl
settle_idle (suc n) size w e = rw e refl

-- a round is done, and one fewer is left
pub settle_round : (n size : ℕ) (w : World) → 0 < n → is_busy w ≡ true → (round size w).full ≡ None → settle n size w ≡ told_first (round size w).told (settle (n - 1) size (round size w).world)
unfolding settle
settle_round zero size w h e f = absurd (omega (arith, h))
settle_round (suc n) size w h e f = let k : suc n - 1 ≡ n = omega arith in rw (e, f, k) refl

-- a limit is reached in a round
pub settle_full : (n size : ℕ) (w : World) (limit : Limit) → 0 < n → is_busy w ≡ true → (round size w).full ≡ Some limit → settle n size w ≡ round size w
unfolding settle
settle_full zero size w limit h e f = absurd (omega (arith, h))
settle_full (suc n) size w limit h e f = rw (e, f) refl

-- ---- saves at hosts, one after another

pub saves_none : (hosts : List ℕ) (i size : ℕ) (w : World) → length hosts ≤ i → save_each (drop i hosts) size w ≡ whole (quiet w)
unfolding save_each
saves_none [] zero size w h = refl
saves_none [] (suc i) size w h = refl
saves_none (x ∷ xs) zero size w h = absurd (omega (arith, h))
saves_none (x ∷ xs) (suc i) size w h = saves_none xs i size w (omega (arith, h))

pub saves_next : (hosts : List ℕ) (i size : ℕ) (w : World) → i < length hosts → (save_tried (get_or hosts i 0) size w).full ≡ None
    → save_each (drop i hosts) size w ≡ told_first (save_tried (get_or hosts i 0) size w).told (save_each (drop (i + 1) hosts) size (save_tried (get_or hosts i 0) size w).world)
unfolding save_each
saves_next hosts i size w h f = rw (add-one, drop-cons hosts i 0, f) refl

pub saves_full : (hosts : List ℕ) (i size : ℕ) (w : World) (limit : Limit) → i < length hosts → (save_tried (get_or hosts i 0) size w).full ≡ Some limit → save_each (drop i hosts) size w ≡ save_tried (get_or hosts i 0) size w
unfolding save_each
saves_full hosts i size w limit h f = rw (drop-cons hosts i 0, f) refl

-- ---- applies at hosts, one after another

pub applies_none : (hosts : List ℕ) (i size : ℕ) (w : World) → length hosts ≤ i → apply_each (drop i hosts) size w ≡ whole (quiet w)
unfolding apply_each
applies_none [] zero size w h = refl
applies_none [] (suc i) size w h = refl
applies_none (x ∷ xs) zero size w h = absurd (omega (arith, h))
applies_none (x ∷ xs) (suc i) size w h = applies_none xs i size w (omega (arith, h))

pub applies_next : (hosts : List ℕ) (i size : ℕ) (w : World) → i < length hosts → (apply_tried (get_or hosts i 0) size w).full ≡ None
    → apply_each (drop i hosts) size w ≡ told_first (apply_tried (get_or hosts i 0) size w).told (apply_each (drop (i + 1) hosts) size (apply_tried (get_or hosts i 0) size w).world)
unfolding apply_each
applies_next hosts i size w h f = rw (add-one, drop-cons hosts i 0, f) refl

pub applies_full : (hosts : List ℕ) (i size : ℕ) (w : World) (limit : Limit) → i < length hosts → (apply_tried (get_or hosts i 0) size w).full ≡ Some limit → apply_each (drop i hosts) size w ≡ apply_tried (get_or hosts i 0) size w
unfolding apply_each
applies_full hosts i size w limit h f = rw (drop-cons hosts i 0, f) refl

-- ---- deliveries, one after another

pub deliveries_none : (n size : ℕ) (w : World) → n ≤ 0 → deliver_each n size w ≡ whole (quiet w)
unfolding deliver_each
deliveries_none zero size w h = refl
deliveries_none (suc n) size w h = absurd (omega (arith, h))

-- one is done, and one fewer is left
pub deliveries_next : (n size : ℕ) (w : World) → 0 < n → reached w size ≡ None → deliver_each n size w ≡ told_first (deliver_next w).told (deliver_each (n - 1) size (deliver_next w).world)
unfolding deliver_each
deliveries_next zero size w h e = absurd (omega (arith, h))
deliveries_next (suc n) size w h e = let k : suc n - 1 ≡ n = omega arith in rw (e, k) refl

-- a limit is reached before one
pub deliveries_full : (n size : ℕ) (w : World) (limit : Limit) → 0 < n → reached w size ≡ Some limit → deliver_each n size w ≡ record { world = w; told = []; full = Some limit }
unfolding deliver_each
deliveries_full zero size w limit h e = absurd (omega (arith, h))
deliveries_full (suc n) size w limit h e = rw e refl
