-- A round of a settle that has nothing to do.
use Rattle.std.proofs.Common.{◌≡◌, ◌≤◌, ℕ, zero, suc, List, [], ◌∷◌, Bool, true, false, refl, arith, ltb-false}
use Rattle.std.specs.Prelude.{◌||◌, nat_lt}
use Rattle.std.specs.List.{list_any}
use Rattle.run_model.specs.World.{World}
use Rattle.run_model.specs.Run.{apply_each, deliver_each, is_busy, is_ripe, is_unsaved, quiet, round, save_each, unsettled, whole}

-- neither of two tests passes
neither : (a b : Bool) → (a || b) ≡ false → (a ≡ false) × (b ≡ false)
neither true b e = absurd cc
neither false b e = (refl, e)

saves_rest : (hosts : List ℕ) (size : ℕ) (w : World) → list_any (is_unsaved w) hosts ≡ false → save_each hosts size w ≡ whole (quiet w)
unfolding save_each
saves_rest [] size w e = refl
saves_rest (h ∷ hs) size w e =
    let p = neither (is_unsaved w h) (list_any (is_unsaved w) hs) e in
    rw (p.0, saves_rest hs size w p.1) refl

applies_rest : (hosts : List ℕ) (size : ℕ) (w : World) → list_any (is_ripe w) hosts ≡ false → apply_each hosts size w ≡ whole (quiet w)
unfolding apply_each
applies_rest [] size w e = refl
applies_rest (h ∷ hs) size w e =
    let p = neither (is_ripe w h) (list_any (is_ripe w) hs) e in
    rw (p.0, applies_rest hs size w p.1) refl

deliveries_rest : (n size : ℕ) (w : World) → n ≤ 0 → deliver_each n size w ≡ whole (quiet w)
unfolding deliver_each
deliveries_rest zero size w h = refl
deliveries_rest (suc n) size w h = absurd (omega (arith, h))

pub idle_rounds : (w : World) (size : ℕ) → is_busy w ≡ false → round size w ≡ whole (quiet w)
idle_rounds w size e =
    let p = neither (list_any (is_unsaved w) w.group.voters || nat_lt 0 (unsettled w)) (list_any (is_ripe w) w.group.voters) e in
    let q = neither (list_any (is_unsaved w) w.group.voters) (nat_lt 0 (unsettled w)) p.0 in
    let none : unsettled w ≤ 0 = ltb-false 0 (unsettled w) q.1 in
    rw (saves_rest w.group.voters size w q.0, deliveries_rest (unsettled w) size w none, applies_rest w.group.voters size w p.1) refl
