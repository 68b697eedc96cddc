-- The entries of a map of files: a value that is put back, and a retain that changes each value.
use Rattle.std.proofs.Common.{◌≡◌, ℕ, List, [], ◌∷◌, Bool, true, false, Option, Some, refl, sym, ◌∙◌, ap, subst, cond, unwrap_or}
use Rattle.std.specs.Map.{lookup, set_value}
use Rattle.std.specs.Map.Calls.{RetainsPairs}
use Rattle.disk_model.specs.Files.{Files, FileState, each}

set_first : {K X : Type 0} (b : Bool) (e : K × X) (es changed : List (K × X)) (found : Option X) (v : X) → cond b (Some e.1) found ≡ Some v → (found ≡ Some v → changed ≡ es) → cond b ((e.0, v) ∷ es) (e ∷ changed) ≡ e ∷ es
set_first true e es changed found v is more = let q : e.1 ≡ v = ap (λ o. unwrap_or o e.1) is in ap (λ x. (e.0, x) ∷ es) (sym q)
set_first false e es changed found v is more = ap (λ xs. e ∷ xs) (more is)

-- a value that is put back where it stood changes nothing
pub set_same : {K X : Type 0} (test : K → Bool) (es : List (K × X)) (v : X) → lookup test es ≡ Some v → set_value test es v ≡ es
set_same test [] v is = refl
set_same test (e ∷ es) v is = set_first (test e.0) e es (set_value test es v) (lookup test es) v is (set_same test es v)

-- a retain whose closure changes each value by a step, and keeps it where it is listed then
pub each_retained : {F : Type 0} (T : F → ℕ → FileState → Bool → FileState → F → Type 0) (step : FileState → FileState) (f : F) → ((k : ℕ) (v : FileState) (b : Bool) (w : FileState) (f' : F) → T f k v b w f' → (b ≡ w.listed) × (w ≡ step v) × (f' ≡ f)) → (es kept : Files) → RetainsPairs T f es kept → kept ≡ each step es
each_retained T step f h [] kept r = r
each_retained {F = F} T step f h (e ∷ es) kept r =
    let x = h e.0 e.1 r.0 r.1 r.2 r.4 in
    let wl : r.1 ≡ step e.1 = x.1 in
    let bl : r.0 ≡ (step e.1).listed = x.0 ∙ ap (λ (s : FileState). s.listed) wl in
    let R : F → Type 0 = λ g. RetainsPairs T g es r.3 in
    let ih : r.3 ≡ each step es = each_retained T step f h es r.3 (subst R x.2 r.5) in
    r.6 ∙ (λ i. cond (bl i) ((e.0, wl i) ∷ ih i) (ih i))
