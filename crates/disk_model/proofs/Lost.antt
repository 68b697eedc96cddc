-- What a loss of power leaves of each file.
use Rattle.std.proofs.Common.{◌≡◌, ℕ, List, [], Bool, true, false, ◌||◌, ◌==◌, Option, Some, None, refl, sym, ◌∙◌, ap, subst, if◌then◌else◌, true≢false, unwrap_or, inl, inr, ⊎_elim, arith}
use Rattle.disk_model.specs.Files.{FileState, nothing, file_at, now_of, kept_of, burnt_of, left_of, lost, IsStill, IsLeft}
use Rattle.std.specs.Result.{OnOk, IsErrOf}
use Rattle.std.specs.declared.result.Result.{Result}
use Rattle.std.specs.declared.result.Result.TheVariants.{Ok, Err}
use Rattle.disk_model.specs.Plan.{powered}
use Rattle.disk_model.specs.Depot.{Powered}
use Rattle.disk_model.specs.Memory.{disk_state, plan_of, Rests}
use Rattle.disk_model.specs.declared.memory.MemDisk.{MemDisk}
use Rattle.disk_model.specs.declared.fault.DiskFault.{DiskFault}
use Rattle.disk_model.specs.declared.fault.DiskFault.TheVariants.{Failed}
use Rattle.disk_model.proofs.Changed.{by_bool, cond_t, cond_f, kept_after}

or_left : (a b : Bool) → (a || b) ≡ false → a ≡ false
or_left true b h = absurd (true≢false h)
or_left false b h = refl

or_right : (a b : Bool) → (a || b) ≡ false → b ≡ false
or_right true b h = absurd (true≢false h)
or_right false b h = h

nothing_left : (choice : ℕ) → [] ≡ left_of choice nothing
nothing_left choice = by_bool (choice == 0) (λ t. sym (cond_t _ [] (if choice == 1 then [] else []) t)) (λ f. sym (cond_f _ [] (if choice == 1 then [] else []) f ∙ by_bool (choice == 1) (λ t. cond_t _ [] [] t) (λ g. cond_f _ [] [] g)))

pub lost_now : (choice : ℕ) (o : Option FileState) → now_of (kept_after (lost choice) o) ≡ left_of choice (unwrap_or o nothing)
lost_now choice None = nothing_left choice
lost_now choice (Some s) = by_bool (s.listed || choice == 0)
    (λ t. ap now_of (cond_t _ (lost choice s) nothing t) ∙ cond_t _ (left_of choice s) [] t)
    (λ f.
    let unlisted = or_left s.listed (choice == 0) f in
    let later = or_right s.listed (choice == 0) f in
    ap now_of (cond_f _ (lost choice s) nothing f) ∙ sym (cond_f _ (kept_of s) (if choice == 1 then now_of s else burnt_of s) later ∙ by_bool (choice == 1) (λ t. cond_t _ (now_of s) (burnt_of s) t ∙ cond_f _ s.now [] unlisted) (λ g. cond_f _ (now_of s) (burnt_of s) g ∙ cond_f _ s.burnt [] unlisted)))

pub lost_still : (choice : ℕ) (o : Option FileState) → IsStill (kept_after (lost choice) o)
lost_still choice None = record { gone = refl; kept = refl; burnt = refl }
lost_still choice (Some s) = by_bool (s.listed || choice == 0)
    (λ t.
    let l = left_of choice s in
    let K : ((if (s.listed || choice == 0) || false then l else []) ≡ (if s.listed || choice == 0 then l else [])) = ap (λ b. if b || false then l else []) t ∙ sym (cond_t _ l [] t) in
    subst IsStill (sym (cond_t _ (lost choice s) nothing t)) (record { gone = refl; kept = K; burnt = refl }))
    (λ f. subst IsStill (sym (cond_f _ (lost choice s) nothing f)) (record { gone = refl; kept = refl; burnt = refl }))

left_is : (choice : ℕ) (s : FileState) → IsLeft s (left_of choice s)
left_is choice s = by_bool (choice == 0)
    (λ t. inl (cond_t _ (kept_of s) (if choice == 1 then now_of s else burnt_of s) t))
    (λ f. let later = cond_f _ (kept_of s) (if choice == 1 then now_of s else burnt_of s) f in by_bool (choice == 1)
    (λ t. inr (inl (later ∙ cond_t _ (now_of s) (burnt_of s) t)))
    (λ g. inr (inr (inl (later ∙ cond_f _ (now_of s) (burnt_of s) g)))))

still_is : (s : FileState) (bytes : List ℕ) → IsStill s → IsLeft s bytes → bytes ≡ now_of s
still_is s bytes still l = ⊎_elim (λ k. k ∙ still.kept) (λ r. ⊎_elim (λ n. n) (λ q. ⊎_elim (λ b. b ∙ still.burnt) (λ g. absurd (true≢false (sym g.0 ∙ still.gone))) q) r) l

on_ok : {A B : Type 0} (result : Result (Unit {0}) DiskFault) → OnOk result A → (A → B) → OnOk result B
on_ok (Ok x) a f = f a
on_ok (Err x) a f = a

pub powered_disk : (choice : ℕ) (result : Result (Unit {0}) DiskFault) (d e : MemDisk) → OnOk result (plan_of e ≡ powered choice (plan_of d)) → e.damages.items ≡ d.damages.items → Rests d e → (d.damages.items ≡ [] → (f : ℕ) → now_of (file_at f e.files.entries) ≡ left_of choice (file_at f d.files.entries)) → (d.damages.items ≡ [] → (f : ℕ) → IsStill (file_at f e.files.entries)) → (IsErrOf result Failed → ⊥) → Powered choice result (disk_state d) (disk_state e)
powered_disk choice result d e plan same rests left still never = record {
  tells = λ t. t;
  honest = λ h. same ∙ h;
  left = λ h f. subst (IsLeft (file_at f d.files.entries)) (sym (left h f)) (left_is choice (file_at f d.files.entries));
  at_rest = λ h c l f. still_is (file_at f e.files.entries) (c f) (still h f) (l f);
  cause = record { later = omega (arith, rests.faults); failed = λ is. absurd (never is) };
  plan = λ p is. let same_plan : plan_of d ≡ p = ap (λ o. unwrap_or o (plan_of d)) is in on_ok result plan (λ ok. ap Some (ok ∙ ap (powered choice) same_plan));
}
