-- A depot in memory: what is lent of it, and what holds of each of its disks.
use Rattle.std.proofs.Common.{◌≡◌, ◌≢◌, ℕ, ◌==◌, Bool, true, false, Option, Some, None, refl, sym, ◌∙◌, ap, subst, if◌then◌else◌, arith, unwrap_or, length, List, ◌<◌, slice_index_or, slice_set, [], ⊎_elim}
use Rattle.std.specs.Option.{OnSome}
use Rattle.disk_model.specs.Crash.{Image}
use Rattle.std.specs.Result.{IsErrOf, IfErr, OnOk, OnErr, is_ok}
use Rattle.std.specs.declared.result.Result.{Result}
use Rattle.std.specs.declared.result.Result.TheVariants.{Ok, Err}
use Rattle.std.proofs.lemmas.List.{get_or-set_same, get_or-set_other}
use Rattle.disk_model.specs.declared.fault.DiskFault.{DiskFault}
use Rattle.disk_model.specs.declared.fault.DiskFault.TheVariants.{Failed, NoMemory}
use Rattle.disk_model.specs.Plan.{Plan, armed, one_more, empty_plan, damaging_too}
use Rattle.disk_model.specs.declared.damage.Damage.{Damage}
use Rattle.disk_model.specs.Files.{Files, Leaves, seen_in, is_listed}
use Rattle.disk_model.specs.Depot.{IsHost, Armed, Replanned, IsNew}
use Rattle.disk_model.specs.Memory.{Past, disk_state, plan_of, Rests, LeftSince}
use Rattle.disk_model.specs.declared.memory.MemDisk.{MemDisk}
use Rattle.disk_model.proofs.Changed.{by_bool, cond_t, cond_f}

pub at_some : {A : Type 0} {r : Option A} {x : A} {P : Type 0} → r ≡ Some x → OnSome r P → P
at_some {r = r} {P = P} e h = let Q : Option _ → Type 0 = λ o. OnSome o P in subst Q e h

pub one_some : {A : Type 0} (o : Option A) (x y : A) → o ≡ Some x → o ≡ Some y → x ≡ y
one_some o x y p q = ap (λ z. unwrap_or z x) (sym p ∙ q)

pub replanned_disk : (step : Plan → Plan) (d e : MemDisk) → plan_of e ≡ step (plan_of d) → e.files.entries ≡ d.files.entries → Rests d e → Replanned step (disk_state d) (disk_state e)
replanned_disk step d e plan files rests = record {
  seen = λ f. ap (λ (es : Files). seen_in es f) files;
  listed = λ f. ap (λ (es : Files). is_listed es f) files;
  tells = λ t. t;
  crash = λ c l. subst (λ (es : Files). Leaves es c) files l;
  moment = ap length rests.past;
  left_since = λ t c l. let L : Past → Type 0 = λ xs. LeftSince d.files.entries xs t c in subst L rests.past (subst (λ (es : Files). LeftSince es e.past.items t c) files l);
  keeps = λ t c l. let L : Past → Type 0 = λ xs. LeftSince d.files.entries xs t c in subst (λ (es : Files). LeftSince es e.past.items t c) (sym files) (subst L (sym rests.past) l);
  faults = rests.faults;
  plan = ap Some plan;
}

pub armed_disk : (calls : ℕ) (d e : MemDisk) → plan_of e ≡ armed calls (plan_of d) → Rests d e → Armed calls (disk_state d) (disk_state e)
armed_disk calls d e plan rests = record {
  rests = replanned_disk (armed calls) d e plan (ap (λ (p : Plan). p.files) plan) rests;
  honest = λ h. ap (λ (p : Plan). p.damages) plan ∙ h;
}

-- a step of a plan, if it was taken
pub tried : (result : Result (Unit {0}) DiskFault) (step : Plan → Plan) (old new : Plan) → OnOk result (new ≡ step old) → OnErr result (new ≡ old) → new ≡ (if is_ok result then step old else old)
tried (Ok x) step old new ok err = ok
tried (Err x) step old new ok err = err

pub tried_files : (result : Result (Unit {0}) DiskFault) (step : Plan → Plan) (old new : Plan) → ((p : Plan) → (step p).files ≡ p.files) → OnOk result (new ≡ step old) → OnErr result (new ≡ old) → new.files ≡ old.files
tried_files (Ok x) step old new same ok err = ap (λ (p : Plan). p.files) ok ∙ same old
tried_files (Err x) step old new same ok err = ap (λ (p : Plan). p.files) err

pub tried_damages : (result : Result (Unit {0}) DiskFault) (step : Plan → Plan) (old new : Plan) → ((p : Plan) → (step p).damages ≡ p.damages) → OnOk result (new ≡ step old) → OnErr result (new ≡ old) → new.damages ≡ old.damages
tried_damages (Ok x) step old new same ok err = ap (λ (p : Plan). p.damages) ok ∙ same old
tried_damages (Err x) step old new same ok err = ap (λ (p : Plan). p.damages) err

pub damaged_disk : (result : Result (Unit {0}) DiskFault) (loss file : ℕ) (bytes : List ℕ) (d was e : MemDisk) → d ≡ was → OnOk result ((x : Damage) × (x.loss ≡ loss) × (x.file ≡ file) × (x.bytes.items ≡ bytes) × (plan_of e ≡ damaging_too x (plan_of was))) → Rests was e → OnOk result ((x : Damage) × (x.loss ≡ loss) × (x.file ≡ file) × (x.bytes.items ≡ bytes) × Replanned (damaging_too x) (disk_state d) (disk_state e))
damaged_disk (Ok r) loss file bytes d was e same p rests = (p.0, p.1, p.2, p.3, subst (λ (y : MemDisk). Replanned (damaging_too p.0) (disk_state y) (disk_state e)) (sym same) (replanned_disk (damaging_too p.0) was e p.4 (ap (λ (q : Plan). q.files) p.4) rests))
damaged_disk (Err r) loss file bytes d was e same p rests = p

pub undamaged_disk : (result : Result (Unit {0}) DiskFault) (d was e : MemDisk) → d ≡ was → OnErr result (plan_of e ≡ plan_of was) → Rests was e → OnErr result (Replanned (λ p. p) (disk_state d) (disk_state e))
undamaged_disk (Ok r) d was e same p rests = p
undamaged_disk (Err r) d was e same p rests = subst (λ (y : MemDisk). Replanned (λ p. p) (disk_state y) (disk_state e)) (sym same) (replanned_disk (λ p. p) was e p (ap (λ (q : Plan). q.files) p) rests)

nothing_left : (d : MemDisk) → plan_of d ≡ empty_plan → (c : Image) → Leaves d.files.entries c → (f : ℕ) → c f ≡ seen_in d.files.entries f
nothing_left d plan c l f =
    let none : d.files.entries ≡ [] = ap (λ (p : Plan). p.files) plan in
    let left : Leaves [] c = subst (λ (es : Files). Leaves es c) none l in
    ⊎_elim (λ x. x) (λ r. ⊎_elim (λ x. x) (λ q. ⊎_elim (λ x. x) (λ g. g.1) q) r) (left f) ∙ sym (ap (λ (es : Files). seen_in es f) none)

pub new_disk : (d : MemDisk) → plan_of d ≡ empty_plan → d.calls.failed ≡ 0 → IsNew (disk_state d)
new_disk d plan faults = record { honest = ap (λ (p : Plan). p.damages) plan; at_rest = nothing_left d plan; faults = faults; plan = ap Some plan }

choose : {X : Type 0} (P : X → Type 0) (b : Bool) (x y : X) → (b ≡ true → P x) → (b ≡ false → P y) → P (if b then x else y)
choose P true x y t f = t refl
choose P false x y t f = f refl

pub each_disk : (P : Option MemDisk → Type 0) (d1 d2 d3 d4 d5 d6 d7 d8 d9 : Option MemDisk) → P d1 → P d2 → P d3 → P d4 → P d5 → P d6 → P d7 → P d8 → P d9 → (host : ℕ) → IsHost host → P (if host == 1 then d1 else if host == 2 then d2 else if host == 3 then d3 else if host == 4 then d4 else if host == 5 then d5 else if host == 6 then d6 else if host == 7 then d7 else if host == 8 then d8 else if host == 9 then d9 else None)
each_disk P d1 d2 d3 d4 d5 d6 d7 d8 d9 p1 p2 p3 p4 p5 p6 p7 p8 p9 host is =
    choose P (host == 1) _ _ (λ _. p1) (λ f1.
    choose P (host == 2) _ _ (λ _. p2) (λ f2.
    choose P (host == 3) _ _ (λ _. p3) (λ f3.
    choose P (host == 4) _ _ (λ _. p4) (λ f4.
    choose P (host == 5) _ _ (λ _. p5) (λ f5.
    choose P (host == 6) _ _ (λ _. p6) (λ f6.
    choose P (host == 7) _ _ (λ _. p7) (λ f7.
    choose P (host == 8) _ _ (λ _. p8) (λ f8.
    choose P (host == 9) _ _ (λ _. p9) (λ f9. absurd (grind (arith, f1, f2, f3, f4, f5, f6, f7, f8, f9, is.least, is.most)))))))))))

-- a call that fails by memory alone never answers Failed
pub never_failed : (Q : Type 0) (result : Result (Unit {0}) DiskFault) → IfErr result (λ e. (e ≡ NoMemory) × Q) → IsErrOf result Failed → ⊥
never_failed Q result only is = let R : Result (Unit {0}) DiskFault → Type 0 = λ r. IfErr r (λ e. (e ≡ NoMemory) × Q) in other (subst R is only).0
  where
    other : Failed ≡ NoMemory → ⊥
    other e = absurd (cc e)

-- a count of one host goes up
pub bumped : (xs : List ℕ) (host h v : ℕ) → host < length xs → v ≡ one_more (slice_index_or xs host 0) → slice_index_or (slice_set xs host v) h 0 ≡ (if h == host then one_more (slice_index_or xs h 0) else slice_index_or xs h 0)
bumped xs host h v lt is = by_bool (h == host)
    (λ t. let same : h ≡ host = grind (arith, t) in ap (λ k. slice_index_or (slice_set xs host v) k 0) same ∙ get_or-set_same xs host v 0 lt ∙ is ∙ ap (λ k. one_more (slice_index_or xs k 0)) (sym same) ∙ sym (cond_t _ (one_more (slice_index_or xs h 0)) (slice_index_or xs h 0) t))
    (λ f. let off : h ≢ host = λ e. absurd (grind (arith, e, f)) in get_or-set_other xs host h v 0 off ∙ sym (cond_f _ (one_more (slice_index_or xs h 0)) (slice_index_or xs h 0) f))
