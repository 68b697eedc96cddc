-- What a sync makes sure of.
use Rattle.std.proofs.Common.{◌≡◌, ◌⊎◌, ℕ, List, [], Bool, true, false, refl, sym, ◌∙◌, ap, subst, inl, inr, ⊎_elim, if◌then◌else◌, true≢false}
use Rattle.std.proofs.lemmas.Bool.Decides.{eqb_tells}
use Rattle.disk_model.specs.Calls.{Keeps, IsSure}
use Rattle.disk_model.specs.Files.{Files, FileState, IsLeft, file_at, now_of, synced, change_listed, is_listed}
use Rattle.disk_model.specs.Plain.{purged_at}
use Rattle.disk_model.specs.Plan.{Plan}
use Rattle.disk_model.specs.declared.damage.Damage.{Damage}
use Rattle.disk_model.specs.Memory.{Past, state_of}
use Rattle.disk_model.proofs.Changed.{listed_self, listed_other}

-- a file after the sync of a file, which is this one or another
abbrev pub settled_at : Bool → FileState → FileState
settled_at this s = if this then (if (purged_at s).listed then synced (purged_at s) else purged_at s) else purged_at s

now_at : (this listed gone : Bool) (now kept burnt : List ℕ) → let s : FileState = record { listed = listed; gone = gone; now = now; kept = kept; burnt = burnt } in now_of (settled_at this s) ≡ now_of s
now_at true true gone now kept burnt = refl
now_at false true gone now kept burnt = refl
now_at true false gone now kept burnt = refl
now_at false false gone now kept burnt = refl

listed_at : (this listed gone : Bool) (now kept burnt : List ℕ) → let s : FileState = record { listed = listed; gone = gone; now = now; kept = kept; burnt = burnt } in (settled_at this s).listed ≡ s.listed
listed_at true true gone now kept burnt = refl
listed_at false true gone now kept burnt = refl
listed_at true false gone now kept burnt = refl
listed_at false false gone now kept burnt = refl

-- nothing comes back
no_more : (bytes : List ℕ) → (bytes ≡ []) ⊎ (bytes ≡ []) ⊎ (bytes ≡ []) ⊎ ((false ≡ true) × (bytes ≡ [])) → bytes ≡ []
no_more bytes l = ⊎_elim (λ x. x) (λ r. ⊎_elim (λ x. x) (λ q. ⊎_elim (λ x. x) (λ g. g.1) q) r) l

same_now : (bytes now : List ℕ) → (bytes ≡ now) ⊎ (bytes ≡ now) ⊎ (bytes ≡ now) ⊎ ((false ≡ true) × (bytes ≡ [])) → bytes ≡ now
same_now bytes now l = ⊎_elim (λ x. x) (λ r. ⊎_elim (λ x. x) (λ q. ⊎_elim (λ x. x) (λ g. absurd (true≢false (sym g.0))) q) r) l

fewer_at : (this listed gone : Bool) (now kept burnt bytes : List ℕ) → let s : FileState = record { listed = listed; gone = gone; now = now; kept = kept; burnt = burnt } in IsLeft (settled_at this s) bytes → IsLeft s bytes
fewer_at true true gone now kept burnt bytes l = inr (inl (same_now bytes now l))
fewer_at false true true now kept burnt bytes l = ⊎_elim (λ x. inr (inr (inr (refl, x)))) (λ r. ⊎_elim (λ x. inr (inl x)) (λ q. ⊎_elim (λ x. inr (inr (inl x))) (λ g. absurd (true≢false (sym g.0))) q) r) l
fewer_at false true false now kept burnt bytes l = l
fewer_at true false gone now kept burnt bytes l = inr (inl (no_more bytes l))
fewer_at false false gone now kept burnt bytes l = inr (inl (no_more bytes l))

sure_at : (listed gone : Bool) (now kept burnt bytes : List ℕ) → let s : FileState = record { listed = listed; gone = gone; now = now; kept = kept; burnt = burnt } in IsLeft (settled_at true s) bytes → bytes ≡ now_of (settled_at true s)
sure_at true gone now kept burnt bytes l = same_now bytes now l
sure_at false gone now kept burnt bytes l = no_more bytes l

unlisted_at : (this listed gone : Bool) (now kept burnt bytes : List ℕ) → let s : FileState = record { listed = listed; gone = gone; now = now; kept = kept; burnt = burnt } in (settled_at this s).listed ≡ false → IsLeft (settled_at this s) bytes → bytes ≡ []
unlisted_at true true gone now kept burnt bytes is l = absurd (true≢false is)
unlisted_at false true gone now kept burnt bytes is l = absurd (true≢false is)
unlisted_at true false gone now kept burnt bytes is l = no_more bytes l
unlisted_at false false gone now kept burnt bytes is l = no_more bytes l

-- each file after the sync
pub settled_files : (file : ℕ) (es purged new : Files) → ((f : ℕ) → file_at f purged ≡ purged_at (file_at f es)) → new ≡ change_listed file synced purged → (f : ℕ) → (this : Bool) × (file_at f new ≡ settled_at this (file_at f es)) × (f ≡ file → this ≡ true)
settled_files file es purged new at is f = ⊎_elim
    (λ q.
    let same : f ≡ file = q.1 in
    let here : file_at file new ≡ (if is_listed purged file then synced (file_at file purged) else file_at file purged) = ap (file_at file) is ∙ listed_self file synced purged in
    let then' : file_at file new ≡ settled_at true (file_at file es) = here ∙ ap (λ (s : FileState). if s.listed then synced s else s) (at file) in
    (true, subst (λ (g : ℕ). file_at g new ≡ settled_at true (file_at g es)) (sym same) then', (λ e. refl)))
    (λ q. (false, ap (file_at f) is ∙ listed_other file f synced purged q.1 ∙ at f, (λ e. absurd (q.1 e))))
    (eqb_tells f file)

pub sync_keeps : {ps ps' : Past} {bd bd' : List Damage} {fs fs' : ℕ} {pl pl' : Plan} (file : ℕ) (es new : Files) → ((f : ℕ) → (this : Bool) × (file_at f new ≡ settled_at this (file_at f es)) × (f ≡ file → this ≡ true)) → Keeps (state_of es ps bd fs pl) (state_of new ps' bd' fs' pl')
sync_keeps file es new at = record {
  seen = λ t f. let p = at f in let s = file_at f es in ap now_of p.1 ∙ now_at p.0 s.listed s.gone s.now s.kept s.burnt;
  listed = λ t f. let p = at f in let s = file_at f es in ap (λ (x : FileState). x.listed) p.1 ∙ listed_at p.0 s.listed s.gone s.now s.kept s.burnt;
  crash = λ h c l f. let p = at f in let s = file_at f es in fewer_at p.0 s.listed s.gone s.now s.kept s.burnt (c f) (subst (λ (x : FileState). IsLeft x (c f)) p.1 (l f));
}

pub sync_sure : {ps' : Past} {bd' : List Damage} {fs' : ℕ} {pl' : Plan} (file : ℕ) (es new : Files) → ((f : ℕ) → (this : Bool) × (file_at f new ≡ settled_at this (file_at f es)) × (f ≡ file → this ≡ true)) → IsSure file (state_of new ps' bd' fs' pl')
sync_sure file es new at = record {
  bytes = λ c l.
      let p = at file in let s = file_at file es in
      let here : file_at file new ≡ settled_at true s = p.1 ∙ ap (λ b. settled_at b s) (p.2 refl) in
      sure_at s.listed s.gone s.now s.kept s.burnt (c file) (subst (λ (x : FileState). IsLeft x (c file)) here (l file)) ∙ ap now_of (sym here);
  unlisted = λ c f l is.
      let p = at f in let s = file_at f es in
      unlisted_at p.0 s.listed s.gone s.now s.kept s.burnt (c f) (sym (ap (λ (x : FileState). x.listed) p.1) ∙ is) (subst (λ (x : FileState). IsLeft x (c f)) p.1 (l f));
}
