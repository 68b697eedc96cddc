-- What calls on one file may leave of it.
use Rattle.std.proofs.Common.{ℕ, List, sym, ◌∙◌, subst, refl}
use Rattle.disk_model.specs.Crash.{Image, Only}
use Rattle.disk_model.specs.State.{DiskState, IsDisk}
use Rattle.disk_model.specs.Calls.{GoesOn, Keeps, Alters, IsSure}
use Rattle.gate_files.specs.Moments.{LeavesOnly, OnlyOf}
use Rattle.gate_files.proofs.Times.{begins, goes_on}

-- since the old state a crash leaves of the file bytes of the first kind, and now of the second
pub record Leaves (old : DiskState) (file : ℕ) (ever now : List ℕ → Type 0) (s : DiskState) : Type 0 where
  pub honest : s.honest
  pub moments : LeavesOnly old s (OnlyOf old.may_leave file ever)
  pub images : (c : Image) → s.may_leave c → OnlyOf old.may_leave file now c
  pub within : (bytes : List ℕ) → now bytes → ever bytes

-- an image of one kind is one of a wider kind
pub wider : (may_leave : Image → Type 0) (file : ℕ) (now ever : List ℕ → Type 0) → ((bytes : List ℕ) → now bytes → ever bytes) → (c : Image) → OnlyOf may_leave file now c → OnlyOf may_leave file ever c
wider may_leave file now ever within c only = (only.0, only.1, only.2, within (c file) only.3)

module _ (old : DiskState) (file : ℕ) (ever : List ℕ → Type 0) where
  -- a file of which a crash leaves what a read gives
  pub at_first : (now : List ℕ → Type 0) → IsDisk old → old.honest → Only file (old.seen file) old.may_leave → now (old.seen file) → ((bytes : List ℕ) → now bytes → ever bytes) → Leaves old file ever now old
  at_first now disk honest only is within =
      let images : (c : Image) → old.may_leave c → OnlyOf old.may_leave file now c = λ c l. (c, l, (λ f other. refl), subst now (sym (only c l)) is) in
      record { honest = honest; moments = begins old (OnlyOf old.may_leave file ever) disk honest (λ c l. wider old.may_leave file now ever within c (images c l)); images = images; within = within }

  -- a call after which a crash leaves this kind
  next : (before now : List ℕ → Type 0) (s t : DiskState) → Leaves old file ever before s → GoesOn s t → ((c : Image) → t.may_leave c → OnlyOf old.may_leave file now c) → ((bytes : List ℕ) → now bytes → ever bytes) → Leaves old file ever now t
  next before now s t leaves on images within =
      record { honest = on.honest leaves.honest; moments = goes_on old s t (OnlyOf old.may_leave file ever) leaves.moments leaves.honest on (λ c l. wider old.may_leave file now ever within c (images c l)); images = images; within = within }

  -- a call that changes the file by a step
  pub altered : (step : List ℕ → List ℕ → Type 0) (before now : List ℕ → Type 0) (s t : DiskState) → Leaves old file ever before s → Alters file step s t → GoesOn s t
      → ((was is : List ℕ) → before was → step was is → now is) → ((bytes : List ℕ) → now bytes → ever bytes) → Leaves old file ever now t
  altered step before now s t leaves alters on steps within =
      next before now s t leaves on
      (λ c l.
      let d = alters.crash leaves.honest c l in
      let b = leaves.images d.0 d.1 in
      (b.0, b.1, (λ f other. d.2 f other ∙ b.2 f other), steps (d.0 file) (c file) b.3 d.3))
      within

  -- a call that changes nothing
  pub kept : (now : List ℕ → Type 0) (s t : DiskState) → Leaves old file ever now s → Keeps s t → GoesOn s t → Leaves old file ever now t
  kept now s t leaves keeps on = next now now s t leaves on (λ c l. leaves.images c (keeps.crash leaves.honest c l)) leaves.within

  -- a file of which it was made sure
  pub surely : (before now : List ℕ → Type 0) (s : DiskState) → Leaves old file ever before s → IsSure file s → now (s.seen file) → ((bytes : List ℕ) → now bytes → ever bytes) → Leaves old file ever now s
  surely before now s leaves sure is within =
      record { honest = leaves.honest; moments = leaves.moments; images = (λ c l. let b = leaves.images c l in (b.0, b.1, b.2, subst now (sym (sure.bytes c l)) is)); within = within }
