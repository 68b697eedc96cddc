-- A disk in memory as its users see it.
use Rattle.std.specs.Prelude.{◌≡◌, ◌⊎◌, ℕ, ◌≤◌, List, [], ◌∷◌, ◌++◌, true, false, if◌then◌else◌, Some, unwrap_or, length, drop, Result, Ok, Err}
use Rattle.std.proofs.Common.{inl, inr, ⊎_elim, refl, ap, sym, ◌∙◌}
use Rattle.std.specs.BTreeMap.{BTreeMap}
use Rattle.std.specs.declared.snapshot.Snapshot.{Snapshot}
use Rattle.disk_model.specs.Crash.{Image}
use Rattle.disk_model.specs.Files.{Files, FileState, Leaves, seen_in, is_listed, now_of, file_at}
use Rattle.disk_model.specs.Plan.{Plan, fails, counted, one_more}
use Rattle.disk_model.specs.State.{DiskState, IsDisk, TellsFiles}
use Rattle.disk_model.specs.declared.damage.Damage.{Damage}
use Rattle.disk_model.specs.declared.memory.MemDisk.{MemDisk}
use Rattle.disk_model.specs.declared.fault.DiskFault.{DiskFault}
use Rattle.disk_model.specs.declared.fault.DiskFault.TheVariants.{Failed, NoMemory}

-- the files at each call, as proofs alone remember them
abbrev pub Past : Type 0
Past = List (Snapshot (BTreeMap ℕ FileState))

-- a crash at one of those moments may have left this
abbrev pub HadLeft : Past → Image → Type 0
HadLeft [] c = ⊥
HadLeft (s ∷ past) c = Leaves s.value.entries c ⊎ HadLeft past c

abbrev pub LeftSince : Files → Past → ℕ → Image → Type 0
LeftSince files past t c = Leaves files c ⊎ HadLeft (drop t past) c

abbrev pub plan_of : MemDisk → Plan
plan_of d = record {
  made = d.calls.made;
  failing = d.calls.failing.items;
  last = d.calls.last;
  losses = d.losses;
  damages = d.damages.items;
  files = d.files.entries;
}

-- a disk of these files, with this past and these damages to come
abbrev pub state_of : Files → Past → List Damage → ℕ → Plan → DiskState
state_of files past damages faults plan = record {
  tells = Unit {0};
  seen = seen_in files;
  listed = is_listed files;
  honest = damages ≡ [];
  may_leave = Leaves files;
  moment = length past;
  left_since = LeftSince files past;
  faults = faults;
  plan = Some plan;
}

abbrev pub disk_state : MemDisk → DiskState
disk_state d = state_of d.files.entries d.past.items d.damages.items d.calls.failed (plan_of d)

none_left : (past : Past) (c : Image) → HadLeft (drop (length past) past) c → ⊥
none_left [] c had = had
none_left (s ∷ past) c had = none_left past c had

unlisted : (s : FileState) → s.listed ≡ false → now_of s ≡ []
unlisted s is = ap (λ b. if b then s.now else []) is

-- two things that are one in an option
same_some : {X : Type 0} (x y : X) → Some x ≡ Some y → x ≡ y
same_some x y is = ap (λ o. unwrap_or o x) is

planned : (files : Files) (past : Past) (damages : List Damage) (faults : ℕ) (plan p : Plan) → plan.files ≡ files → Some plan ≡ Some p → TellsFiles p (state_of files past damages faults plan)
planned files past damages faults plan p same is =
    let of : files ≡ p.files = sym same ∙ ap (λ (q : Plan). q.files) (same_some plan p is) in
    record { tells = tt; seen = λ f. ap (λ es. seen_in es f) of; listed = λ f. ap (λ es. is_listed es f) of }

pub memory_sound : (d : MemDisk) → IsDisk (disk_state d)
memory_sound d = record {
  tells = λ h. tt;
  unlisted = λ t f is. unlisted (file_at f d.files.entries) is;
  seen = λ h f. inr (inl refl);
  counts_now = λ h t c le l. inl l;
  planned = λ p is. planned d.files.entries d.past.items d.damages.items d.calls.failed (plan_of d) p refl is;
  only_now = λ h c l. ⊎_elim (λ now. now) (λ had. absurd (none_left d.past.items c had)) l;
}

-- the files of before are remembered
abbrev pub Remembers : MemDisk → MemDisk → Type 0
Remembers old new = (w : Snapshot (BTreeMap ℕ FileState)) × (w.value.entries ≡ old.files.entries) × (new.past.items ≡ old.past.items ++ w ∷ [])

-- a call was counted, and has changed nothing yet
pub record Counted (old new : MemDisk) : Type 0 where
  pub plan : plan_of new ≡ counted (plan_of old)
  pub pending : new.pending ≡ old.pending

-- it goes on
pub record Began (old new : MemDisk) : Type 0 where
  pub allowed : fails (plan_of old) ≡ false
  pub faults : new.calls.failed ≡ old.calls.failed
  pub past : Remembers old new

-- memory ran out
pub record Starved (old new : MemDisk) : Type 0 where
  pub allowed : fails (plan_of old) ≡ false
  pub faults : new.calls.failed ≡ old.calls.failed
  pub past : new.past.items ≡ old.past.items

-- it fails
pub record Stopped (old new : MemDisk) : Type 0 where
  pub planned : fails (plan_of old) ≡ true
  pub later : old.calls.failed ≤ new.calls.failed
  pub faults : new.calls.failed ≡ one_more old.calls.failed
  pub past : new.past.items ≡ old.past.items

abbrev pub Begins : MemDisk → MemDisk → Result (Unit {0}) DiskFault → Type 0
Begins old new (Ok _) = Began old new
Begins old new (Err Failed) = Stopped old new
Begins old new (Err NoMemory) = Starved old new

-- all but the plan is as it was
pub record Rests (old new : MemDisk) : Type 0 where
  pub past : new.past.items ≡ old.past.items
  pub faults : new.calls.failed ≡ old.calls.failed
