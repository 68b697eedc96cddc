-- What a disk means to those who use it.
use Rattle.std.specs.Prelude.{◌≡◌, ℕ, ◌≤◌, [], Bool, false, Option, Some}
use Rattle.disk_model.specs.Crash.{Image}
use Rattle.disk_model.specs.Plan.{Plan}
use Rattle.disk_model.specs.Files.{seen_in, is_listed}

pub record DiskState : Type 1 where
  -- whether it tells what a read gives
  pub tells : Type 0
  -- what a read gives
  pub seen : Image
  pub listed : ℕ → Bool
  -- whether it keeps what it promises of crashes
  pub honest : Type 0
  -- what a crash now may leave
  pub may_leave : Image → Type 0
  -- the clock, which doesn't fall
  pub moment : ℕ
  -- what a crash at some moment from that one on may have left
  pub left_since : ℕ → Image → Type 0
  -- how often it has failed, from 0 to 2^64-1, where it stays
  pub faults : ℕ
  -- its plan, where it tells one
  pub plan : Option Plan

-- the files of a plan are those that a read gives
pub record TellsFiles (p : Plan) (s : DiskState) : Type 0 where
  pub tells : s.tells
  pub seen : (f : ℕ) → s.seen f ≡ seen_in p.files f
  pub listed : (f : ℕ) → s.listed f ≡ is_listed p.files f

-- what holds of every disk
pub record IsDisk (s : DiskState) : Type 0 where
  pub tells : s.honest → s.tells
  pub unlisted : s.tells → (f : ℕ) → s.listed f ≡ false → s.seen f ≡ []
  -- a crash may leave all as a read gives it
  pub seen : s.honest → s.may_leave s.seen
  -- the present counts among the moments since any earlier one, and is the only one since now
  pub counts_now : s.honest → (t : ℕ) (c : Image) → t ≤ s.moment → s.may_leave c → s.left_since t c
  pub planned : (p : Plan) → s.plan ≡ Some p → TellsFiles p s
  pub only_now : s.honest → (c : Image) → s.left_since s.moment c → s.may_leave c

-- a crash leaves what a read gives, and nothing else
abbrev pub IsAtRest : DiskState → Type 0
IsAtRest s = (c : Image) → s.may_leave c → (f : ℕ) → c f ≡ s.seen f
