use Rattle.std.proofs.Common.{◌≡◌, ap, ◌∙◌, inl, refl}
use Rattle.disk_model.specs.Crash.{Gone}
use Rattle.disk_model.specs.Plan.{Plan}
use Rattle.disk_model.specs.Files.{change_listed, removed}
use Rattle.disk_model.proofs.Moments.{counted_alters, goes_on}
use Rattle.disk_model.proofs.Crashes.{remove_alters, remove_has}
use Rattle.disk_model.proofs.memory.MemDiskDisk.remove.Goals as goal

pub returns-in_err-begin-clause-alters : goal.returns-in_err-begin-clause-alters
returns-in_err-begin-clause-alters c = counted_alters c.args.file Gone _ _ (λ bytes. inl refl) c.begin.ensures.counted

changed : (c : goal.After-self-1) → c.remove_in.new.files.entries ≡ change_listed c.args.file removed c.args.self.now.files.entries
changed c = c.remove_in.ensures ∙ ap (λ (p : Plan). change_listed c.args.file removed p.files) c.begin.ensures.counted.plan

pub returns-clause-removed : goal.returns-clause-removed
returns-clause-removed c t = remove_has c.args.file c.args.self.now.files.entries c.remove_in.new.files.entries (changed c)

pub returns-clause-alters : goal.returns-clause-alters
returns-clause-alters c = remove_alters c.args.file c.args.self.now.files.entries c.remove_in.new.files.entries (changed c)

pub returns-clause-goes_on : goal.returns-clause-goes_on
returns-clause-goes_on c = goes_on c.args.self.now.past.items c.begin.new.self.past.items c.args.self.now.files.entries c.remove_in.new.files.entries (ap (λ (p : Plan). p.damages) c.begin.ensures.counted.plan) c.in_ok-begin.ensures.begins.past
