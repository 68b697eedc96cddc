use Rattle.std.proofs.Common.{◌≡◌, ap, ◌∙◌, inl, refl}
use Rattle.disk_model.specs.Crash.{Cut}
use Rattle.disk_model.specs.Plan.{Plan}
use Rattle.disk_model.specs.Files.{change, resized}
use Rattle.disk_model.proofs.Moments.{counted_alters, goes_on}
use Rattle.disk_model.proofs.Crashes.{cut_alters, cut_has}
use Rattle.disk_model.proofs.Plain.{plain_change, plain_tried}
use Rattle.disk_model.proofs.memory.MemDiskDisk.cut.Goals as goal

pub returns-in_err-begin-clause-alters : goal.returns-in_err-begin-clause-alters
returns-in_err-begin-clause-alters c = counted_alters c.args.file (Cut c.args.size) _ _ (λ bytes. inl refl) c.begin.ensures.counted

pub invariant_of-self : goal.invariant_of-self
invariant_of-self c = record { plain = plain_tried c.cut_in.result c.begin.new.self.pending c.begin.new.self.files.entries c.cut_in.new.files.entries (change c.args.file (resized c.args.size)) (plain_change c.args.file (resized c.args.size) c.begin.new.self.files.entries (λ s gone. record { listed = refl; gone = gone })) c.begin.new.self.plain c.cut_in.ensures.ok c.cut_in.ensures.err }

changed : (c : goal.In_ok-cut_in) → c.cut_in.new.files.entries ≡ change c.args.file (resized c.args.size) c.args.self.now.files.entries
changed c = c.in_ok-cut_in.ensures.ok ∙ ap (λ (p : Plan). change c.args.file (resized c.args.size) p.files) c.begin.ensures.counted.plan

pub returns-clause-cut : goal.returns-clause-cut
returns-clause-cut c t = cut_has c.args.file c.args.size c.args.self.now.files.entries c.cut_in.new.files.entries (changed c)

pub returns-clause-alters : goal.returns-clause-alters
returns-clause-alters c = cut_alters c.args.file c.args.size c.args.self.now.files.entries c.cut_in.new.files.entries (changed c)

pub returns-clause-goes_on : goal.returns-clause-goes_on
returns-clause-goes_on c = goes_on c.args.self.now.past.items c.begin.new.self.past.items c.args.self.now.files.entries c.cut_in.new.files.entries (ap (λ (p : Plan). p.damages) c.begin.ensures.counted.plan) c.in_ok-begin.ensures.begins.past
