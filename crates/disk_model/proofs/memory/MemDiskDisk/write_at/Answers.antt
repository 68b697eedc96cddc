use Rattle.std.proofs.Common.{◌≡◌, ap, ◌∙◌, refl, length}
use Rattle.disk_model.specs.Crash.{Torn}
use Rattle.disk_model.specs.Plan.{Plan}
use Rattle.disk_model.specs.Files.{change, wrote}
use Rattle.disk_model.proofs.Moments.{counted_alters, alters_nothing, goes_on}
use Rattle.disk_model.proofs.Crashes.{write_alters, write_has, torn_same}
use Rattle.disk_model.proofs.Plain.{plain_change, plain_tried}
use Rattle.disk_model.proofs.memory.MemDiskDisk.write_at.Goals as goal

pub returns-in_err-begin-clause-alters : goal.returns-in_err-begin-clause-alters
returns-in_err-begin-clause-alters c = counted_alters c.args.file (Torn c.args.at (length c.args.bytes.now)) _ _ (torn_same c.args.at (length c.args.bytes.now)) c.begin.ensures.counted

pub invariant_of-self : goal.invariant_of-self
invariant_of-self c = record { plain = plain_tried c.write_in.result c.begin.new.self.pending c.begin.new.self.files.entries c.write_in.new.files.entries (change c.args.file (wrote c.args.at c.args.bytes.now)) (plain_change c.args.file (wrote c.args.at c.args.bytes.now) c.begin.new.self.files.entries (λ s gone. record { listed = refl; gone = gone })) c.begin.new.self.plain c.write_in.ensures.ok c.write_in.ensures.err }

changed : (c : goal.In_ok-write_in) → c.write_in.new.files.entries ≡ change c.args.file (wrote c.args.at c.args.bytes.now) c.args.self.now.files.entries
changed c = c.in_ok-write_in.ensures.ok ∙ ap (λ (p : Plan). change c.args.file (wrote c.args.at c.args.bytes.now) p.files) c.begin.ensures.counted.plan

pub returns-clause-written : goal.returns-clause-written
returns-clause-written c t = write_has c.args.file c.args.at c.args.bytes.now c.args.self.now.files.entries c.write_in.new.files.entries (changed c)

pub returns-clause-alters : goal.returns-clause-alters
returns-clause-alters c = write_alters c.args.file c.args.at c.args.bytes.now c.args.self.now.files.entries c.write_in.new.files.entries (changed c)

pub returns-clause-goes_on : goal.returns-clause-goes_on
returns-clause-goes_on c = goes_on c.args.self.now.past.items c.begin.new.self.past.items c.args.self.now.files.entries c.write_in.new.files.entries (ap (λ (p : Plan). p.damages) c.begin.ensures.counted.plan) c.in_ok-begin.ensures.begins.past

pub returns-in_err-write_in-clause-alters : goal.returns-in_err-write_in-clause-alters
returns-in_err-write_in-clause-alters c = alters_nothing c.args.file (Torn c.args.at (length c.args.bytes.now)) c.args.self.now.files.entries c.write_in.new.files.entries (torn_same c.args.at (length c.args.bytes.now)) (c.in_err-write_in.ensures.err ∙ ap (λ (p : Plan). p.files) c.begin.ensures.counted.plan)
