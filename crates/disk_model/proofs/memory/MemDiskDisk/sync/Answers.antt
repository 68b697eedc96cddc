use Rattle.std.proofs.Common.{◌≡◌, ℕ, Bool, true, ap, ◌∙◌}
use Rattle.disk_model.specs.Plan.{Plan}
use Rattle.disk_model.specs.Plain.{are_plain, purged_at}
use Rattle.disk_model.specs.Files.{file_at, synced, change_listed}
use Rattle.disk_model.proofs.Settled.{settled_at, settled_files, sync_keeps, sync_sure}
use Rattle.disk_model.proofs.Plain.{plain_forgotten_all, plain_change_listed, from_plain, to_plain}
use Rattle.disk_model.proofs.memory.MemDiskDisk.sync.Goals as goal

pub sync_in-requires : goal.sync_in-requires
sync_in-requires c = ap are_plain c.purge.ensures.files ∙ plain_forgotten_all c.begin.new.self.files.entries

pub invariant_of-self : goal.invariant_of-self
invariant_of-self c = record { plain = λ _. ap are_plain c.sync_in.ensures ∙ to_plain (change_listed c.args.file synced c.purge.new.files.entries) (plain_change_listed c.args.file synced c.purge.new.files.entries (λ s listed gone. record { listed = listed; gone = gone }) (from_plain c.purge.new.files.entries (ap are_plain c.purge.ensures.files ∙ plain_forgotten_all c.begin.new.self.files.entries))) }

at : (c : goal.After-self-1) (f : ℕ) → (this : Bool) × (file_at f c.sync_in.new.files.entries ≡ settled_at this (file_at f c.args.self.now.files.entries)) × (f ≡ c.args.file → this ≡ true)
at c = settled_files c.args.file c.args.self.now.files.entries c.purge.new.files.entries c.sync_in.new.files.entries (λ f. c.purge.ensures.at f ∙ ap (λ (p : Plan). purged_at (file_at f p.files)) c.begin.ensures.counted.plan) c.sync_in.ensures

pub returns-clause-sure : goal.returns-clause-sure
returns-clause-sure c h = sync_sure c.args.file c.args.self.now.files.entries c.sync_in.new.files.entries (at c)

pub returns-clause-keeps : goal.returns-clause-keeps
returns-clause-keeps c = sync_keeps c.args.file c.args.self.now.files.entries c.sync_in.new.files.entries (at c)
