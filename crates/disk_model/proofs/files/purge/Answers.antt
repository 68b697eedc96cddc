use Rattle.std.proofs.Common.{rules, ap, sym, ◌∙◌}
use Rattle.disk_model.specs.Files.{forgotten, file_at}
use Rattle.disk_model.proofs.Entries.{each_retained}
use Rattle.disk_model.proofs.Plain.{plain_purged, from_plain, purged_each, purged_plain}
use Rattle.disk_model.proofs.files.purge.Goals as goal

pub returns-then-pending-clause-files : goal.returns-then-pending-clause-files
returns-then-pending-clause-files c = each_retained _ forgotten _ (λ k v b w f' t. search (rules, t)) _ _ c.retain.ensures.filtered

pub returns-then-pending-clause-at : goal.returns-then-pending-clause-at
returns-then-pending-clause-at c f = ap (file_at f) (each_retained _ forgotten _ (λ k v b w f' t. search (rules, t)) _ _ c.retain.ensures.filtered) ∙ purged_each f c.args.files.now.entries c.retain.ensures.was_ordered

pub returns-else-pending-clause-files : goal.returns-else-pending-clause-files
returns-else-pending-clause-files c = sym (plain_purged c.args.files.now.entries (from_plain c.args.files.now.entries (c.requires c.if-pending.false)))

pub returns-else-pending-clause-at : goal.returns-else-pending-clause-at
returns-else-pending-clause-at c f = purged_plain f c.args.files.now.entries (from_plain c.args.files.now.entries (c.requires c.if-pending.false))
