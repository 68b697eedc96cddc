use Rattle.std.proofs.Common.{rules, ap, subst, sym, ◌∙◌}
use Rattle.std.specs.Map.{lookup}
use Rattle.std.specs.BTreeMap.{is_at}
use Rattle.std.specs.Ordering.{nat_cmp}
use Rattle.disk_model.specs.Files.{Files, lost, file_at, now_of, IsStill}
use Rattle.disk_model.proofs.Entries.{each_retained}
use Rattle.disk_model.proofs.Changed.{each_at}
use Rattle.disk_model.proofs.Lost.{lost_now, lost_still}
use Rattle.disk_model.proofs.files.lose_all.Goals as goal

pub returns-clause-files : goal.returns-clause-files
returns-clause-files c = each_retained _ (lost c.args.choice) _ (λ k v b w f' t. search (rules, t)) _ _ c.retain.ensures.filtered

pub returns-clause-at : goal.returns-clause-at
returns-clause-at c f =
    let es = c.args.files.now.entries in
    let is = each_retained _ (lost c.args.choice) _ (λ k v b w f' t. search (rules, t)) es c.retain.new.self.entries c.retain.ensures.filtered in
    ap (λ (x : Files). now_of (file_at f x)) is ∙ ap now_of (each_at f (lost c.args.choice) es c.retain.ensures.was_ordered) ∙ lost_now c.args.choice (lookup (is_at (nat_cmp f)) es)

pub returns-clause-still : goal.returns-clause-still
returns-clause-still c f =
    let es = c.args.files.now.entries in
    let is = each_retained _ (lost c.args.choice) _ (λ k v b w f' t. search (rules, t)) es c.retain.new.self.entries c.retain.ensures.filtered in
    subst IsStill (sym (ap (file_at f) is ∙ each_at f (lost c.args.choice) es c.retain.ensures.was_ordered)) (lost_still c.args.choice (lookup (is_at (nat_cmp f)) es))
