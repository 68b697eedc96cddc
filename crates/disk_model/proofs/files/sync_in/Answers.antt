use Rattle.std.proofs.Common.{◌≡◌, rules, ap, sym, ◌∙◌, Some, unwrap_or, true}
use Rattle.std.specs.Map.{lookup, set_value}
use Rattle.std.specs.BTreeMap.{is_at}
use Rattle.std.specs.Ordering.{nat_cmp}
use Rattle.disk_model.specs.Files.{FileState, synced, file_at, nothing}
use Rattle.disk_model.proofs.Plain.{plain_found}
use Rattle.disk_model.proofs.Changed.{cond_t}
use Rattle.disk_model.proofs.files.sync_in.Goals as goal

found : (c : goal.In-Some) → lookup (is_at (nat_cmp c.args.file)) c.args.files.now.entries ≡ Some c.in-Some.held.now
found c = search (rules, c.get_mut.ensures.value, c.in-Some.is)

pub sync-requires-clause-listed : goal.sync-requires-clause-listed
sync-requires-clause-listed c = (plain_found c.args.file c.args.files.now.entries c.in-Some.held.now c.requires (found c)).0

pub sync-requires-clause-gone : goal.sync-requires-clause-gone
sync-requires-clause-gone c = (plain_found c.args.file c.args.files.now.entries c.in-Some.held.now c.requires (found c)).1

found-2 : (c : goal.After-files-in-Some-1) → lookup (is_at (nat_cmp c.args.file)) c.args.files.now.entries ≡ Some c.in-Some.held.now
found-2 c = search (rules, c.get_mut.ensures.value, c.in-Some.is)

pub returns-in-Some : goal.returns-in-Some
returns-in-Some c =
    let es = c.args.files.now.entries in
    let K = is_at (nat_cmp c.args.file) in
    let at : file_at c.args.file es ≡ c.in-Some.held.now = ap (λ o. unwrap_or o nothing) (found-2 c) in
    let listed : (file_at c.args.file es).listed ≡ true = ap (λ (s : FileState). s.listed) at ∙ (plain_found c.args.file es c.in-Some.held.now c.requires (found-2 c)).0 in
    let through : (c.get_mut.follows.lender c.sync.new.self).entries ≡ set_value K es c.sync.new.self = search (rules, c.get_mut.follows, c.in-Some.ensures, c.in-Some.is) in
    through ∙ ap (set_value K es) (c.sync.ensures ∙ ap synced (sym at)) ∙ sym (cond_t _ (set_value K es (synced (file_at c.args.file es))) es listed)
