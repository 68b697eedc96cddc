use Rattle.std.proofs.Common.{◌≡◌, true, sym, subst}
use Rattle.host_ids.specs.declared.entry.Entry.{Entry}
use Rattle.raft_model.specs.Fit.{is_fit}
use Rattle.script_parts.proofs.Fits.{fit_at}
use Rattle.script_parts.proofs.cell.apply_all.Goals as goal

pub apply_one-requires-clause-fit : goal.apply_one-requires-clause-fit
apply_one-requires-clause-fit c =
    subst (λ (e : Entry). is_fit e.proposal ≡ true) (sym c.entry-item.is) (fit_at c.args.entries.now c.loop-entry.entry-index c.entry-item.result c.loop-entry-test.true c.requires.fit)
