use Rattle.std.proofs.Common.{subst, sym}
use Rattle.log_record.specs.Durable.{IsInForm, Reaches}
use Rattle.log_record.specs.laws.Forms.{durable_in_form}
use Rattle.log_store.proofs.store.PlainStore.open.Goals as goal

pub invariant_of-result : goal.invariant_of-result
invariant_of-result g c =
    let f = durable_in_form c.args.file c.in_ok-file.records.items c.in_ok-file.file.reached c.in_ok-file.ensures.formed c.in_ok-file.ensures.reached in
    (subst IsInForm (sym c.in_ok-kept.ensures) f.0, subst (λ d. Reaches c.in_ok-file.file.reached d) (sym c.in_ok-kept.ensures) f.1)
