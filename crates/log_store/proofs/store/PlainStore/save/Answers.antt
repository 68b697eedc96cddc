use Rattle.std.proofs.Common.{List, ap, sym, ◌+◌, ◌∙◌}
use Rattle.host_ids.specs.declared.entry.Entry.{Entry}
use Rattle.log_record.specs.Durable.{with_batch}
use Rattle.log_store.specs.Kept.{batch_of, with_entries}
use Rattle.log_store.proofs.Saving.{follows_there, form_there, saved_there, saving_there, store_there, untouched}
use Rattle.log_store.proofs.store.PlainStore.save.Goals as goal

pub returns-in_err-record-clause-any_moment : goal.returns-in_err-record-clause-any_moment
returns-in_err-record-clause-any_moment g c = λ honest is. untouched (g.D.Disk.state c.args.disk.now) c.args.self.now c.args.batch.now (g.met.D.Disk.sound c.args.disk.now) honest is

pub returns-in_err-copy-clause-any_moment : goal.returns-in_err-copy-clause-any_moment
returns-in_err-copy-clause-any_moment g c = λ honest is. untouched (g.D.Disk.state c.args.disk.now) c.args.self.now c.args.batch.now (g.met.D.Disk.sound c.args.disk.now) honest is

pub returns-in_err-more-clause-any_moment : goal.returns-in_err-more-clause-any_moment
returns-in_err-more-clause-any_moment g c = λ honest is. untouched (g.D.Disk.state c.args.disk.now) c.args.self.now c.args.batch.now (g.met.D.Disk.sound c.args.disk.now) honest is

pub returns-in_err-reserve-clause-any_moment : goal.returns-in_err-reserve-clause-any_moment
returns-in_err-reserve-clause-any_moment g c = λ honest is. untouched (g.D.Disk.state c.args.disk.now) c.args.self.now c.args.batch.now (g.met.D.Disk.sound c.args.disk.now) honest is

pub append-requires-clause-follows : goal.append-requires-clause-follows
append-requires-clause-follows g c = follows_there c.args.self.now c.self.inside.file (batch_of c.self.inside.kept) (sym c.self.view_is) c.args.batch.now c.in_ok-record.record c.in_ok-record.ensures c.requires

pub returns-in_err-append-clause-any_moment : goal.returns-in_err-append-clause-any_moment
returns-in_err-append-clause-any_moment g c = λ honest is.
    saving_there c.args.self.now c.self.inside.file (batch_of c.self.inside.kept) (sym c.self.view_is) c.args.batch.now c.in_ok-record.record c.in_ok-record.ensures (g.D.Disk.state c.args.disk.now) (g.D.Disk.state c.append.new.disk) is (c.in_err-append.ensures.any_moment is.records honest (store_there c.args.self.now c.self.inside.file (batch_of c.self.inside.kept) (sym c.self.view_is) c.args.batch.now c.in_ok-record.record c.in_ok-record.ensures (g.D.Disk.state c.args.disk.now) is))

pub returns-clause-any_moment : goal.returns-clause-any_moment
returns-clause-any_moment g c = λ honest is.
    saving_there c.args.self.now c.self.inside.file (batch_of c.self.inside.kept) (sym c.self.view_is) c.args.batch.now c.in_ok-record.record c.in_ok-record.ensures (g.D.Disk.state c.args.disk.now) (g.D.Disk.state c.append.new.disk) is (c.in_ok-append.ensures.any_moment is.records honest (store_there c.args.self.now c.self.inside.file (batch_of c.self.inside.kept) (sym c.self.view_is) c.args.batch.now c.in_ok-record.record c.in_ok-record.ensures (g.D.Disk.state c.args.disk.now) is))

pub returns-clause-sure : goal.returns-clause-sure
returns-clause-sure g c = λ honest is.
    saved_there c.args.self.now c.self.inside.file (batch_of c.self.inside.kept) (sym c.self.view_is) c.args.batch.now c.in_ok-record.record c.in_ok-record.ensures (g.D.Disk.state c.args.disk.now) (g.D.Disk.state c.append.new.disk) is c.append.new.self (batch_of c.take.new.self)
    (c.in_ok-take.ensures.kept ∙ ap (λ (l : List Entry). with_batch (record { id = 0; term = c.self.inside.kept.term; vote = c.self.inside.kept.vote; commit = c.self.inside.kept.commit; front = c.self.inside.kept.front; front_term = c.self.inside.kept.front_term; first = c.self.inside.kept.front + 1; entries = l }) (with_entries c.args.batch.now c.in_ok-more.more.items)) c.in_ok-reserve.ensures.items ∙ ap (λ (l : List Entry). with_batch (batch_of c.self.inside.kept) (with_entries c.args.batch.now l)) (c.in_ok-more.ensures ∙ c.in_ok-copy.ensures))
    (c.in_ok-append.ensures.saved is.records honest (store_there c.args.self.now c.self.inside.file (batch_of c.self.inside.kept) (sym c.self.view_is) c.args.batch.now c.in_ok-record.record c.in_ok-record.ensures (g.D.Disk.state c.args.disk.now) is))

pub invariant_of-self-2 : goal.invariant_of-self-2
invariant_of-self-2 g c =
    form_there c.args.self.now c.self.inside.file (batch_of c.self.inside.kept) (sym c.self.view_is) c.args.batch.now c.in_ok-record.record c.in_ok-record.ensures c.requires c.self.invariant.0 c.self.invariant.1 c.in_ok-take.ensures.fits (batch_of c.take.new.self)
    (c.in_ok-take.ensures.kept ∙ ap (λ (l : List Entry). with_batch (record { id = 0; term = c.self.inside.kept.term; vote = c.self.inside.kept.vote; commit = c.self.inside.kept.commit; front = c.self.inside.kept.front; front_term = c.self.inside.kept.front_term; first = c.self.inside.kept.front + 1; entries = l }) (with_entries c.args.batch.now c.in_ok-more.more.items)) c.in_ok-reserve.ensures.items ∙ ap (λ (l : List Entry). with_batch (batch_of c.self.inside.kept) (with_entries c.args.batch.now l)) (c.in_ok-more.ensures ∙ c.in_ok-copy.ensures))
    c.append.new.self.reached c.in_ok-append.ensures.reached
