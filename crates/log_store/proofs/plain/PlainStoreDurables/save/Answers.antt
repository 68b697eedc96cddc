use Rattle.log_store.proofs.Saving.{store_left}
use Rattle.log_store.proofs.plain.PlainStoreDurables.save.Goals as goal

pub returns-clause-any_moment : goal.returns-clause-any_moment
returns-clause-any_moment g c = λ honest is.
    store_left (g.D.Disk.state c.args.disk.now) (g.D.Disk.state c.save.new.disk) c.args.self.now c.args.batch.now (c.save.ensures.any_moment honest is)
