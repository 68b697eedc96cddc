use Rattle.session_lru.proofs.Written.{reads_back}
use Rattle.session_lru.proofs.table.SessionTable.image.Goals as goal

pub returns-in_err-put_32-clause-reads_back : goal.returns-in_err-put_32-clause-reads_back
returns-in_err-put_32-clause-reads_back c = rw (← c.self.view_is) (reads_back _ c.self.invariant)

pub returns-in_err-put_32-2-clause-reads_back : goal.returns-in_err-put_32-2-clause-reads_back
returns-in_err-put_32-2-clause-reads_back c = rw (← c.self.view_is) (reads_back _ c.self.invariant)

pub returns-in_err-spell-clause-reads_back : goal.returns-in_err-spell-clause-reads_back
returns-in_err-spell-clause-reads_back c = rw (← c.self.view_is) (reads_back _ c.self.invariant)

pub returns-clause-reads_back : goal.returns-clause-reads_back
returns-clause-reads_back c = rw (← c.self.view_is) (reads_back _ c.self.invariant)
