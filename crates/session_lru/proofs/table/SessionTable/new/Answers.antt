use Rattle.std.proofs.Common.{refl}
use Rattle.object_model.specs.Sequence.{standing}
use Rattle.session_lru.proofs.table.SessionTable.new.Goals as goal

pub returns-clause-stands : goal.returns-clause-stands
unfolding standing
returns-clause-stands c = rw (c.in_ok-cache.ensures) (record { clients = refl; sessions = tt })
