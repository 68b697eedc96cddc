use Rattle.session_lru.proofs.Written.{reads_back}
use Rattle.session_lru.proofs.Opened.{spells_one}
use Rattle.session_lru.proofs.laws.sections_are_read.Goals as goal

pub returns-clause-back : goal.returns-clause-back
returns-clause-back c = reads_back

pub returns-clause-one : goal.returns-clause-one
returns-clause-one c = spells_one
