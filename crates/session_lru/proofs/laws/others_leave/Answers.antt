use Rattle.session_lru.proofs.Standing.{others_leave}
use Rattle.session_lru.proofs.laws.others_leave.Goals as goal

pub returns : goal.returns
returns c = others_leave
