use Rattle.session_lru.proofs.Following.{registers_follow, closes_follow, commands_follow}
use Rattle.session_lru.proofs.laws.calls_follow.Goals as goal

pub returns : goal.returns
returns c = record { registers = registers_follow; closes = closes_follow; commands = commands_follow }
