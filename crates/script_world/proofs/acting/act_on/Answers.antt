use Rattle.std.proofs.Common.{ap, sym, ◌∙◌, refl}
use Rattle.raft_model.specs.Group.{Group, act}
use Rattle.script_world.proofs.Lanes.{act_leaves, kept_group, refused_leaves}
use Rattle.script_world.proofs.acting.act_on.Goals as goal

pub returns-in-Ok-clause-voters : goal.returns-in-Ok-clause-voters
returns-in-Ok-clause-voters c = ap (λ (g : Group). g.voters) c.in-Ok.ensures.group ∙ (act_leaves c.args.event c.args.lane.now.group).voters

pub returns-else-is_memory-clause-group : goal.returns-else-is_memory-clause-group
returns-else-is_memory-clause-group c =
    (refused_leaves c.args.event c.args.lane.now.group c.act.new.self.group c.in-Err.fault (act c.args.event c.args.lane.now.group).refused refl c.in-Err.ensures.memory (kept_group c.args.lane.now c.act.new.self (act c.args.event c.args.lane.now.group).refused c.in-Err.ensures.kept) (sym c.is_memory.ensures ∙ c.if-is_memory.false)).0

pub returns-else-is_memory-clause-notes : goal.returns-else-is_memory-clause-notes
returns-else-is_memory-clause-notes c =
    c.new.ensures.items ∙ sym (refused_leaves c.args.event c.args.lane.now.group c.act.new.self.group c.in-Err.fault (act c.args.event c.args.lane.now.group).refused refl c.in-Err.ensures.memory (kept_group c.args.lane.now c.act.new.self (act c.args.event c.args.lane.now.group).refused c.in-Err.ensures.kept) (sym c.is_memory.ensures ∙ c.if-is_memory.false)).1
