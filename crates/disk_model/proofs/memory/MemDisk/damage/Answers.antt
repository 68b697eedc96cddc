use Rattle.std.proofs.Common.{List, ap, refl}
use Rattle.disk_model.specs.declared.damage.Damage.{Damage}
use Rattle.disk_model.proofs.memory.MemDisk.damage.Goals as goal

pub returns-clause-plan : goal.returns-clause-plan
returns-clause-plan c = (record { loss = c.args.loss; file = c.args.file; bytes = c.in_ok-bytes.bytes }, refl, refl, c.in_ok-bytes.ensures.items, ap (λ (ds : List Damage). record { made = c.args.self.now.calls.made; failing = c.args.self.now.calls.failing.items; last = c.args.self.now.calls.last; losses = c.args.self.now.losses; damages = ds; files = c.args.self.now.files.entries }) c.in_ok-push.ensures.items)
