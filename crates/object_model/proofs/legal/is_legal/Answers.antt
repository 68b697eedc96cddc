use Rattle.std.proofs.Common.{sym, ◌∙◌}
use Rattle.object_model.proofs.Deciding.{decides_legal}
use Rattle.object_model.proofs.There.{ok_map}
use Rattle.object_model.proofs.legal.is_legal.Goals as goal

pub returns : goal.returns
returns c =
    ok_map _ _ c.decide.result c.decide.ensures
    (λ b e. let d = decides_legal c.args.limit c.args.list.now c.args.marks.now in (λ t. d.0 (sym e ∙ t), λ l. e ∙ d.1 l))
