use Rattle.std.proofs.Common.{◌∙◌, sym}
use Rattle.raft_append.proofs.Matched.{earlier}
use Rattle.raft_append.proofs.commit.commit_candidate.Goals as goal

pub returns-then-is_before : goal.returns-then-is_before
returns-then-is_before c =
    let a = c.args in
    let before = c.is_before.ensures c.if-is_before.true in
    sym (earlier a.voters.now a.progress.now.matched a.log.now a.term a.commit c.loop-left.left before) ∙ c.loop-left.invariant.0
