use Rattle.object_model.proofs.Courses.{follows_none}
use Rattle.object_model.proofs.course.Course.new.Goals as goal

pub invariant_of-result : goal.invariant_of-result
invariant_of-result c = rw (c.new.ensures.items, c.new-2.ensures.items, c.new-3.ensures) (follows_none c.args.limit)
