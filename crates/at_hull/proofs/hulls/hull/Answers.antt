use Rattle.std.proofs.Common.{subst}
use Rattle.std.proofs.lemmas.Result.{IfOk-weaker}
use Rattle.at_hull.specs.Hulls.{HasSame}
use Rattle.at_hull.proofs.Laws.{hull_of_same}
use Rattle.at_hull.proofs.hulls.hull.Goals as goal

pub returns : goal.returns
returns c = IfOk-weaker c.hull_of_sorted.result _ _ (λ h k. hull_of_same c.in_ok-sorted_once.field-0.items c.args.points.now _ (subst (HasSame c.in_ok-sorted_once.field-0.items) c.as_slice.ensures c.in_ok-sorted_once.ensures.same) k) c.hull_of_sorted.ensures
