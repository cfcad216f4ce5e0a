use Rattle.at_geom.specs.Segments.{IsInRange}
use Rattle.at_hull.proofs.Laws.{hull_elements}
use Rattle.at_hull.proofs.Members.{all_of_fewer}
use Rattle.at_hull_tests.proofs.tests.hull_in_range.Goals as goal

pub returns : goal.returns
returns c = all_of_fewer IsInRange c.in_ok-hull.field-0 c.args.points.now (hull_elements c.args.points.now c.in_ok-hull.field-0 c.in_ok-hull.ensures) c.requires
