-- The two parts are neighbours.
use Rattle.std.proofs.Common.{◌≤◌, arith}
use Rattle.at_geojson_tests.proofs.tests.joined.Goals as goal

pub merge-requires-clause-neighbours : goal.merge-requires-clause-neighbours
merge-requires-clause-neighbours c κs = let low : 0 ≤ c.args.at = omega arith in (0, c.args.at, c.args.to, (record { first = low; second = c.requires.order; within = c.requires.end; left = c.requires.left; right = c.requires.right }))

pub returns : goal.returns
returns c = let low : 0 ≤ c.args.at = omega arith in c.merge.ensures.union 0 c.args.at c.args.to (record { first = low; second = c.requires.order; within = c.requires.end; left = c.requires.left; right = c.requires.right })
