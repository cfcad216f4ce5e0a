-- The two parts are neighbours.
use Rattle.at_nest_tests.proofs.tests.joined.Goals as goal

pub merge-requires-clause-neighbours : goal.merge-requires-clause-neighbours
merge-requires-clause-neighbours g c κs within = (c.args.span.from, c.args.at, c.args.span.to, (record { first = c.requires.before; second = c.requires.order; within = c.requires.end; left = c.requires.left; right = c.requires.right }))

pub returns : goal.returns
returns g c = c.merge.ensures.union c.args.span.from c.args.at c.args.span.to (record { first = c.requires.before; second = c.requires.order; within = c.requires.end; left = c.requires.left; right = c.requires.right })
