-- The innermost of what is open is one level, or nothing is open.
use Rattle.at_nest.specs.Shown.{opens_of}
use Rattle.at_nest.proofs.Nests.{popped_level}
use Rattle.at_nest.proofs.bodies.Body.pop.Goals as goal

pub returns-in-Some-clause-levels : goal.returns-in-Some-clause-levels
returns-in-Some-clause-levels g c = popped_level (opens_of c.args.self.now.levels) (opens_of c.pop.new.self) c.in-Some.open c.level.result c.requires c.in-Some.ensures c.level.ensures
