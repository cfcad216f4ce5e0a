use Rattle.std.proofs.Common.{◌-◌, ◌≤◌, ◌++◌, length, take}
use Rattle.at_hull.specs.Growth.{HaveOneHull, held}
use Rattle.at_hull.proofs.builder.HullBuilder.add.Given as goal

-- what is held has the hull of what was held and of the positions so far
abbrev pub invariant-stretches : goal.invariant-stretches
invariant-stretches l = record {
  inside : l.at ≤ length l.points;
  held : HaveOneHull (held l.fn.self ++ take l.at l.points) (held l.self);
}

abbrev pub decreases-stretches : goal.decreases-stretches
decreases-stretches l = length l.points - l.at
