use Rattle.std.proofs.Common.{All, ◌++◌, take}
use Rattle.at_geom.specs.Segments.{IsInRange}
use Rattle.at_hull.specs.Growth.{HaveOneHull}
use Rattle.at_hull.proofs.builder.push_outside.Given as goal

-- what is in the hull and what waits has the hull of what was there and of the points so far
abbrev pub invariant-loop-p : goal.invariant-loop-p
invariant-loop-p l = record {
  held : HaveOneHull ((l.hull ++ l.initial.waiting.items) ++ take l.p-index l.points) (l.hull ++ l.waiting.items);
  in_range : All IsInRange l.waiting.items;
}
