use Rattle.std.proofs.Common.{◌≡◌, [], All, fold, reverse, take}
use Rattle.at_geom.specs.Segments.{IsInRange}
use Rattle.at_hull.specs.Walks.{pushed}
use Rattle.at_hull.proofs.chains.chain.Given as goal

-- the chain over the positions so far
abbrev pub invariant-loop-p : goal.invariant-loop-p
invariant-loop-p l = record {
  walked : reverse l.way.items ≡ fold pushed [] (take l.p-index l.points);
  in_range : All IsInRange l.way.items;
}
