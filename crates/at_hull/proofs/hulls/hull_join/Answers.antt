use Rattle.std.proofs.Common.{◌++◌, rules}
use Rattle.at_hull.specs.Hulls.{IsHull}
use Rattle.at_hull.proofs.Laws.{hull_of_both}
use Rattle.at_hull.proofs.hulls.hull_join.Goals as goal

pub returns : goal.returns
returns c =
    let h : IsHull (c.args.a.now ++ c.args.b.now) c.from_vec.result = search rules in
    λ ps qs k l. hull_of_both ps qs c.args.a.now c.args.b.now c.from_vec.result k l h
