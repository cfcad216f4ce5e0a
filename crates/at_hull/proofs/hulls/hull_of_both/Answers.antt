use Rattle.std.proofs.Common.{◌++◌, rules}
use Rattle.std.proofs.lemmas.List.Elements.{All-append}
use Rattle.at_geom.specs.Segments.{IsInRange}
use Rattle.at_hull.specs.Hulls.{IsHull}
use Rattle.at_hull.proofs.Laws.{hull_of_hull, hull_elements}
use Rattle.at_hull.proofs.Members.{all_of_fewer}
use Rattle.at_hull.proofs.hulls.hull_of_both.Goals as goal

pub returns-clause-own : goal.returns-clause-own
returns-clause-own c =
    let h : IsHull (c.args.first.now ++ c.args.second.now) c.into_vec.result.items = search rules in
    hull_of_hull (c.args.first.now ++ c.args.second.now) c.into_vec.result.items h

pub returns-clause-in_range : goal.returns-clause-in_range
returns-clause-in_range c =
    let h : IsHull (c.args.first.now ++ c.args.second.now) c.into_vec.result.items = search rules in
    let all = All-append IsInRange c.args.first.now c.args.second.now c.requires.first_in_range c.requires.second_in_range in
    all_of_fewer IsInRange c.into_vec.result.items (c.args.first.now ++ c.args.second.now) (hull_elements _ _ h) all
