use Rattle.std.proofs.Common.{◌≡◌, [], ◌++◌, fold, reverse, sym, ap, ◌∙◌, subst, rules}
use Rattle.at_hull.specs.Hulls.{IsHull}
use Rattle.at_hull.specs.Walks.{pushed}
use Rattle.at_hull.proofs.Sorted.{hull_of_several}
use Rattle.at_hull.proofs.hulls.around.Goals as goal

pub returns : goal.returns
returns c =
    let up : reverse c.in_ok-chain.field-0.items ≡ fold pushed [] c.args.sorted.items = search rules in
    let over : c.reverse.new.self.items ≡ reverse c.args.sorted.items = c.reverse.ensures.items in
    let down : reverse c.in_ok-chain-2.field-0.items ≡ fold pushed [] c.reverse.new.self.items = search rules in
    let both : c.extend_from_slice.new.self.items ≡ c.without_last-hull.result.items ++ c.without_last-left.result.items = search rules in
    subst (IsHull c.args.sorted.items) (sym both)
    (hull_of_several c.args.sorted.items c.in_ok-chain.field-0.items c.in_ok-chain-2.field-0.items c.without_last-hull.result.items c.without_last-left.result.items
    c.requires.several c.requires.ascending up (down ∙ ap (fold pushed []) over) c.without_last-hull.ensures c.without_last-left.ensures)
