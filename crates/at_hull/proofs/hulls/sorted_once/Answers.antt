use Rattle.std.proofs.Common.{◌≡◌, ℤ, sym, subst, rules}
use Rattle.std.specs.List.{dedup}
use Rattle.std.specs.List.Sorted.{IsSorted}
use Rattle.std.proofs.lemmas.List.Filters.{dedup_is}
use Rattle.std.proofs.lemmas.List.Sorted.{answers_always}
use Rattle.at_geom.specs.declared.positions.Pos.{Pos}
use Rattle.at_geom.specs.Segments.{IsInRange}
use Rattle.at_hull.specs.Hulls.{IsAscending, HasSame}
use Rattle.at_hull.proofs.Members.{all_of_fewer}
use Rattle.at_hull.proofs.Sorts.{order, is_same, ascending_once, same_moved}
use Rattle.at_hull.proofs.hulls.sorted_once.Goals as goal

abbrev key_of : Pos → ℤ × ℤ
key_of p = (p.y, p.x)

pub returns-clause-ascending : goal.returns-clause-ascending
returns-clause-ascending c =
    let is : c.dedup.new.self.items ≡ dedup is_same c.sort_by_key.new.self.items = dedup_is _ _ _ c.dedup.ensures.filtered in
    let up : IsSorted order c.sort_by_key.new.self.items = c.in_ok-sort_by_key.ensures.sorted key_of (answers_always _ (λ a r. r ≡ key_of a.0.now) _ (λ f a r q k. search rules)) in
    subst IsAscending (sym is) (ascending_once c.sort_by_key.new.self.items up)

pub returns-clause-same : goal.returns-clause-same
returns-clause-same c =
    let is : c.dedup.new.self.items ≡ dedup is_same c.sort_by_key.new.self.items = dedup_is _ _ _ c.dedup.ensures.filtered in
    let all : c.extend_from_slice.new.self.items ≡ c.args.points.now = search rules in
    subst (λ ys. HasSame ys c.args.points.now) (sym is)
    (subst (λ ps. HasSame (dedup is_same c.sort_by_key.new.self.items) ps) all (same_moved c.extend_from_slice.new.self.items c.sort_by_key.new.self.items c.in_ok-sort_by_key.ensures.permutation))

pub returns-clause-in_range : goal.returns-clause-in_range
returns-clause-in_range c =
    let same : HasSame c.dedup.new.self.items c.args.points.now = returns-clause-same c in
    all_of_fewer IsInRange c.dedup.new.self.items c.args.points.now same.0 c.requires
