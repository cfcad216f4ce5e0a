use Rattle.std.proofs.Common.{◌++◌, All, sym, subst, rules}
use Rattle.std.proofs.lemmas.List.Elements.{All-nil}
use Rattle.std.proofs.lemmas.Option.{IfSome_then}
use Rattle.at_geom.specs.Segments.{IsInRange}
use Rattle.at_hull.specs.Hulls.{IsHull}
use Rattle.at_hull.specs.Growth.{HaveOneHull, held}
use Rattle.at_hull.proofs.Corners.{adds_nothing_settled}
use Rattle.at_hull.proofs.OneHull.{settled, whole_front, always_on_err}
use Rattle.at_hull.proofs.builder.HullBuilder.add_stretch.Goals as goal

pub returns-in_err-self-inside-clause-err : goal.returns-in_err-self-inside-clause-err
returns-in_err-self-inside-clause-err c =
    let o : HaveOneHull (held c.args.self.now ++ c.args.points.now) (c.self.inside.hull.items ++ c.push_outside.new.waiting.items) = search rules in
    always_on_err c.from_residual-in_err-self-inside.result (whole_front c.args.self.now (record { hull = c.self.inside.hull.items; waiting = c.push_outside.new.waiting.items }) c.args.points.now o)

pub returns-clause-held : goal.returns-clause-held
returns-clause-held c =
    let o : HaveOneHull (held c.args.self.now ++ c.args.points.now) (c.self.inside.hull.items ++ c.push_outside.new.waiting.items) = search rules in
    let h : IsHull (c.self.inside.hull.items ++ c.push_outside.new.waiting.items) c.in_ok-self-inside.field-0.items = search rules in
    let own : IsHull c.in_ok-self-inside.field-0.items c.in_ok-self-inside.field-0.items = search rules in
    settled (held c.args.self.now ++ c.args.points.now) c.self.inside.hull.items c.push_outside.new.waiting.items c.in_ok-self-inside.field-0.items c.clear.new.self.items o h own c.clear.ensures.items

pub invariant_of-self-2 : goal.invariant_of-self-2
invariant_of-self-2 c =
    let h : IsHull (c.self.inside.hull.items ++ c.push_outside.new.waiting.items) c.in_ok-self-inside.field-0.items = search rules in
    let own : IsHull c.in_ok-self-inside.field-0.items c.in_ok-self-inside.field-0.items = search rules in
    record {
      own = own;
      hull_in_range = search rules;
      waiting_in_range = subst (All IsInRange) (sym c.clear.ensures.items) (All-nil IsInRange);
      inner_in_range = c.self.invariant.inner_in_range;
      covered = IfSome_then c.self.inside.inner c.self.invariant.covered (λ e f. adds_nothing_settled c.self.inside.hull.items c.push_outside.new.waiting.items c.in_ok-self-inside.field-0.items e h own f);
    }
