use Rattle.std.proofs.Common.{List, All, ◌<◌, length, sym, subst}
use Rattle.std.proofs.lemmas.Result.{IfOk-weaker}
use Rattle.at_geom.specs.declared.positions.Pos.{Pos}
use Rattle.at_geom.specs.Segments.{IsInRange}
use Rattle.at_geom.specs.Shapes.{positions}
use Rattle.at_hull.specs.Hulls.{IsHull}
use Rattle.at_query.specs.Parts.{IsHullInRange}
use Rattle.at_query.proofs.Hulls.{positions_in_range, hull_in_range, short_hull}
use Rattle.at_query.proofs.answer.shape_hulls.hull_of_few.Goals as goal

pub returns-then-as_slice-lt2 : goal.returns-then-as_slice-lt2
returns-then-as_slice-lt2 c =
    let P : List Pos → Type 0 = λ ps. IsHullInRange (positions c.args.shape) ps in
    let few = subst (λ (ps : List Pos). length ps < 2) c.in_ok-path.ensures (subst (λ (ps : List Pos). length ps < 2) c.as_slice.ensures c.if-as_slice-lt2.true) in
    subst P (sym c.in_ok-path.ensures) (short_hull (positions c.args.shape) (positions_in_range c.args.shape c.requires) few)

pub hull-requires : goal.hull-requires
hull-requires c = subst (All IsInRange) (sym c.in_ok-path.ensures) (positions_in_range c.args.shape c.requires)

pub returns : goal.returns
returns c = IfOk-weaker c.hull.result _ _
    (λ h k. hull_in_range (positions c.args.shape) h (positions_in_range c.args.shape c.requires) (subst (λ (ps : List Pos). IsHull ps h) c.in_ok-path.ensures k)) c.hull.ensures
