use Rattle.std.proofs.Common.{inr, refl}
use Rattle.at_geom.proofs.Elements.{untrue}
use Rattle.at_band.proofs.TouchedShapes.{on_boundary, on_holes, inside_out, outside_out}
use Rattle.at_band.proofs.touches.rings_are_touched.Goals as goal

pub returns-in-Boundary : goal.returns-in-Boundary
returns-in-Boundary c = (λ _. on_boundary c.args.p c.args.exterior.now c.args.holes.now c.in-Boundary.ensures, λ _. refl)

pub returns-then-paths_are_touched : goal.returns-then-paths_are_touched
returns-then-paths_are_touched c = (λ _. on_holes c.args.p c.args.exterior.now c.args.holes.now (c.paths_are_touched.ensures.0 c.if-paths_are_touched.true), λ _. refl)

pub returns-else-paths_are_touched : goal.returns-else-paths_are_touched
returns-else-paths_are_touched c = (
  λ t. inr (inr c.in-Inside.ensures.1, c.is_in_no_hole.ensures.0 t),
  λ m. c.is_in_no_hole.ensures.1 (inside_out c.args.p c.args.exterior.now c.args.holes.now c.in-Inside.ensures.0 (untrue c.paths_are_touched.result c.if-paths_are_touched.false c.paths_are_touched.ensures.1) m),
)

pub returns-in-Outside : goal.returns-in-Outside
returns-in-Outside c = (
  λ t. on_holes c.args.p c.args.exterior.now c.args.holes.now (c.paths_are_touched-in-Outside.ensures.0 t),
  λ m. c.paths_are_touched-in-Outside.ensures.1 (outside_out c.args.p c.args.exterior.now c.args.holes.now c.in-Outside.ensures.0 c.in-Outside.ensures.1 m),
)
