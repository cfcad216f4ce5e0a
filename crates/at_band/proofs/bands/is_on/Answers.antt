use Rattle.std.proofs.Common.{inr, sym, ◌∙◌}
use Rattle.std.proofs.lemmas.Bool.{false≢true}
use Rattle.at_band.proofs.TouchedShapes.{only_in, on_band_part, on_band_whole}
use Rattle.at_band.proofs.bands.is_on.Goals as goal

pub returns-then-not-touches_box : goal.returns-then-not-touches_box
returns-then-not-touches_box c = (
  λ t. inr (c.position_is_in.ensures.0 t),
  λ m. c.position_is_in.ensures.1 (only_in c.args.frame.around c.args.p c.args.shape.now c.requires.kept.framed.extent_is (λ t. false≢true (sym c.if-not-touches_box.true ∙ c.touches_box.ensures.1 (t.right, t.left, t.above, t.below))) m),
)

pub shape_is_touched-requires-2-clause-shape_in_range : goal.shape_is_touched-requires-2-clause-shape_in_range
shape_is_touched-requires-2-clause-shape_in_range c = c.in-Some.ensures.1.ranged c.requires.shape_in_range

pub returns : goal.returns
returns c = (
  λ t. on_band_whole c.args.shape.now c.in-Some.band.now c.args.p c.in-Some.ensures.1 c.in-Some.ensures.0 (c.shape_is_touched-2.ensures.0 t),
  λ m. c.shape_is_touched-2.ensures.1 (on_band_part c.args.shape.now c.in-Some.band.now c.args.p c.in-Some.ensures.1 c.in-Some.ensures.0 m),
)
