use Rattle.std.proofs.Common.{sym, ◌∙◌}
use Rattle.std.proofs.lemmas.Bool.{false≢true}
use Rattle.at_geom.proofs.Found.{touches}
use Rattle.at_band.proofs.bands.segment_meets_kept.Goals as goal

pub returns-then-not-touches_box : goal.returns-then-not-touches_box
returns-then-not-touches_box c = (
  λ t. absurd (false≢true t),
  λ h.
      let t = touches c.args.frame.around c.args.a c.args.b c.args.shape.now c.requires.kept.framed.extent_is h in
      absurd (false≢true (sym c.if-not-touches_box.true ∙ c.touches_box.ensures.1 (t.right, t.left, t.above, t.below))),
)
