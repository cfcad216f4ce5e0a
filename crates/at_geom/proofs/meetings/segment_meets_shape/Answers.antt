use Rattle.std.proofs.Common.{sym, ◌∙◌, rules}
use Rattle.std.proofs.lemmas.Bool.{false≢true}
use Rattle.at_geom.specs.Segments.{HaveCommonPoint}
use Rattle.at_geom.proofs.Found.{touches}
use Rattle.at_geom.proofs.Finding.{found_means}
use Rattle.at_geom.proofs.meetings.segment_meets_shape.Goals as goal

pub returns-then-not-touches_box : goal.returns-then-not-touches_box
returns-then-not-touches_box c = (
  λ t. absurd (false≢true t),
  λ h.
      let t = touches c.args.around c.args.a c.args.b c.args.shape.now c.requires.covered h in
      absurd (false≢true (sym c.if-not-touches_box.true ∙ c.touches_box.ensures.1 (t.right, t.left, t.above, t.below))),
)

pub returns : goal.returns
returns c = found_means (λ e. HaveCommonPoint c.args.a c.args.b e.0 e.1) c.some_segment.ensures (λ e b said. search rules)
