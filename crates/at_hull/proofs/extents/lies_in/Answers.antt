use Rattle.std.proofs.Common.{Option, sym, ◌∙◌, subst}
use Rattle.std.specs.Prelude.{IfSome}
use Rattle.at_geom.specs.declared.rectangles.Extent.{Extent}
use Rattle.at_hull.specs.Growth.{AddsNothing}
use Rattle.at_hull.proofs.Corners.{adds_nothing_inside}
use Rattle.at_hull.proofs.extents.lies_in.Goals as goal

pub returns : goal.returns
returns c = λ t hull f.
    adds_nothing_inside hull c.in-Some.inner c.args.extent (sym c.contains.ensures ∙ c.if-not-contains.false) (sym c.contains-2.ensures ∙ t) (subst (λ (o : Option Extent). IfSome o (AddsNothing hull)) c.in-Some.is f)
